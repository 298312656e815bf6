-- What an interface declares, as plain data.
use Rattle.std.specs.Prelude.{ℕ, List}
use Rattle.interface_text.specs.Kinds.{Kind}

-- a procedure: its name, the line of its declaration, the numbers of its exceptions, and the types of its arguments and of its reply
pub record DeclaredProcedure : Type 0 where
  pub name : List ℕ
  pub line : ℕ
  pub raises : List ℕ
  pub arguments : List Kind
  pub reply : List Kind

-- an interface: its name, the names of its exceptions, and its procedures
pub record DeclaredInterface : Type 0 where
  pub name : List ℕ
  pub exceptions : List (List ℕ)
  pub procedures : List DeclaredProcedure
