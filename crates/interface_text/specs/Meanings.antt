-- What names stand for.
use Rattle.std.specs.Prelude.{ℕ, List, [], ◌∷◌, Option, Some, None, if◌then◌else◌}
use Rattle.std.specs.Map.{lookup}
use Rattle.interface_text.specs.Kinds.{Kind}
use Rattle.interface_tokens.specs.Names.{is_same}

-- a type that a name stands for: the type, its depth and its parts
pub record KnownType : Type 0 where
  pub kind : Kind
  pub depth : ℕ
  pub parts : ℕ

-- a type, an exception by its number from 1, or a procedure
pub data Sense : Type 0 where
  a_type : KnownType → Sense
  an_exception : ℕ → Sense
  a_procedure : Sense

-- what a name stands for among some names
abbrev pub look_up : List ℕ → List (List ℕ × Sense) → Option Sense
look_up name senses = lookup (is_same name) senses

abbrev pub type_in : Option Sense → Option KnownType
type_in (Some (a_type k)) = Some k
type_in (Some (an_exception n)) = None
type_in (Some a_procedure) = None
type_in None = None

abbrev pub exception_in : Option Sense → Option ℕ
exception_in (Some (an_exception n)) = Some n
exception_in (Some (a_type k)) = None
exception_in (Some a_procedure) = None
exception_in None = None

-- a name is declared with what it stands for; one that is new goes last
abbrev pub declare : List (List ℕ × Sense) → List ℕ → Sense → List (List ℕ × Sense)
declare [] name sense = (name, sense) ∷ []
declare (e ∷ es) name sense = if is_same name e.0 then (e.0, sense) ∷ es else e ∷ declare es name sense
