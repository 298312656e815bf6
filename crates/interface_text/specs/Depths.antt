-- How deep types go, and how many procedures there are: the limits that an interface keeps to.
use Rattle.std.specs.Prelude.{◌≤◌, ◌+◌, ℕ, max, List, length, map, All}
use Rattle.interface_text.specs.declared.interface.Procedure.{Procedure}
use Rattle.interface_text.specs.declared.shape.Shape.{Shape}
use Rattle.interface_text.specs.Interfaces.{DeclaredInterface, DeclaredProcedure}
use Rattle.interface_text.specs.Kinds as kind
use Rattle.interface_text.specs.Kinds.{Kind, Kinds, kind_of, row}

abbrev mutual
  -- a basic type and an enumeration are 1 deep, an array or a record one more than its deepest part
  pub depth : Kind → ℕ
  depth (kind.array n k) = depth k + 1
  depth (kind.open_array n k) = depth k + 1
  depth (kind.fields ks) = deepest ks + 1
  depth _ = 1

  pub deepest : Kinds → ℕ
  deepest kind.none = 0
  deepest (kind.first_then k ks) = max (depth k) (deepest ks)

-- no type of these is deeper than 16
abbrev pub AreShallow : List Shape → Type 0
AreShallow shapes = deepest (row (map kind_of shapes)) ≤ 16

pub record IsShallow (p : Procedure) : Type 0 where
  pub arguments : AreShallow p.arguments
  pub reply : AreShallow p.reply

-- the same of what is declared
pub record DeclaresShallow (p : DeclaredProcedure) : Type 0 where
  pub arguments : deepest (row p.arguments) ≤ 16
  pub reply : deepest (row p.reply) ≤ 16

-- at most 256 procedures, and no type deeper than 16
pub record IsWithinLimits (i : DeclaredInterface) : Type 0 where
  pub few : length i.procedures ≤ 256
  pub shallow : All DeclaresShallow i.procedures
