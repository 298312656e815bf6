-- The types of an interface as plain data, with their names resolved.
use Rattle.std.specs.Prelude.{ℕ, List, [], ◌∷◌, map}
use Rattle.interface_text.specs.declared.shape.Shape.{Shape}
use Rattle.interface_text.specs.declared.shape.Shape.TheOpen.{Shape-F}
use Rattle.interface_text.specs.declared.shape.Shape.TheOpen as shape
use Rattle.interface_text.specs.declared.shape.Shape.TheFolds.{fold-Shape}

mutual
  -- a type
  pub data Kind : Type 0 where
    boolean : Kind
    byte : Kind
    cardinal : Kind
    integer : Kind
    longcard : Kind
    -- an enumeration of so many values
    choice : ℕ → Kind
    -- an array of so many elements, and one of at most so many
    array : ℕ → Kind → Kind
    open_array : ℕ → Kind → Kind
    fields : Kinds → Kind

  -- types in a row: none, or a first one and the row behind it
  pub data Kinds : Type 0 where
    none : Kinds
    first_then : Kind → Kinds → Kinds

abbrev pub row : List Kind → Kinds
row [] = none
row (k ∷ ks) = first_then k (row ks)

abbrev pub kind_step : Shape-F Kind → Kind
kind_step shape.Bool = boolean
kind_step shape.Byte = byte
kind_step shape.Cardinal = cardinal
kind_step shape.Integer = integer
kind_step shape.LongCard = longcard
kind_step (shape.Choice count) = choice count
kind_step (shape.Array n part) = array n part.value
kind_step (shape.Open n part) = open_array n part.value
kind_step (shape.Fields parts) = fields (row parts.items)

-- the type that a shape is
abbrev pub kind_of : Shape → Kind
kind_of = fold-Shape Kind kind_step

abbrev pub kinds_of : List Shape → List Kind
kinds_of shapes = map kind_of shapes
