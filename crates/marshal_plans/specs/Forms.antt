-- The types of an interface as their bytes are: numbers, arrays and records.
use Rattle.std.specs.Prelude.{List, map}
use Rattle.interface_text.specs.declared.shape.Shape.{Shape}
use Rattle.interface_text.specs.Kinds as kind
use Rattle.interface_text.specs.Kinds.{Kind, Kinds, kind_of, row}
use Rattle.marshal_plans.specs.declared.basic.Basic.{Basic}
use Rattle.marshal_plans.specs.declared.basic.Basic.TheVariants as basic
use Rattle.marshal_plans.specs.declared.instruction.Extent.{Extent}
use Rattle.marshal_plans.specs.declared.instruction.Extent.TheVariants.{Exactly, UpTo}

mutual
  -- a type: its values are numbers, or groups of elements of one type, or groups of fields
  pub data Form : Type 0 where
    number : Basic → Form
    array : Extent → Form → Form
    record_of : Forms → Form

  -- types in a row: none, or a first one and the row behind it
  pub data Forms : Type 0 where
    no_forms : Forms
    form_then : Form → Forms → Forms

abbrev mutual
  pub form_of : Kind → Form
  form_of kind.boolean = number basic.Bool
  form_of kind.byte = number basic.Byte
  form_of kind.cardinal = number basic.Cardinal
  form_of kind.integer = number basic.Integer
  form_of kind.longcard = number basic.LongCard
  form_of (kind.choice count) = number (basic.Choice count)
  form_of (kind.array n k) = array (Exactly n) (form_of k)
  form_of (kind.open_array n k) = array (UpTo n) (form_of k)
  form_of (kind.fields ks) = record_of (forms_of ks)

  pub forms_of : Kinds → Forms
  forms_of kind.none = no_forms
  forms_of (kind.first_then k ks) = form_then (form_of k) (forms_of ks)

-- the type that a shape is
abbrev pub form_in : Shape → Form
form_in shape = form_of (kind_of shape)

abbrev pub forms_in : List Shape → Forms
forms_in shapes = forms_of (row (map kind_of shapes))
