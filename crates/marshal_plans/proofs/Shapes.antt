-- The types that shapes are.
use Rattle.std.proofs.Common.{◌≡◌, ◌∙◌, ap, sym, ℕ, map, Box, Vec, Global}
use Rattle.interface_text.specs.declared.shape.Shape.{Shape}
use Rattle.interface_text.specs.declared.shape.Shape.TheOpen as shape
use Rattle.interface_text.specs.declared.shape.Shape.TheViews.{Array, Open, Fields, rolls-Array, rolls-Open, rolls-Fields}
use Rattle.interface_text.specs.declared.shape.Shape.TheFolds.{fold-roll-Shape}
use Rattle.interface_text.specs.Kinds as kind
use Rattle.interface_text.specs.Kinds.{Kind, kind_step, kind_of, row}
use Rattle.marshal_plans.specs.declared.instruction.Extent.TheVariants.{Exactly, UpTo}
use Rattle.marshal_plans.specs.Forms.{array, record_of, form_of, form_in, forms_in}

pub kind_fields : (parts : Vec Shape Global) → kind_of (Fields parts) ≡ kind.fields (row (map kind_of parts.items))
kind_fields parts = ap kind_of (sym (rolls-Fields parts)) ∙ fold-roll-Shape Kind kind_step (shape.Fields parts)

pub kind_array : (n : ℕ) (part : Box Shape Global) → kind_of (Array n part) ≡ kind.array n (kind_of part.value)
kind_array n part = ap kind_of (sym (rolls-Array n part)) ∙ fold-roll-Shape Kind kind_step (shape.Array n part)

pub kind_open : (n : ℕ) (part : Box Shape Global) → kind_of (Open n part) ≡ kind.open_array n (kind_of part.value)
kind_open n part = ap kind_of (sym (rolls-Open n part)) ∙ fold-roll-Shape Kind kind_step (shape.Open n part)

pub form_fields : (parts : Vec Shape Global) → form_in (Fields parts) ≡ record_of (forms_in parts.items)
form_fields parts = ap form_of (kind_fields parts)

pub form_array : (n : ℕ) (part : Box Shape Global) → form_in (Array n part) ≡ array (Exactly n) (form_in part.value)
form_array n part = ap form_of (kind_array n part)

pub form_open : (n : ℕ) (part : Box Shape Global) → form_in (Open n part) ≡ array (UpTo n) (form_in part.value)
form_open n part = ap form_of (kind_open n part)
