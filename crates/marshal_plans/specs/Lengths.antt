-- The least and the greatest length of an encoding, in bytes, and which plans are too long.
use Rattle.std.specs.Prelude.{ℕ, ◌+◌, ◌*◌, ◌-◌, ◌^◌, nat_lt, min, List, [], ◌∷◌, Option, Some, None, if◌then◌else◌}
use Rattle.interface_text.specs.declared.interface.Procedure.{Procedure}
use Rattle.marshal_plans.specs.declared.fault.PlanFault.{PlanFault}
use Rattle.marshal_plans.specs.declared.fault.PlanFault.TheVariants.{TooLong}
use Rattle.marshal_plans.specs.declared.instruction.Extent.{Extent}
use Rattle.marshal_plans.specs.declared.instruction.Extent.TheVariants.{Exactly, UpTo}
use Rattle.marshal_plans.specs.Basics.{width}
use Rattle.marshal_plans.specs.Forms.{Form, Forms, number, array, record_of, no_forms, form_then, forms_in}

abbrev pub least_array : Extent → ℕ → ℕ
least_array (Exactly n) element = n * element
least_array (UpTo n) element = 4

abbrev pub largest_array : Extent → ℕ → ℕ
largest_array (Exactly n) element = n * element
largest_array (UpTo n) element = 4 + n * element

abbrev mutual
  pub least : Form → ℕ
  least (number b) = width b
  least (array extent f) = least_array extent (least f)
  least (record_of fs) = least_all fs

  pub least_all : Forms → ℕ
  least_all no_forms = 0
  least_all (form_then f fs) = least f + least_all fs

abbrev mutual
  pub largest : Form → ℕ
  largest (number b) = width b
  largest (array extent f) = largest_array extent (largest f)
  largest (record_of fs) = largest_all fs

  pub largest_all : Forms → ℕ
  largest_all no_forms = 0
  largest_all (form_then f fs) = largest f + largest_all fs

-- a length that 4 bytes hold, or the greatest of those
abbrev pub clipped : ℕ → ℕ
clipped n = min n (2 ^ 32 - 1)

-- the first procedure whose arguments, or else whose reply, may be longer than a call carries
abbrev pub too_long : ℕ → List Procedure → Option PlanFault
too_long procedure [] = None
too_long procedure (p ∷ ps) =
    if nat_lt 92160 (largest_all (forms_in p.arguments)) then Some (TooLong procedure (clipped (largest_all (forms_in p.arguments))))
    else (if nat_lt 92160 (largest_all (forms_in p.reply)) then Some (TooLong procedure (clipped (largest_all (forms_in p.reply))))
    else too_long (procedure + 1) ps)
