use Rattle.std.proofs.Common.{◌≡◌, ◌≤◌, ◌+◌, ◌-◌, ◌^◌, drop}
use Rattle.marshal_plans.specs.Lengths.{least_all, clipped}
use Rattle.marshal_plans.specs.Forms.{forms_in}
use Rattle.marshal_plans.proofs.lengths.+least.Given as goal

abbrev pub invariant-least_len-loop-shape : goal.invariant-least_len-loop-shape
invariant-least_len-loop-shape l =
    (l.sum ≤ 2 ^ 32 - 1)
    × (clipped (l.sum + least_all (forms_in (drop l.shape-index l.shapes))) ≡ clipped (least_all (forms_in l.shapes)))
