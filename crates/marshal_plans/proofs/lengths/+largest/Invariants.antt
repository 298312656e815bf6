use Rattle.std.proofs.Common.{◌≡◌, ◌≤◌, ◌+◌, ◌-◌, ◌^◌, drop}
use Rattle.marshal_plans.specs.Lengths.{largest_all, clipped}
use Rattle.marshal_plans.specs.Forms.{forms_in}
use Rattle.marshal_plans.proofs.lengths.+largest.Given as goal

abbrev pub invariant-largest_len-loop-shape : goal.invariant-largest_len-loop-shape
invariant-largest_len-loop-shape l =
    (l.sum ≤ 2 ^ 32 - 1)
    × (clipped (l.sum + largest_all (forms_in (drop l.shape-index l.shapes))) ≡ clipped (largest_all (forms_in l.shapes)))
