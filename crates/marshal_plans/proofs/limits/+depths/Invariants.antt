use Rattle.std.proofs.Common.{◌+◌, ◌*◌}
use Rattle.marshal_plans.proofs.Depths.{Enough}
use Rattle.marshal_plans.proofs.limits.+depths.Given as goal

abbrev pub invariant-are_within-loop-shape : goal.invariant-are_within-loop-shape
invariant-are_within-loop-shape l = Enough l.levels l.shapes l.shape-index

abbrev pub decreases-are_within : goal.decreases-are_within
decreases-are_within l = 2 * l.levels + 1

abbrev pub decreases-is_within : goal.decreases-is_within
decreases-is_within l = 2 * l.levels
