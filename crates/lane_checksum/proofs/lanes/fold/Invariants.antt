use Rattle.std.proofs.Common.{◌≡◌}
use Rattle.lane_checksum.specs.PlainSum.{reduced}
use Rattle.lane_checksum.proofs.lanes.fold.Given as goal

abbrev pub invariant-loop-total : goal.invariant-loop-total
invariant-loop-total l = reduced l.total ≡ reduced l.initial.total

abbrev pub decreases-loop-total : goal.decreases-loop-total
decreases-loop-total l = l.total
