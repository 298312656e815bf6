use Rattle.std.proofs.Common.{◌≡◌, drop}
use Rattle.marshal_plans.specs.Lengths.{too_long}
use Rattle.marshal_plans.proofs.lengths.check_lengths.Given as goal

abbrev pub invariant-loop-index : goal.invariant-loop-index
invariant-loop-index l = too_long l.index (drop l.index l.procedures) ≡ too_long 0 l.procedures
