use Rattle.std.proofs.Common.{arith}
use Rattle.binder.proofs.Kept.{kept_booted}
use Rattle.binder.proofs.exports.Exports.boot.Goals as goal

pub invariant_of-result : goal.invariant_of-result
invariant_of-result c = kept_booted c.from.result (omega arith)
