-- The calls add up after any events.
use Rattle.storm_law.proofs.Whole.{balanced_after}
use Rattle.storm_law.proofs.each_call_has_one_end.Goals as goal

pub returns : goal.returns
returns c = balanced_after
