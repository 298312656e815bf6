use Rattle.std.proofs.Common.{refl}
use Rattle.machine_tests.proofs.Computing.{computing}
use Rattle.machine_tests.proofs.model.losses.lines_of_lost_result_and_probe.Goals as goal

pub returns : goal.returns
unfolding computing
returns c = refl
