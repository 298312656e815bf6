use Rattle.std.proofs.Common.{refl}
use Rattle.machine_tests.proofs.Computing.{computing}
use Rattle.machine_tests.proofs.model.losses.lines_of_run_and_yet_failed.Goals as goal

pub returns : goal.returns
unfolding computing
returns c = refl
