use Rattle.std.proofs.Common.{refl}
use Rattle.machine_tests.proofs.Computing.{computing}
use Rattle.machine_tests.proofs.model.lives.lines_of_numbers_run_out.Goals as goal

pub returns : goal.returns
unfolding computing
returns c = refl
