use Rattle.std.proofs.Common.{refl}
use Rattle.machine_tests.proofs.Computing.{computing}
use Rattle.machine_tests.proofs.model.transcripts.lines_of_damages.Goals as goal

pub returns : goal.returns
unfolding computing
returns c = refl
