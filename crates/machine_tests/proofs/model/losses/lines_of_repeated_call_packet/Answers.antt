use Rattle.std.proofs.Common.{refl}
use Rattle.machine_tests.proofs.Computing.{computing}
use Rattle.machine_tests.proofs.model.losses.lines_of_repeated_call_packet.Goals as goal

pub returns : goal.returns
unfolding computing
returns c = refl
