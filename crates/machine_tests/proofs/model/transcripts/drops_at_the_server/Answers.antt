use Rattle.std.proofs.Common.{refl}
use Rattle.machine_tests.proofs.Computing.{computing}
use Rattle.machine_tests.proofs.model.transcripts.drops_at_the_server.Goals as goal

pub returns-clause-last_cell : goal.returns-clause-last_cell
unfolding computing
returns-clause-last_cell c = refl

pub returns-clause-no_room : goal.returns-clause-no_room
unfolding computing
returns-clause-no_room c = refl

pub returns-clause-full : goal.returns-clause-full
unfolding computing
returns-clause-full c = refl
