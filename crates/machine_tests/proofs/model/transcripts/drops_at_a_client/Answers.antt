use Rattle.std.proofs.Common.{refl}
use Rattle.machine_tests.proofs.Computing.{computing}
use Rattle.machine_tests.proofs.model.transcripts.drops_at_a_client.Goals as goal

pub returns-clause-no_cell : goal.returns-clause-no_cell
unfolding computing
returns-clause-no_cell c = refl

pub returns-clause-stale : goal.returns-clause-stale
unfolding computing
returns-clause-stale c = refl

pub returns-clause-unused : goal.returns-clause-unused
unfolding computing
returns-clause-unused c = refl
