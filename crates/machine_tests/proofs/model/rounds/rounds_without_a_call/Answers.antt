use Rattle.std.proofs.Common.{refl}
use Rattle.machine_tests.proofs.Drawing.{drawing}
use Rattle.machine_tests.proofs.model.rounds.rounds_without_a_call.Goals as goal

pub returns-clause-too_many : goal.returns-clause-too_many
unfolding drawing
returns-clause-too_many c = refl

pub returns-clause-busy : goal.returns-clause-busy
unfolding drawing
returns-clause-busy c = refl

pub returns-clause-bind : goal.returns-clause-bind
unfolding drawing
returns-clause-bind c = refl
