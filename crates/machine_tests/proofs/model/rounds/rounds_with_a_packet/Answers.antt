use Rattle.std.proofs.Common.{refl}
use Rattle.machine_tests.proofs.Drawing.{drawing}
use Rattle.machine_tests.proofs.model.rounds.rounds_with_a_packet.Goals as goal

pub returns-clause-delivery : goal.returns-clause-delivery
unfolding drawing
returns-clause-delivery c = refl

pub returns-clause-damage : goal.returns-clause-damage
unfolding drawing
returns-clause-damage c = refl
