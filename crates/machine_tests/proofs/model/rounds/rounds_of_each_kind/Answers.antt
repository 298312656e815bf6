use Rattle.std.proofs.Common.{refl}
use Rattle.machine_tests.proofs.Drawing.{drawing}
use Rattle.machine_tests.proofs.model.rounds.rounds_of_each_kind.Goals as goal

pub returns-clause-null : goal.returns-clause-null
unfolding drawing
returns-clause-null c = refl

pub returns-clause-add : goal.returns-clause-add
unfolding drawing
returns-clause-add c = refl

pub returns-clause-bump : goal.returns-clause-bump
unfolding drawing
returns-clause-bump c = refl

pub returns-clause-max_arg : goal.returns-clause-max_arg
unfolding drawing
returns-clause-max_arg c = refl

pub returns-clause-bind : goal.returns-clause-bind
unfolding drawing
returns-clause-bind c = refl

pub returns-clause-no_delivery : goal.returns-clause-no_delivery
unfolding drawing
returns-clause-no_delivery c = refl

pub returns-clause-work : goal.returns-clause-work
unfolding drawing
returns-clause-work c = refl

pub returns-clause-ticks : goal.returns-clause-ticks
unfolding drawing
returns-clause-ticks c = refl

pub returns-clause-no_damage : goal.returns-clause-no_damage
unfolding drawing
returns-clause-no_damage c = refl

pub returns-clause-restart : goal.returns-clause-restart
unfolding drawing
returns-clause-restart c = refl

pub returns-clause-no_restart : goal.returns-clause-no_restart
unfolding drawing
returns-clause-no_restart c = refl
