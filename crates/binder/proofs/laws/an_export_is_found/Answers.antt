use Rattle.binder.proofs.LookingUp.{accepted_exported, found_exported, free_exported, least_exported, others_exported, time_exported}
use Rattle.binder.proofs.laws.an_export_is_found.Goals as goal

pub returns-clause-found : goal.returns-clause-found
returns-clause-found c = found_exported

pub returns-clause-accepted : goal.returns-clause-accepted
returns-clause-accepted c = accepted_exported

pub returns-clause-others : goal.returns-clause-others
returns-clause-others c = others_exported

pub returns-clause-free : goal.returns-clause-free
returns-clause-free c = free_exported

pub returns-clause-least : goal.returns-clause-least
returns-clause-least c = least_exported

pub returns-clause-in_time : goal.returns-clause-in_time
returns-clause-in_time c = time_exported
