use Rattle.binder.proofs.LookingUp.{gone_withdrawn, others_withdrawn, refused_withdrawn}
use Rattle.binder.proofs.laws.a_withdrawn_export_is_refused.Goals as goal

pub returns-clause-gone : goal.returns-clause-gone
returns-clause-gone c = gone_withdrawn

pub returns-clause-refused : goal.returns-clause-refused
returns-clause-refused c = refused_withdrawn

pub returns-clause-others : goal.returns-clause-others
returns-clause-others c = others_withdrawn
