use Rattle.std.proofs.Common.{subst}
use Rattle.marshal_plans.specs.Lefts.{IsLeft}
use Rattle.marshal_plans.proofs.Turning.{none_next, some_next, none_left, fields_none, fields_some}
use Rattle.marshal_plans.proofs.levels.Left.next.Goals as goal

pub returns-in_err-step-in-Elements-clause-turns : goal.returns-in_err-step-in-Elements-clause-turns
returns-in_err-step-in-Elements-clause-turns c = λ t is.
    rw c.from_residual-in_err-step-in-Elements.ensures (none_next t c.in-Elements.count c.in-Elements.element c.in_ok-others-in-Elements.ensures.0
    (subst (IsLeft t) c.in-Elements.is is) c.in_err-step-in-Elements.ensures.opens)

pub returns-in_ok-step-in-Elements-clause-turns : goal.returns-in_ok-step-in-Elements-clause-turns
returns-in_ok-step-in-Elements-clause-turns c = λ t is.
    some_next t c.in-Elements.count c.in_ok-others-in-Elements.others c.in-Elements.element c.in_ok-step-in-Elements.field-0-1 c.in_ok-step-in-Elements.step c.in_ok-others-in-Elements.ensures
    (subst (IsLeft t) c.in-Elements.is is) c.in_ok-step-in-Elements.ensures.opens

pub returns-in_err-others-in-Elements-clause-turns : goal.returns-in_err-others-in-Elements-clause-turns
returns-in_err-others-in-Elements-clause-turns c = λ t is.
    rw c.from_residual-in_err-others-in-Elements.ensures (none_left t c.in-Elements.count c.in-Elements.element c.in_err-others-in-Elements.ensures
    (subst (IsLeft t) c.in-Elements.is is))

pub returns-in_err-step-in-Fields-clause-turns : goal.returns-in_err-step-in-Fields-clause-turns
returns-in_err-step-in-Fields-clause-turns c = λ t is.
    rw c.from_residual.ensures (fields_none t c.in-Fields.plan c.in_err-step-in-Fields.ensures.opens (subst (IsLeft t) c.in-Fields.is is))

pub returns-in_ok-step-in-Fields-clause-turns : goal.returns-in_ok-step-in-Fields-clause-turns
returns-in_ok-step-in-Fields-clause-turns c = λ t is.
    fields_some t c.in-Fields.plan c.in_ok-step-in-Fields.behind c.in_ok-step-in-Fields.step c.in_ok-step-in-Fields.ensures.opens (subst (IsLeft t) c.in-Fields.is is)
