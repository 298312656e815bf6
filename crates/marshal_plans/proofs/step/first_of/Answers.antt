use Rattle.std.proofs.Common.{◌-◌, ◌∙◌, length, take, drop}
use Rattle.marshal_plans.proofs.Opening.{opens_empty, opens_item, opens_bytes, opens_loop, opens_record, opens_mark, opens_short_loop, opens_short_record, whole}
use Rattle.marshal_plans.proofs.step.first_of.Goals as goal

pub returns-in_default-clause-opens : goal.returns-in_default-clause-opens
returns-in_default-clause-opens c = λ fs e. opens_empty fs c.args.plan.now c.in_default.len_below e

pub returns-in-Item-clause-opens : goal.returns-in-Item-clause-opens
returns-in-Item-clause-opens c = λ fs e. opens_item fs c.in-Item.basic _ (whole c.args.plan.now _ _ c.in-len1-up.len_at_least c.in-Item.is ∙ e)

pub returns-in-Bytes-clause-opens : goal.returns-in-Bytes-clause-opens
returns-in-Bytes-clause-opens c = λ fs e. opens_bytes fs c.in-Bytes.extent _ (whole c.args.plan.now _ _ c.in-len1-up.len_at_least c.in-Bytes.is ∙ e)

pub returns-in-Next-clause-opens : goal.returns-in-Next-clause-opens
returns-in-Next-clause-opens c = λ fs e. opens_mark fs c.args.plan.now _ c.in-len1-up.len_at_least c.in-Next.is e

pub returns-in_ok-element-in-Loop-clause-opens : goal.returns-in_ok-element-in-Loop-clause-opens
returns-in_ok-element-in-Loop-clause-opens c = λ fs e.
    opens_loop fs c.in-Loop.extent c.in-Loop.len (take (length c.args.plan.now - 1) (drop 1 c.args.plan.now)) c.in_ok-element-in-Loop.element c.in_ok-element-in-Loop.behind
    (whole c.args.plan.now _ _ c.in-len1-up.len_at_least c.in-Loop.is ∙ e) c.in_ok-element-in-Loop.ensures.1 c.in_ok-element-in-Loop.ensures.2

pub returns-in_err-element-in-Loop-clause-opens : goal.returns-in_err-element-in-Loop-clause-opens
returns-in_err-element-in-Loop-clause-opens c = λ fs e.
    rw c.from_residual.ensures (opens_short_loop fs c.in-Loop.extent c.in-Loop.len (take (length c.args.plan.now - 1) (drop 1 c.args.plan.now))
    (whole c.args.plan.now _ _ c.in-len1-up.len_at_least c.in-Loop.is ∙ e) c.in_err-element-in-Loop.ensures)

pub returns-in_ok-parts-in-Record-clause-opens : goal.returns-in_ok-parts-in-Record-clause-opens
returns-in_ok-parts-in-Record-clause-opens c = λ fs e.
    opens_record fs c.in-Record.len (take (length c.args.plan.now - 1) (drop 1 c.args.plan.now)) c.in_ok-parts-in-Record.parts c.in_ok-parts-in-Record.behind
    (whole c.args.plan.now _ _ c.in-len1-up.len_at_least c.in-Record.is ∙ e) c.in_ok-parts-in-Record.ensures.1 c.in_ok-parts-in-Record.ensures.2

pub returns-in_err-parts-in-Record-clause-opens : goal.returns-in_err-parts-in-Record-clause-opens
returns-in_err-parts-in-Record-clause-opens c = λ fs e.
    rw c.from_residual-in_err-parts-in-Record.ensures (opens_short_record fs c.in-Record.len (take (length c.args.plan.now - 1) (drop 1 c.args.plan.now))
    (whole c.args.plan.now _ _ c.in-len1-up.len_at_least c.in-Record.is ∙ e) c.in_err-parts-in-Record.ensures)
