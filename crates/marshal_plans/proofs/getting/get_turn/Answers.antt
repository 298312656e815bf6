use Rattle.std.proofs.Common.{Ok, subst, refl}
use Rattle.std.proofs.lemmas.Result.{err_from_is_err_and}
use Rattle.marshal_plans.specs.declared.getting.Begun.{Begun}
use Rattle.marshal_plans.specs.declared.getting.Unread.{Unread}
use Rattle.marshal_plans.specs.Gets.{Begins}
use Rattle.marshal_plans.proofs.GetTurns.{get_along, get_down, get_wrong, reads_nothing}
use Rattle.marshal_plans.proofs.getting.get_turn.Goals as goal

pub returns-in_default-clause-turned : goal.returns-in_default-clause-turned
returns-in_default-clause-turned c = λ t is. reads_nothing c.args.total t c.args.level c.args.bytes.now (c.in_default.ensures.turns t is)

pub returns-in_ok-push-in-Whole-clause-turned : goal.returns-in_ok-push-in-Whole-clause-turned
returns-in_ok-push-in-Whole-clause-turned c = λ t is.
    let step = c.in-Some in
    let begun = c.in_ok-begun in
    let more : Unread = record { left = step.left; values = c.push.new.self } in
    get_along c.args.total t c.args.level step.step more c.args.bytes.now begun.rest.now (step.ensures.turns t is) c.in-Whole.value c.in_ok-push-in-Whole.ensures.items
    (λ f s. subst (λ (b : Begun). Begins c.args.total f c.args.bytes.now (Ok (b, begun.rest.now))) c.in-Whole.is (begun.ensures.begins f s))

pub returns-in-Group-clause-turned : goal.returns-in-Group-clause-turned
returns-in-Group-clause-turned c = λ t is.
    let step = c.in-Some in
    let begun = c.in_ok-begun in
    let more : Unread = record { left = step.left; values = c.args.level.values } in
    let inner : Unread = record { left = c.in-Group.inner; values = c.new.result } in
    get_down c.args.total t c.args.level step.step more c.args.bytes.now begun.rest.now (step.ensures.turns t is) inner refl c.new.ensures.items
    (λ f s. subst (λ (b : Begun). Begins c.args.total f c.args.bytes.now (Ok (b, begun.rest.now))) c.in-Group.is (begun.ensures.begins f s))

pub returns-in_err-begun-clause-turned : goal.returns-in_err-begun-clause-turned
returns-in_err-begun-clause-turned c = λ t is.
    let step = c.in-Some in
    let p = err_from_is_err_and c.from_residual.result c.from_residual.ensures.1 in
    let more : Unread = record { left = step.left; values = c.args.level.values } in
    rw (p.1, p.2) (get_wrong c.args.total t c.args.level step.step more c.args.bytes.now c.args.bytes.now (step.ensures.turns t is) c.in_err-begun.field-0.0 c.in_err-begun.ensures.begins)
