use Rattle.std.proofs.Common.{Option, Ok, subst}
use Rattle.marshal_plans.specs.declared.putting.Unput.{Unput}
use Rattle.marshal_plans.specs.Cursors.{taken_datum}
use Rattle.marshal_plans.specs.Puts.{Started}
use Rattle.marshal_plans.proofs.PutTurns.{along, down}
use Rattle.marshal_plans.proofs.putting.put_turn.Goals as goal

pub returns-in-None-clause-turned : goal.returns-in-None-clause-turned
returns-in-None-clause-turned c = λ t is.
    let step = c.in-Some-Some in
    let begun = c.in_ok-begun-in-Some-Some in
    let more : Unput = record { left = step.left; values = step.values } in
    along t c.args.level step.step (taken_datum step.value) more c.args.into.now c.put_step.new.into c.args.at begun.next (step.ensures.turns t is) step.ensures'
    (λ f s. subst (λ (o : Option Unput). Started f (taken_datum step.value) c.args.into.now c.put_step.new.into c.args.at (Ok (o, begun.next))) c.in-None.is
    (begun.ensures.started f s))

pub returns-in-Some-clause-turned : goal.returns-in-Some-clause-turned
returns-in-Some-clause-turned c = λ t is.
    let step = c.in-Some-Some in
    let begun = c.in_ok-begun-in-Some-Some in
    let more : Unput = record { left = step.left; values = step.values } in
    down t c.args.level step.step (taken_datum step.value) more c.args.into.now c.put_step.new.into c.args.at begun.next (step.ensures.turns t is) step.ensures'
    c.in-Some.inner
    (λ f s. subst (λ (o : Option Unput). Started f (taken_datum step.value) c.args.into.now c.put_step.new.into c.args.at (Ok (o, begun.next))) c.in-Some.is
    (begun.ensures.started f s))
