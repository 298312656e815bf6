use Rattle.std.proofs.Common.{refl, arith}
use Rattle.std.proofs.lemmas.Bool.{false≢true}
use Rattle.marshal_plans.specs.declared.levels.Left.TheVariants.{Fields}
use Rattle.marshal_plans.specs.Cursors.{cursor_data}
use Rattle.marshal_plans.proofs.PutSteps.{state_start, state_along, smaller_along, state_down, smaller_down, state_up, smaller_up, state_end}
use Rattle.marshal_plans.proofs.Stacks.{nothing_there}
use Rattle.marshal_plans.proofs.putting.run.Goals as goal

pub loop-turn-preserved-in-Along : goal.loop-turn-preserved-in-Along
loop-turn-preserved-in-Along c =
    state_along c.args.plan.now (cursor_data c.args.values) c.loop-turn.outer.items c.loop-turn.level c.args.into.now c.loop-turn.into c.put_turn.new.into
    c.loop-turn.place c.in_ok-turn.next c.loop-turn.invariant c.in_ok-turn.turn c.in_ok-turn.ensures.turned c.in_ok-turn.ensures.falls c.in-Along.more c.in-Along.is

pub loop-turn-smaller-in-Along : goal.loop-turn-smaller-in-Along
loop-turn-smaller-in-Along c =
    smaller_along c.args.plan.now (cursor_data c.args.values) c.loop-turn.outer.items c.loop-turn.level c.args.into.now c.loop-turn.into c.put_turn.new.into
    c.loop-turn.place c.in_ok-turn.next c.loop-turn.invariant c.in_ok-turn.turn c.in_ok-turn.ensures.turned c.in_ok-turn.ensures.falls c.in-Along.more c.in-Along.is

pub loop-turn-init : goal.loop-turn-init
loop-turn-init c =
    rw c.new-outer.ensures (state_start c.args.plan c.args.values (record { left = Fields c.args.plan; values = c.args.values }) c.args.into.now refl (omega arith))

pub loop-turn-preserved-in-Down : goal.loop-turn-preserved-in-Down
loop-turn-preserved-in-Down c =
    state_down c.args.plan.now (cursor_data c.args.values) c.loop-turn.outer.items c.loop-turn.level c.args.into.now c.loop-turn.into c.put_turn.new.into
    c.loop-turn.place c.in_ok-turn.next c.loop-turn.invariant c.in_ok-turn.turn c.in_ok-turn.ensures.turned c.in_ok-turn.ensures.falls
    c.in-Down.more c.in-Down.inner c.push.new.self.items c.in-Down.is c.push.ensures.items

pub loop-turn-smaller-in-Down : goal.loop-turn-smaller-in-Down
loop-turn-smaller-in-Down c =
    smaller_down c.args.plan.now (cursor_data c.args.values) c.loop-turn.outer.items c.loop-turn.level c.args.into.now c.loop-turn.into c.put_turn.new.into
    c.loop-turn.place c.in_ok-turn.next c.loop-turn.invariant c.in_ok-turn.turn c.in_ok-turn.ensures.turned c.in_ok-turn.ensures.falls
    c.in-Down.more c.in-Down.inner c.push.new.self.items c.requires c.in-Down.is c.push.ensures.items

pub loop-turn-preserved : goal.loop-turn-preserved
loop-turn-preserved c =
    state_up c.args.plan.now (cursor_data c.args.values) c.loop-turn.outer.items c.loop-turn.level c.args.into.now c.loop-turn.into c.put_turn.new.into
    c.loop-turn.place c.in_ok-turn.next c.loop-turn.invariant c.in_ok-turn.turn c.in_ok-turn.ensures.turned c.in_ok-turn.ensures.falls
    c.pop.new.self.items c.in-Some.more c.in-Some.ensures.items c.in-Done.is

pub loop-turn-smaller : goal.loop-turn-smaller
loop-turn-smaller c =
    smaller_up c.args.plan.now (cursor_data c.args.values) c.loop-turn.outer.items c.loop-turn.level c.args.into.now c.loop-turn.into c.put_turn.new.into
    c.loop-turn.place c.in_ok-turn.next c.loop-turn.invariant c.in_ok-turn.turn c.in_ok-turn.ensures.turned c.in_ok-turn.ensures.falls
    c.pop.new.self.items c.in-Some.more c.in-Some.ensures.items

pub returns-in-None : goal.returns-in-None
returns-in-None c =
    state_end c.args.plan.now (cursor_data c.args.values) c.loop-turn.outer.items c.loop-turn.level c.args.into.now c.loop-turn.into c.put_turn.new.into
    c.loop-turn.place c.in_ok-turn.next c.loop-turn.invariant c.in_ok-turn.turn c.in_ok-turn.ensures.turned c.in_ok-turn.ensures.falls
    (nothing_there c.loop-turn.outer.items (λ h. false≢true (c.in-None.ensures.variant.1 h))) c.in-Done.is
