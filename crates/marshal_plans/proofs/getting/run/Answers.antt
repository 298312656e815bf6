use Rattle.std.proofs.Common.{refl, length, arith}
use Rattle.std.proofs.lemmas.Result.{err_from_is_err_and}
use Rattle.std.proofs.lemmas.Bool.{false≢true}
use Rattle.marshal_plans.specs.declared.levels.Left.TheVariants.{Fields}
use Rattle.marshal_plans.proofs.GetSteps.{state_start, state_along, smaller_along, state_down, smaller_down, state_up, smaller_up, state_end, state_wrong, whole_group}
use Rattle.marshal_plans.proofs.Stacks.{nothing_there}
use Rattle.marshal_plans.proofs.getting.run.Goals as goal

pub loop-outer-init : goal.loop-outer-init
loop-outer-init c =
    rw c.new_in-outer.ensures (state_start (length c.args.bytes.now) c.args.plan (record { left = Fields c.args.plan; values = c.new.result }) c.args.bytes.now refl
    c.new.ensures.items (omega arith))

pub loop-outer-preserved-in-Along : goal.loop-outer-preserved-in-Along
loop-outer-preserved-in-Along c =
    state_along (length c.args.bytes.now) c.args.plan.now c.args.bytes.now c.loop-outer.outer.items c.loop-outer.level c.loop-outer.rest.now c.in_ok-turn.behind.now
    c.loop-outer.invariant c.in_ok-turn.turn c.in_ok-turn.ensures.turned c.in_ok-turn.ensures.within c.in_ok-turn.ensures.lessens c.in-Along.more c.in-Along.is

pub loop-outer-smaller-in-Along : goal.loop-outer-smaller-in-Along
loop-outer-smaller-in-Along c =
    smaller_along (length c.args.bytes.now) c.args.plan.now c.args.bytes.now c.loop-outer.outer.items c.loop-outer.level c.loop-outer.rest.now c.in_ok-turn.behind.now
    c.loop-outer.invariant c.in_ok-turn.turn c.in_ok-turn.ensures.turned c.in_ok-turn.ensures.within c.in_ok-turn.ensures.lessens c.in-Along.more c.in-Along.is

pub loop-outer-preserved-in-Down : goal.loop-outer-preserved-in-Down
loop-outer-preserved-in-Down c =
    state_down (length c.args.bytes.now) c.args.plan.now c.args.bytes.now c.loop-outer.outer.items c.loop-outer.level c.loop-outer.rest.now c.in_ok-turn.behind.now
    c.loop-outer.invariant c.in_ok-turn.turn c.in_ok-turn.ensures.turned c.in_ok-turn.ensures.within c.in_ok-turn.ensures.lessens
    c.in-Down.more c.in-Down.inner c.push.new.self.items c.in-Down.is c.push.ensures.items

pub loop-outer-smaller-in-Down : goal.loop-outer-smaller-in-Down
loop-outer-smaller-in-Down c =
    smaller_down (length c.args.bytes.now) c.args.plan.now c.args.bytes.now c.loop-outer.outer.items c.loop-outer.level c.loop-outer.rest.now c.in_ok-turn.behind.now
    c.loop-outer.invariant c.in_ok-turn.turn c.in_ok-turn.ensures.turned c.in_ok-turn.ensures.within c.in_ok-turn.ensures.lessens
    c.in-Down.more c.in-Down.inner c.push.new.self.items c.requires c.in-Down.is c.push.ensures.items

pub loop-outer-preserved : goal.loop-outer-preserved
loop-outer-preserved c =
    let next = c.in_ok-level-in-Some in
    state_up (length c.args.bytes.now) c.args.plan.now c.args.bytes.now c.loop-outer.outer.items c.loop-outer.level c.loop-outer.rest.now c.in_ok-turn.behind.now
    c.loop-outer.invariant c.in_ok-turn.turn c.in_ok-turn.ensures.turned c.in_ok-turn.ensures.within c.in_ok-turn.ensures.lessens
    c.pop.new.self.items c.in-Some.more next.level c.in-Done.values.items c.in-Some.ensures.items
    (whole_group (length c.args.bytes.now) c.args.plan.now c.args.bytes.now c.loop-outer.outer.items c.loop-outer.level c.loop-outer.rest.now c.in_ok-turn.behind.now
    c.loop-outer.invariant c.in_ok-turn.turn c.in_ok-turn.ensures.turned c.in_ok-turn.ensures.within c.in_ok-turn.ensures.lessens c.in-Done.values c.in-Done.is)
    next.ensures.left next.ensures.values

pub loop-outer-smaller : goal.loop-outer-smaller
loop-outer-smaller c =
    let next = c.in_ok-level-in-Some in
    smaller_up (length c.args.bytes.now) c.args.plan.now c.args.bytes.now c.loop-outer.outer.items c.loop-outer.level c.loop-outer.rest.now c.in_ok-turn.behind.now
    c.loop-outer.invariant c.in_ok-turn.turn c.in_ok-turn.ensures.turned c.in_ok-turn.ensures.within c.in_ok-turn.ensures.lessens
    c.pop.new.self.items c.in-Some.more next.level c.in-Some.ensures.items next.ensures.left

pub returns-in-None-clause-read : goal.returns-in-None-clause-read
returns-in-None-clause-read c =
    state_end (length c.args.bytes.now) c.args.plan.now c.args.bytes.now c.loop-outer.outer.items c.loop-outer.level c.loop-outer.rest.now c.in_ok-turn.behind.now
    c.loop-outer.invariant c.in_ok-turn.turn c.in_ok-turn.ensures.turned c.in_ok-turn.ensures.within c.in_ok-turn.ensures.lessens
    c.in-Done.values.items (nothing_there c.loop-outer.outer.items (λ h. false≢true (c.in-None.ensures.variant.1 h)))
    (whole_group (length c.args.bytes.now) c.args.plan.now c.args.bytes.now c.loop-outer.outer.items c.loop-outer.level c.loop-outer.rest.now c.in_ok-turn.behind.now
    c.loop-outer.invariant c.in_ok-turn.turn c.in_ok-turn.ensures.turned c.in_ok-turn.ensures.within c.in_ok-turn.ensures.lessens c.in-Done.values c.in-Done.is)

pub returns-in_err-turn-clause-read : goal.returns-in_err-turn-clause-read
returns-in_err-turn-clause-read c = λ fs e.
    let p = err_from_is_err_and c.from_residual.result c.from_residual.ensures.1 in
    rw (p.1, p.2) (state_wrong (length c.args.bytes.now) c.args.plan.now c.args.bytes.now c.loop-outer.outer.items c.loop-outer.level c.loop-outer.rest.now
    c.loop-outer.invariant c.in_err-turn.field-0.0 c.in_err-turn.ensures.turned fs e)
