use Rattle.std.proofs.Common.{[], ◌∙◌, ap, sym}
use Rattle.call_rules.specs.Caller.{is_binding}
use Rattle.replay_model.specs.Process.{Line}
use Rattle.replay_client.specs.contracts.line.ClientLine.{the_view}
use Rattle.replay_client.proofs.Rows.{ticked_ready, ticked_keeps}
use Rattle.replay_client.proofs.Steps.{tick_steps}
use Rattle.replay_client.proofs.line.ClientLine.tick.Goals as goal

pub invariant_of-self : goal.invariant_of-self
invariant_of-self c = rw c.on_tick-action.ensures.caller (ticked_ready _ _ _ [] c.self.invariant).sound

pub act-requires : goal.act-requires
act-requires c = rw (c.on_tick-action.ensures.caller, c.on_tick-action.ensures.act) (ticked_ready _ _ _ [] c.self.invariant).tells

pub returns : goal.returns
returns c =
    rw (← c.self.view_is)
    (tick_steps c.args.me.machine c.act.result c.act.new.self (the_view c.self.inside) _ _ c.on_tick-action.ensures.caller c.on_tick-action.ensures.act
    (c.act.ensures.step c.self.inside.caller record {
      unused = λ e. c.on_tick-action.ensures.caller ∙ ticked_keeps c.self.inside.caller (sym c.on_tick-action.ensures.act ∙ e);
      bind = ap (λ (l : Line). is_binding l.caller.state) c.self.view_is ∙ sym c.task-task.ensures;
    }))
