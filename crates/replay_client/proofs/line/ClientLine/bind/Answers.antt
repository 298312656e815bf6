use Rattle.std.proofs.Common.{◌∙◌, ap, sym}
use Rattle.call_rules.specs.Caller.{is_binding}
use Rattle.replay_model.specs.Process.{Line}
use Rattle.replay_client.specs.contracts.line.ClientLine.{the_view}
use Rattle.replay_client.proofs.Steps.{bind_steps}
use Rattle.replay_client.proofs.line.ClientLine.bind.Goals as goal

pub returns : goal.returns
returns c =
    rw (← c.self.view_is)
    (bind_steps c.args.me.machine c.act.result c.act.new.self (the_view c.self.inside) c.args.bytes.items c.clear.new.self.items c.args.number.value _ _
    (c.requires.next ∙ ap (λ (l : Line). l.next) (sym c.self.view_is))
    c.clear.ensures.items c.start_bind-action.ensures.caller c.start_bind-action.ensures.act
    (c.act.ensures.step c.self.inside.caller record {
      unused = λ e. let f = sym c.start_bind-action.ensures.act ∙ e in cc;
      bind = ap (λ (l : Line). is_binding l.caller.state) c.self.view_is ∙ sym c.task-task.ensures;
    }))
