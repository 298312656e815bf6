use Rattle.std.proofs.Common.{◌≡◌, ◌∙◌, ap, sym}
use Rattle.std.proofs.lemmas.Bool.{eqb-true}
use Rattle.caller_core.specs.Action.{act_of}
use Rattle.call_rules.specs.Packet.{fields_of}
use Rattle.call_rules.specs.Caller.{is_binding, is_idle}
use Rattle.replay_model.specs.Process.{Line}
use Rattle.replay_packets.specs.Packet.{packet_of}
use Rattle.replay_client.specs.contracts.line.ClientLine.{the_view}
use Rattle.replay_client.proofs.Rows.{heard_ready}
use Rattle.replay_client.proofs.Steps.{heard_outcome, stale_idle, stale_number, unused_outcome, used_act, not_false}
use Rattle.replay_client.proofs.line.ClientLine.take.Goals as goal

pub returns-then-is_idle-clause-outcome : goal.returns-then-is_idle-clause-outcome
returns-then-is_idle-clause-outcome c w k c' =
    stale_idle w k (packet_of c.args.packet.now) c' _ (sym c.is_idle.ensures ∙ c.if-is_idle.true)

pub returns-then-ne-clause-outcome : goal.returns-then-ne-clause-outcome
returns-then-ne-clause-outcome c w k c' =
    stale_number w k (packet_of c.args.packet.now) c' _ c.number.result.value (sym c.is_idle.ensures ∙ c.if-is_idle.false) c.number.ensures (sym c.ne.ensures ∙ c.if-ne.true)

pub returns-in-Unused-clause-outcome : goal.returns-in-Unused-clause-outcome
returns-in-Unused-clause-outcome c w k c' =
    let idle = ap (λ (l : Line). is_idle l.caller.state) c.self.view_is ∙ (sym c.is_idle.ensures ∙ c.if-is_idle.false) in
    let number = c.number.ensures ∙ ap (λ (l : Line). l.caller.number) (sym c.self.view_is) in
    rw (← c.self.view_is)
    (unused_outcome w k (packet_of c.args.packet.now) c' (the_view c.self.inside) c.number.result.value _ idle number (sym c.ne.ensures ∙ c.if-ne.false) c.on_packet.ensures.act c.in-Unused.is)

pub invariant_of-self-in_default : goal.invariant_of-self-in_default
invariant_of-self-in_default c =
    rw c.on_packet.ensures.caller
    (heard_ready _ _ _ c.args.packet.now.payload.now (fields_of c.args.packet.now.header) c.self.invariant c.requires.fragment c.requires.data_length).sound

pub act-requires : goal.act-requires
act-requires c =
    rw (c.on_packet.ensures.caller, c.on_packet.ensures.act)
    (heard_ready _ _ _ c.args.packet.now.payload.now (fields_of c.args.packet.now.header) c.self.invariant c.requires.fragment c.requires.data_length).tells

pub returns-in_ok-told-in_default : goal.returns-in_ok-told-in_default
returns-in_ok-told-in_default c =
    let idle = ap (λ (l : Line). is_idle l.caller.state) c.self.view_is ∙ (sym c.is_idle.ensures ∙ c.if-is_idle.false) in
    let same : c.number.result.value ≡ c.args.packet.now.header.call.number.value = eqb-true _ _ (not_false _ (sym c.ne.ensures ∙ c.if-ne.false)) in
    let number = ap (λ (l : Line). l.caller.number) c.self.view_is ∙ (sym c.number.ensures ∙ same) in
    record {
      outcome = λ w k c'. rw (← c.self.view_is)
          (heard_outcome w k (packet_of c.args.packet.now) c' (the_view c.self.inside) c.act.new.self c.in_ok-told-in_default.told c.on_packet.new.self (act_of c.on_packet.result) idle number
          (used_act c.on_packet.result c.in_default.not-Unused)
          c.on_packet.ensures.caller c.on_packet.ensures.act c.on_packet.ensures.same_call c.in_ok-told-in_default.ensures.call
          (c.in_ok-told-in_default.ensures.step c.self.inside.caller record {
            unused = λ e. c.on_packet.ensures.unused e;
            bind = ap (λ (l : Line). is_binding l.caller.state) c.self.view_is ∙ sym c.task-task.ensures;
          }));
      dropped = tt;
    }
