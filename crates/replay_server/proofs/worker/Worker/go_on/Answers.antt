use Rattle.std.proofs.Common.{ap, sym, subst, ◌∙◌}
use Rattle.call_rules.specs.Packet.{Fields}
use Rattle.call_rules.specs.Worker as rules
use Rattle.replay_server.specs.Worker.{CanAdd}
use Rattle.replay_server.proofs.Adding.{can_at, full_call}
use Rattle.replay_server.proofs.worker.Worker.go_on.Goals as goal

pub invariant_of-self-2 : goal.invariant_of-self-2
invariant_of-self-2 c =
    let p = c.in-Some.carrier in
    let full = full_call p c.header.result.now.kind c.header.result.now.last (ap (λ (x : Fields). x.kind) c.header.ensures.fields) (ap (λ (x : Fields). x.last) c.header.ensures.fields) c.header.ensures.full in
    subst (λ (w : rules.Worker). CanAdd w)
    (sym (c.settle.ensures p c.in-Some.is ∙ c.in_ok-next.ensures.step.worker))
    (can_at p c.replace-stage.result _ _ full)
