use Rattle.std.proofs.Common.{◌+◌, ap, set, sym, subst, ◌∙◌}
use Rattle.call_rules.specs.Packet.{Fields}
use Rattle.call_rules.specs.Worker.{Worker}
use Rattle.replay_server.specs.Worker.{CanAdd}
use Rattle.replay_server.proofs.Adding.{can_idle}
use Rattle.replay_server.proofs.Served.{claims, claims_none}
use Rattle.replay_server.proofs.machine.ServerMachine.claim_next.Goals as goal

pub after-requires : goal.after-requires
after-requires c = subst (λ (x : Worker). CanAdd x) (sym c.in_ok-step.ensures.worker) (can_idle _ _ _)

pub returns-in_default-clause-outcome : goal.returns-in_default-clause-outcome
returns-in_default-clause-outcome c w =
    claims_none (record w { server = c.args.self.now }) (c.args.place + 1) c.args.self.now.ready c.in_default.ensures.0

pub returns-clause-outcome : goal.returns-clause-outcome
returns-clause-outcome c w =
    let h = c.in-Some.ensures in
    claims w c.args.self.now c.next_ready.new.self c.put_worker.new.self c.args.place c.in-Some.packet h.0 c.in_ok-step.step c.header.result.now.call.number
    (ap (λ (x : Fields). x.call.number) c.header.ensures.fields) h.1 h.2 c.in_ok-step.ensures
    (c.put_worker.ensures ∙ ap (λ (x : Worker). record c.next_ready.new.self { workers = set c.next_ready.new.self.workers c.args.place x }) c.after.ensures)
