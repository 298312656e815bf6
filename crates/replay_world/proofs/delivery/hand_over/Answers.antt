use Rattle.std.proofs.Common.{◌≡◌, ℕ, sym, ap, subst, ◌∙◌}
use Rattle.std.proofs.lemmas.Result.{IfOk-weaker}
use Rattle.std.proofs.lemmas.Bool.{eqb-true, eqb-false, cond-true, cond-false, eq-eqb, ne_eqb}
use Rattle.call_rules.specs.Packet.{Packet}
use Rattle.replay_model.specs.declared.limits.TheConstants.{SERVER_MACHINE, FIRST_CLIENT}
use Rattle.replay_model.specs.World.{World, numbered}
use Rattle.replay_model.specs.Step.{receives, takes_arrival, server_takes, client_takes, machine_takes}
use Rattle.replay_world.specs.Delivery.{TakenAs}
use Rattle.replay_packets.specs.Packet.{packet_of}
use Rattle.replay_world.proofs.delivery.hand_over.Goals as goal

machine_takes-server : (w : World) (k : ℕ) (p : Packet) → p.to ≡ SERVER_MACHINE → machine_takes w k p ≡ server_takes w k p
unfolding machine_takes
machine_takes-server w k p to = cond-true _ _ _ (eq-eqb p.to SERVER_MACHINE to)

machine_takes-client : (w : World) (k : ℕ) (p : Packet) → (p.to ≡ SERVER_MACHINE → ⊥) → machine_takes w k p ≡ client_takes w k p (numbered FIRST_CLIENT w.clients p.to)
unfolding machine_takes
machine_takes-client w k p to = cond-false _ _ _ (ne_eqb p.to SERVER_MACHINE to)

pub returns-then-eq : goal.returns-then-eq
returns-then-eq c =
    let p : Packet = packet_of c.in-Ok.packet in
    let same : (w : World) (k : ℕ) → receives w k c.args.me.machine c.args.frame.now ≡ server_takes w k p =
    λ w k. ap (takes_arrival w k) c.in-Ok.ensures.arrival ∙ machine_takes-server w k p (c.in-Ok.ensures.here ∙ eqb-true c.args.me.machine SERVER_MACHINE (sym c.if-eq.ensures)) in
    IfOk-weaker c.hand_to_server.result _ _ (λ taken h w k server clients. let t = h w k server in record {
      server = t.server;
      clients = w.clients;
      is_server = t.is_server;
      are_clients = clients;
      taken = subst (TakenAs (record w { server = t.server }) k taken) (sym (same w k)) t.taken;
    }) c.hand_to_server.ensures

pub returns-else-eq : goal.returns-else-eq
returns-else-eq c =
    let p : Packet = packet_of c.in-Ok.packet in
    let same : (w : World) (k : ℕ) → receives w k c.args.me.machine c.args.frame.now ≡ client_takes w k p (numbered FIRST_CLIENT w.clients p.to) =
    λ w k. ap (takes_arrival w k) c.in-Ok.ensures.arrival ∙ machine_takes-client w k p (λ e. eqb-false c.args.me.machine SERVER_MACHINE (sym c.eq.ensures ∙ c.if-eq.false) (sym c.in-Ok.ensures.here ∙ e)) in
    IfOk-weaker c.hand_to_client.result _ _ (λ taken h w k server clients. let t = h w k clients in record {
      server = w.server;
      clients = t.clients;
      is_server = server;
      are_clients = t.are_clients;
      taken = subst (TakenAs (record w { clients = t.clients }) k taken) (sym (same w k)) t.taken;
    }) c.hand_to_client.ensures
