use Rattle.std.proofs.Common.{ℕ, Option, ap, sym, ◌∙◌, arith, ◌≡◌}
use Rattle.std.proofs.lemmas.Result.{on_ok_weaker}
use Rattle.std.proofs.lemmas.Bool.{cond-true, cond-false, eq-eqb, ne_eqb}
use Rattle.replay_model.specs.World.{Client, numbered, World}
use Rattle.replay_model.specs.declared.limits.TheConstants.{SERVER_MACHINE, FIRST_CLIENT}
use Rattle.replay_model.specs.Step.{boots_server, boots_client, restart_event}
use Rattle.replay_model.specs.OpenCalls.{lost_of}
use Rattle.replay_world.proofs.Numbered.{numbered-low}
use Rattle.replay_world.proofs.world.World.restart.Goals as goal

restart_event-server : (w : World) (m : ℕ) → m ≡ SERVER_MACHINE → restart_event w m ≡ boots_server w
unfolding restart_event
restart_event-server w m h = cond-true _ _ _ (eq-eqb m SERVER_MACHINE h)

restart_event-client : (w : World) (m : ℕ) → (m ≡ SERVER_MACHINE → ⊥) → restart_event w m ≡ boots_client w m (numbered FIRST_CLIENT w.clients m)
unfolding restart_event
restart_event-client w m h = cond-false _ _ _ (ne_eqb m SERVER_MACHINE h)

pub returns-then-machine-eq-SERVER_MACHINE-clause-played : goal.returns-then-machine-eq-SERVER_MACHINE-clause-played
returns-then-machine-eq-SERVER_MACHINE-clause-played c w h = rw (restart_event-server w c.args.machine c.if-machine-eq-SERVER_MACHINE.true) (c.restart_server.ensures.played w h)

-- the server isn't among the clients
pub returns-then-machine-eq-SERVER_MACHINE-clause-lost : goal.returns-then-machine-eq-SERVER_MACHINE-clause-lost
returns-then-machine-eq-SERVER_MACHINE-clause-lost c w h =
    let none = ap (lost_of w) (numbered-low 2 w.clients c.args.machine (omega (arith, c.if-machine-eq-SERVER_MACHINE.true))) in
    on_ok_weaker c.restart_server.result (λ k. omega (arith, none, k.1)) c.restart_server.ensures.keeps

pub returns-clause-played : goal.returns-clause-played
returns-clause-played c w h = rw (restart_event-client w c.args.machine c.if-machine-eq-SERVER_MACHINE.false) (c.restart_client.ensures.played w h)
