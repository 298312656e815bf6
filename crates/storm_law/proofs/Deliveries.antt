-- A packet that comes, whole or damaged, and a worker's step account for their calls.
use Rattle.std.proofs.Common.{◌≡◌, ℕ, ◌+◌, ◌*◌, List, [], ◌∷◌, length, Option, Some, None, refl, arith, ltb, eqb}
use Rattle.udp_frames.specs.Damage.{flipped}
use Rattle.call_rules.specs.Packet.{Packet}
use Rattle.call_rules.specs.Worker.{Worker, Resting, Claimed, Took, Admitted, Ran, Fetched, Adds, Nothing, ARun, APacket, ARejection, on_idle, on_claimed, on_took, on_admitted, on_ran, on_fetched}
use Rattle.call_rules.specs.Worker as worker
use Rattle.call_rules.specs.declared.worker.Did.{Did}
use Rattle.call_rules.specs.Caller.{is_idle, is_unused, on_packet}
use Rattle.replay_model.specs.declared.limits.TheConstants.{FIRST_CLIENT, READY_CELLS, SERVER_MACHINE}
use Rattle.replay_model.specs.Arrival.{Arrival, Comes, Dropped, arrives, frame_of}
use Rattle.replay_model.specs.Process.{Line, heard}
use Rattle.replay_model.specs.Record.{Works}
use Rattle.replay_model.specs.Step.{entry_of, adds, works, server_takes, hears, line_takes, client_takes, machine_takes, takes_arrival, deliver_event, damage_event, show_event, claims_next, work_event}
use Rattle.replay_model.specs.World.{World, Client, numbered, has_buffer}
use Rattle.storm_law.proofs.Counting.{Accounts}
use Rattle.storm_law.proofs.Callers.{heard_keeps}
use Rattle.storm_law.proofs.Processes.{either, impossible_accounts, does_accounts}

-- Deliveries.

server_takes_accounts : (w : World) (k : ℕ) (p : Packet) → Accounts 0 0 w (server_takes w k p)
unfolding server_takes
server_takes_accounts w k p = either w (ltb (length w.server.ready) READY_CELLS) _ _ (λ room. record { balanced = refl }) (λ full. record { balanced = refl })

hears_accounts : (w : World) (k : ℕ) (p : Packet) (c : Client) (l : Line) → numbered FIRST_CLIENT w.clients p.to ≡ Some c → numbered 1 c.lines (p.header.hint + 1) ≡ Some l → Accounts 0 0 w (hears w k p c l (is_unused (on_packet l.caller p.header).act))
hears_accounts w k p c l ec el =
    either w (is_unused (on_packet l.caller p.header).act) _ _ (λ unused. record { balanced = refl })
    (λ used.
    let done = does_accounts 0 w p.to (p.header.hint + 1) c c l (heard p.to l p) ec el refl (heard_keeps p.to l p) in
    record { balanced = omega (arith, done.balanced) })

line_takes_accounts : (w : World) (k : ℕ) (p : Packet) (c : Client) (o : Option Line) → numbered FIRST_CLIENT w.clients p.to ≡ Some c → numbered 1 c.lines (p.header.hint + 1) ≡ o → Accounts 0 0 w (line_takes w k p c o)
unfolding line_takes
line_takes_accounts w k p c None ec el = record { balanced = refl }
line_takes_accounts w k p c (Some l) ec el =
    either w (is_idle l.caller.state) _ _ (λ idle. record { balanced = refl })
    (λ busy. either w (eqb l.caller.number p.header.call.number) _ _ (λ same. hears_accounts w k p c l ec el) (λ other. record { balanced = refl }))

client_takes_accounts : (w : World) (k : ℕ) (p : Packet) (o : Option Client) → numbered FIRST_CLIENT w.clients p.to ≡ o → Accounts 0 0 w (client_takes w k p o)
unfolding client_takes
client_takes_accounts w k p None e = record { balanced = refl }
client_takes_accounts w k p (Some c) e = line_takes_accounts w k p c (numbered 1 c.lines (p.header.hint + 1)) e refl

machine_takes_accounts : (w : World) (k : ℕ) (p : Packet) → Accounts 0 0 w (machine_takes w k p)
unfolding machine_takes
machine_takes_accounts w k p =
    either w (eqb p.to SERVER_MACHINE) _ _ (λ server. server_takes_accounts w k p)
    (λ client. client_takes_accounts w k p (numbered FIRST_CLIENT w.clients p.to) refl)

takes_arrival_accounts : (w : World) (k : ℕ) (a : Arrival) → Accounts 0 0 w (takes_arrival w k a)
takes_arrival_accounts w k (Comes p) = machine_takes_accounts w k p
takes_arrival_accounts w k (Dropped why) = record { balanced = refl }

pub deliver_accounts : (w : World) (k : ℕ) (o : Option Packet) → Accounts 0 0 w (deliver_event w k o)
unfolding deliver_event
deliver_accounts w k None = impossible_accounts w
deliver_accounts w k (Some p) = takes_arrival_accounts w k (arrives p.to (frame_of p))

pub damage_accounts : (w : World) (k bit : ℕ) (o : Option Packet) → Accounts 0 0 w (damage_event w k bit o)
unfolding damage_event
damage_accounts w k bit None = impossible_accounts w
damage_accounts w k bit (Some p) =
    either w (ltb bit (8 * length (frame_of p))) _ _ (λ within. takes_arrival_accounts w k (arrives p.to (flipped (frame_of p) bit)))
    (λ beyond. impossible_accounts w)

pub show_accounts : (w : World) (k : ℕ) (o : Option Packet) → Accounts 0 0 w (show_event w k o)
show_accounts w k None = impossible_accounts w
show_accounts w k (Some p) = record { balanced = refl }

-- Workers, which touch no process.

adds_accounts : (w : World) (who number : ℕ) (did : Did) (a : Adds) → Accounts 0 0 w (adds w (Works who number did) a)
adds_accounts w who number did Nothing = record { balanced = refl }
adds_accounts w who number did (ARun run) = record { balanced = refl }
adds_accounts w who number did (APacket p) = record { balanced = refl }
adds_accounts w who number did (ARejection p) = record { balanced = refl }

works_accounts : (w : World) (who : ℕ) (p : Packet) (step : worker.Step) → Accounts 0 0 w (works w who p step)
unfolding works
works_accounts w who p step = record { balanced = (adds_accounts _ who p.header.call.number step.did step.adds).balanced }

claims_next_accounts : (w : World) (who : ℕ) (ready : List Packet) → Accounts 0 0 w (claims_next w who ready)
unfolding claims_next
claims_next_accounts w who [] = record { balanced = refl }
claims_next_accounts w who (p ∷ rest) = record { balanced = (works_accounts _ who p _).balanced }

pub work_accounts : (w : World) (who : ℕ) (o : Option Worker) → Accounts 0 0 w (work_event w who o)
unfolding work_event
work_accounts w who None = impossible_accounts w
work_accounts w who (Some Resting) = claims_next_accounts w who w.server.ready
work_accounts w who (Some (Claimed p seen)) = works_accounts w who p (on_claimed has_buffer p seen (entry_of w p))
work_accounts w who (Some (Took p)) = works_accounts w who p (on_took p (entry_of w p))
work_accounts w who (Some (Admitted p arguments)) = record { balanced = (works_accounts _ who p _).balanced }
work_accounts w who (Some (Ran p answer)) = works_accounts w who p (on_ran p answer)
work_accounts w who (Some (Fetched p)) = works_accounts w who p (on_fetched p (entry_of w p))
