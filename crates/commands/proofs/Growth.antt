-- What the events of a storm leave of a world: no packet is taken out of the bag, few come into it, and the second passes
-- to the one that an event names.
use Rattle.std.proofs.Common.{ℕ, zero, suc, ◌+◌, ◌*◌, ◌≤◌, Bool, true, false, cond, List, [], ◌∷◌, ◌++◌, length, Option, Some, None, length-append, arith}
use Rattle.std.specs.Prelude.{◌==◌, nat_lt, nat_le}
use Rattle.udp_frames.specs.Damage.{flipped}
use Rattle.call_rules.specs.Packet.{Call, Packet}
use Rattle.call_rules.specs.Caller as caller
use Rattle.call_rules.specs.Worker.{Worker, Resting, Claimed, Took, Admitted, Ran, Fetched, Adds, Nothing, ARun, APacket, ARejection}
use Rattle.call_rules.specs.Worker as worker
use Rattle.replay_model.specs.declared.event.CallWord.{CallWord}
use Rattle.replay_model.specs.declared.event.Event.{Event}
use Rattle.replay_model.specs.declared.event.Event.TheVariants as event
use Rattle.replay_model.specs.declared.limits.TheConstants.{SERVER_MACHINE, FIRST_CLIENT, READY_CELLS}
use Rattle.replay_model.specs.Arrival.{Arrival, Comes, Dropped, arrives, frame_of}
use Rattle.replay_model.specs.Process.{Line, LineStep, Said, SaysNothing, Sends, Waits, Returned, Fails, BindFails, BoundTo, NotBound}
use Rattle.replay_model.specs.Record.{Act}
use Rattle.replay_model.specs.Step.{Outcome, tells, does, call_by, call_event, bind_by, bind_event, ticks_line, ticks_client, tick, ticks, tick_event, server_takes, line_takes, client_takes, machine_takes, takes_arrival, deliver_event, damage_event, adds, works, claims_next, work_event, boots_client, restart_event, outcome, settled, step}
use Rattle.replay_model.specs.World.{World, Client, numbered, packet_at, number_limit}

-- w' has all packets of w and at most k more, and its second is at most n
pub record Grown (n k : ℕ) (w w' : World) : Type 0 where
  pub second : w'.second ≤ n
  pub bag : length w.bag ≤ length w'.bag
  pub most : length w'.bag ≤ length w.bag + k

same : (n : ℕ) (w : World) → w.second ≤ n → Grown n 1 w w
same n w few = record { second = few; bag = omega arith; most = omega arith }

more : (n j k : ℕ) (w w' : World) → j ≤ k → Grown n j w w' → Grown n k w w'
more n j k w w' h g = record { second = g.second; bag = g.bag; most = omega (arith, g.most, h) }

either : (n : ℕ) (w : World) (b : Bool) (x y : Outcome) → Grown n 1 w x.world → Grown n 1 w y.world → Grown n 1 w (cond b x y).world
either n w true x y p q = p
either n w false x y p q = q

one_more : (n : ℕ) (w : World) (p : Packet) → w.second ≤ n → Grown n 1 w (record w { bag = w.bag ++ p ∷ [] })
one_more n w p few = record { second = few; bag = omega (arith, length-append w.bag (p ∷ [])); most = omega (arith, length-append w.bag (p ∷ [])) }

tells-grown : (n : ℕ) (w : World) (call : Call) (s : Said) → w.second ≤ n → Grown n 1 w (tells w call s).world
tells-grown n w call SaysNothing few = same n w few
tells-grown n w call (Sends p) few = one_more n w p few
tells-grown n w call Waits few = same n w few
tells-grown n w call (Returned x) few = same n w few
tells-grown n w call (Fails cause) few = same n w few
tells-grown n w call BindFails few = same n w few
tells-grown n w call (BoundTo export) few = same n w few
tells-grown n w call NotBound few = same n w few

does-grown : (n : ℕ) (w : World) (machine process : ℕ) (c : Client) (s : LineStep) → w.second ≤ n → Grown n 1 w (does w machine process c s).world
unfolding does
does-grown n w machine process c s few =
    let told = tells-grown n _ (caller.current_call s.line.caller) s.said few in record { second = told.second; bag = told.bag; most = told.most }

call_by-grown : (n : ℕ) (w : World) (machine process : ℕ) (c : Client) (l : Option Line) (asked : CallWord) → w.second ≤ n
    → Grown n 1 w (call_by w machine process c l asked).world
unfolding call_by
call_by-grown n w machine process c None asked few = same n w few
call_by-grown n w machine process c (Some l) asked few =
    either n w (caller.is_idle l.caller.state) _ _
    (either n w (nat_le (number_limit w.second) l.next) _ _ (record { second = few; bag = omega arith; most = omega arith }) (does-grown n w machine process _ _ few))
    (same n w few)

call_event-grown : (n : ℕ) (w : World) (machine process : ℕ) (c : Option Client) (asked : CallWord) → w.second ≤ n
    → Grown n 1 w (call_event w machine process c asked).world
unfolding call_event
call_event-grown n w machine process None asked few = same n w few
call_event-grown n w machine process (Some c) asked few = call_by-grown n w machine process c (numbered 1 c.lines process) asked few

bind_by-grown : (n : ℕ) (w : World) (machine process : ℕ) (c : Client) (l : Option Line) (name : List ℕ) → w.second ≤ n
    → Grown n 1 w (bind_by w machine process c l name).world
unfolding bind_by
bind_by-grown n w machine process c None name few = same n w few
bind_by-grown n w machine process c (Some l) name few =
    either n w (caller.is_idle l.caller.state) _ _
    (either n w (nat_le (number_limit w.second) l.next) _ _ (record { second = few; bag = omega arith; most = omega arith }) (does-grown n w machine process _ _ few))
    (same n w few)

bind_event-grown : (n : ℕ) (w : World) (machine process : ℕ) (c : Option Client) (name : List ℕ) → w.second ≤ n
    → Grown n 1 w (bind_event w machine process c name).world
unfolding bind_event
bind_event-grown n w machine process None name few = same n w few
bind_event-grown n w machine process (Some c) name few = bind_by-grown n w machine process c (numbered 1 c.lines process) name few

ticks_line-grown : (n : ℕ) (w : World) (machine process : ℕ) (c : Client) (l : Option Line) → w.second ≤ n → Grown n 1 w (ticks_line w machine process c l).world
ticks_line-grown n w machine process c None few = same n w few
ticks_line-grown n w machine process c (Some l) few = does-grown n w machine process c _ few

ticks_client-grown : (n : ℕ) (w : World) (machine process : ℕ) (c : Option Client) → w.second ≤ n → Grown n 1 w (ticks_client w machine process c).world
ticks_client-grown n w machine process None few = same n w few
ticks_client-grown n w machine process (Some c) few = ticks_line-grown n w machine process c (numbered 1 c.lines process) few

tick-grown : (n : ℕ) (w : World) (machine process : ℕ) → w.second ≤ n → Grown n 1 w (tick w machine process).world
unfolding tick
tick-grown n w machine process few = ticks_client-grown n w machine process (numbered FIRST_CLIENT w.clients machine) few

ticks-grown : (n : ℕ) (w : World) (machine process count : ℕ) → w.second ≤ n → Grown n count w (ticks w machine process count).world
ticks-grown n w machine process zero few = record { second = few; bag = omega arith; most = omega arith }
ticks-grown n w machine process (suc count) few =
    let first = tick-grown n w machine process few in
    let rest = ticks-grown n (settled w (tick w machine process)) machine process count first.second in
    record { second = rest.second; bag = omega (arith, first.bag, rest.bag); most = omega (arith, first.most, rest.most) }

tick_event-grown : (n : ℕ) (w : World) (machine process count : ℕ) → w.second ≤ n → Grown n count w (tick_event w machine process count).world
unfolding tick_event
tick_event-grown n w machine process count few = ticks-grown n w machine process count few

line_takes-grown : (n : ℕ) (w : World) (k : ℕ) (p : Packet) (c : Client) (l : Option Line) → w.second ≤ n → Grown n 1 w (line_takes w k p c l).world
unfolding line_takes
line_takes-grown n w k p c None few = same n w few
line_takes-grown n w k p c (Some l) few =
    either n w (caller.is_idle l.caller.state) _ _ (same n w few)
    (either n w (l.caller.number == p.header.call.number) _ _
    (either n w (caller.is_unused (caller.on_packet l.caller p.header).act) _ _ (same n w few) (does-grown n w p.to (p.header.hint + 1) c _ few))
    (same n w few))

client_takes-grown : (n : ℕ) (w : World) (k : ℕ) (p : Packet) (c : Option Client) → w.second ≤ n → Grown n 1 w (client_takes w k p c).world
unfolding client_takes
client_takes-grown n w k p None few = same n w few
client_takes-grown n w k p (Some c) few = line_takes-grown n w k p c (numbered 1 c.lines (p.header.hint + 1)) few

server_takes-grown : (n : ℕ) (w : World) (k : ℕ) (p : Packet) → w.second ≤ n → Grown n 1 w (server_takes w k p).world
unfolding server_takes
server_takes-grown n w k p few =
    either n w (nat_lt (length w.server.ready) READY_CELLS) _ _ (record { second = few; bag = omega arith; most = omega arith }) (same n w few)

takes_arrival-grown : (n : ℕ) (w : World) (k : ℕ) (a : Arrival) → w.second ≤ n → Grown n 1 w (takes_arrival w k a).world
unfolding machine_takes
takes_arrival-grown n w k (Dropped why) few = same n w few
takes_arrival-grown n w k (Comes p) few =
    either n w (p.to == SERVER_MACHINE) _ _ (server_takes-grown n w k p few) (client_takes-grown n w k p (numbered FIRST_CLIENT w.clients p.to) few)

deliver_event-grown : (n : ℕ) (w : World) (k : ℕ) (p : Option Packet) → w.second ≤ n → Grown n 1 w (deliver_event w k p).world
unfolding deliver_event
deliver_event-grown n w k None few = same n w few
deliver_event-grown n w k (Some p) few = takes_arrival-grown n w k (arrives p.to (frame_of p)) few

damage_event-grown : (n : ℕ) (w : World) (k bit : ℕ) (p : Option Packet) → w.second ≤ n → Grown n 1 w (damage_event w k bit p).world
unfolding damage_event
damage_event-grown n w k bit None few = same n w few
damage_event-grown n w k bit (Some p) few =
    either n w (nat_lt bit (8 * length (frame_of p))) _ _ (takes_arrival-grown n w k (arrives p.to (flipped (frame_of p) bit)) few) (same n w few)

adds-grown : (n : ℕ) (w : World) (told : Act) (a : Adds) → w.second ≤ n → Grown n 1 w (adds w told a).world
adds-grown n w told Nothing few = same n w few
adds-grown n w told (ARun run) few = same n w few
adds-grown n w told (APacket p) few = one_more n w p few
adds-grown n w told (ARejection p) few = one_more n w p few

works-grown : (n : ℕ) (w : World) (who : ℕ) (p : Packet) (s : worker.Step) → w.second ≤ n → Grown n 1 w (works w who p s).world
unfolding works
works-grown n w who p s few = let added = adds-grown n _ _ s.adds few in record { second = added.second; bag = added.bag; most = added.most }

claims_next-grown : (n : ℕ) (w : World) (who : ℕ) (ready : List Packet) → w.second ≤ n → Grown n 1 w (claims_next w who ready).world
unfolding claims_next
claims_next-grown n w who [] few = same n w few
claims_next-grown n w who (p ∷ rest) few = let done = works-grown n _ who p _ few in record { second = done.second; bag = done.bag; most = done.most }

work_event-grown : (n : ℕ) (w : World) (who : ℕ) (o : Option Worker) → w.second ≤ n → Grown n 1 w (work_event w who o).world
unfolding work_event
work_event-grown n w who None few = same n w few
work_event-grown n w who (Some Resting) few = claims_next-grown n w who w.server.ready few
work_event-grown n w who (Some (Claimed p seen)) few = works-grown n w who p _ few
work_event-grown n w who (Some (Took p)) few = works-grown n w who p _ few
work_event-grown n w who (Some (Admitted p arguments)) few = let done = works-grown n _ who p _ few in record { second = done.second; bag = done.bag; most = done.most }
work_event-grown n w who (Some (Ran p answer)) few = works-grown n w who p _ few
work_event-grown n w who (Some (Fetched p)) few = works-grown n w who p _ few

boots_client-grown : (n : ℕ) (w : World) (machine : ℕ) (c : Option Client) → w.second ≤ n → Grown n 1 w (boots_client w machine c).world
boots_client-grown n w machine None few = same n w few
boots_client-grown n w machine (Some c) few = either n w (nat_lt c.read w.second) _ _ (record { second = few; bag = omega arith; most = omega arith }) (same n w few)

restart_event-grown : (n : ℕ) (w : World) (machine : ℕ) → w.second ≤ n → Grown n 1 w (restart_event w machine).world
unfolding restart_event
restart_event-grown n w machine few =
    either n w (machine == SERVER_MACHINE) _ _
    (either n w (nat_lt w.server.read w.second) _ _ (record { second = few; bag = omega arith; most = omega arith }) (same n w few))
    (boots_client-grown n w machine (numbered FIRST_CLIENT w.clients machine) few)

-- an event that a storm draws, which names no later second than n, and has no more than four ticks
abbrev pub IsUpTo : ℕ → Event → Type 0
IsUpTo n (event.Second second) = second ≤ n
IsUpTo n (event.Call machine process asked) = Unit {0}
IsUpTo n (event.Bind machine process name) = Unit {0}
IsUpTo n (event.Tick machine process count) = count ≤ 4
IsUpTo n (event.Deliver k) = Unit {0}
IsUpTo n (event.Damage k bit) = Unit {0}
IsUpTo n (event.Restart machine) = Unit {0}
IsUpTo n (event.Work number) = Unit {0}
IsUpTo n _ = ⊥

outcome-grown : (n : ℕ) (w : World) (e : Event) → w.second ≤ n → IsUpTo n e → Grown n 4 w (outcome w e).world
outcome-grown n w (event.Second second) few up = more n 1 4 w _ (omega arith) (either n w (nat_lt w.second second) _ _ (record { second = up; bag = omega arith; most = omega arith }) (same n w few))
outcome-grown n w (event.Call machine process asked) few up = more n 1 4 w _ (omega arith) (call_event-grown n w machine process (numbered FIRST_CLIENT w.clients machine) asked few)
outcome-grown n w (event.Bind machine process name) few up = more n 1 4 w _ (omega arith) (bind_event-grown n w machine process (numbered FIRST_CLIENT w.clients machine) name few)
outcome-grown n w (event.Tick machine process count) few up = more n count 4 w _ up (tick_event-grown n w machine process count few)
outcome-grown n w (event.Deliver k) few up = more n 1 4 w _ (omega arith) (deliver_event-grown n w k (packet_at w.bag k) few)
outcome-grown n w (event.Damage k bit) few up = more n 1 4 w _ (omega arith) (damage_event-grown n w k bit (packet_at w.bag k) few)
outcome-grown n w (event.Restart machine) few up = more n 1 4 w _ (omega arith) (restart_event-grown n w machine few)
outcome-grown n w (event.Work number) few up = more n 1 4 w _ (omega arith) (work_event-grown n w number (numbered 1 w.server.workers number) few)
outcome-grown n w _ few up = absurd up

pub step-grown : (n : ℕ) (w : World) (e : Event) → w.second ≤ n → IsUpTo n e → Grown n 4 w (step w e)
unfolding step
step-grown n w e few up = let o = outcome-grown n w e few up in record { second = o.second; bag = o.bag; most = o.most }
