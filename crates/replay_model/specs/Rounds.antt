-- A storm: rounds, each of which draws what happens, over the world that the rounds before have reached.
use Rattle.std.specs.Prelude.{ℕ, zero, suc, ◌+◌, ◌-◌, ◌*◌, ◌/◌, ◌%◌, ◌^◌, min, ◌==◌, ◌&&◌, nat_lt, List, [], ◌∷◌, ◌++◌, length, Option, Some, None, Bool, false, codes, if◌then◌else◌}
use Rattle.call_rules.specs.Caller.{is_idle}
use Rattle.call_rules.specs.Packet.{Packet}
use Rattle.replay_model.specs.declared.event.CallWord.{CallWord}
use Rattle.replay_model.specs.declared.event.CallWord.TheVariants as word
use Rattle.replay_model.specs.declared.event.Event.{Event}
use Rattle.replay_model.specs.declared.event.Event.TheVariants as event
use Rattle.replay_model.specs.declared.limits.TheConstants.{FIRST_CLIENT, SMALL_BUFFERS, LONG_BUFFERS}
use Rattle.replay_model.specs.Arrival.{frame_of}
use Rattle.replay_model.specs.Process.{Line}
use Rattle.replay_model.specs.Step.{run}
use Rattle.replay_model.specs.World.{World, line_at, packet_at, first_world}
use Rattle.replay_model.specs.declared.options.TheConstants.{ROUNDS_A_CALL}
use Rattle.replay_model.specs.Draws.{Drawn, draw}

-- the events of a round, and the generator's state behind it
pub record Round : Type 0 where
  pub events : List Event
  pub x : ℕ

-- an activity by a number below 64: eight clients, with eight processes each
abbrev pub machine_of : ℕ → ℕ
machine_of a = FIRST_CLIENT + a / 8

abbrev pub process_of : ℕ → ℕ
process_of a = 1 + a % 8

abbrev pub is_idle_line : Option Line → Bool
is_idle_line None = false
is_idle_line (Some l) = is_idle l.caller.state

abbrev pub is_idle_at : World → (machine process : ℕ) → Bool
is_idle_at w machine process = is_idle_line (line_at w.clients machine process)

-- one event where this holds, and else none
abbrev pub when : Bool → Event → List Event
when b e = if b then e ∷ [] else []

-- a call, where the process is idle and fewer calls than these were started
abbrev pub calls_with : (calls : ℕ) → World → (machine process : ℕ) → CallWord → List Event
calls_with calls w machine process asked =
    when (is_idle_at w machine process && nat_lt (length w.records.started) calls) (event.Call machine process asked)

-- a call or a bind of a process; the numbers of a call are drawn also where nothing happens
unfoldable pub asks : (calls : ℕ) → World → (machine process : ℕ) → (kind : Drawn) → Round
asks calls w machine process kind =
    if kind.value == 0 then record { events = calls_with calls w machine process word.Null; x = kind.x }
    else (if kind.value == 1
    then
    (let a : Drawn = draw kind.x (2 ^ 31) in
    let b : Drawn = draw a.x (2 ^ 31) in
    record { events = calls_with calls w machine process (word.Add a.value b.value); x = b.x })
    else (if kind.value == 2 then record { events = calls_with calls w machine process (word.Bump 1); x = kind.x }
    else (if kind.value == 3
    then (let n : Drawn = draw kind.x 3000 in record { events = calls_with calls w machine process (word.MaxArg n.value); x = n.x })
    else record { events = when (is_idle_at w machine process) (event.Bind machine process (codes "main")); x = kind.x })))

unfoldable pub starts_round : (calls : ℕ) → World → (x : ℕ) → Round
starts_round calls w x =
    let a : Drawn = draw x 64 in
    asks calls w (machine_of a.value) (process_of a.value) (draw a.x 5)

-- one of the last 64 packets, by how far it stands from the newest
abbrev pub drawn_packet : World → Drawn → ℕ
drawn_packet w back = length w.bag - back.value

abbrev pub draw_back : World → (x : ℕ) → Drawn
draw_back w x = draw x (min 64 (length w.bag))

unfoldable pub deliver_round : World → (x : ℕ) → Round
deliver_round w x =
    if length w.bag == 0 then record { events = []; x = x }
    else (let back : Drawn = draw_back w x in record { events = event.Deliver (drawn_packet w back) ∷ []; x = back.x })

unfoldable pub work_round : (x : ℕ) → Round
work_round x = let w : Drawn = draw x 4 in record { events = event.Work (1 + w.value) ∷ []; x = w.x }

unfoldable pub tick_round : (x : ℕ) → Round
tick_round x = let a : Drawn = draw x 64 in record { events = event.Tick (machine_of a.value) (process_of a.value) 4 ∷ []; x = a.x }

-- the damage of a packet in any bit of its frame
abbrev pub damages : (number : ℕ) → Option Packet → (x : ℕ) → Round
damages k None x = record { events = []; x = x }
damages k (Some p) x =
    let bit : Drawn = draw x (8 * length (frame_of p)) in
    record { events = event.Damage k bit.value ∷ []; x = bit.x }

unfoldable pub damage_round : World → (x : ℕ) → Round
damage_round w x =
    if length w.bag == 0 then record { events = []; x = x }
    else (let back : Drawn = draw_back w x in damages (drawn_packet w back) (packet_at w.bag (drawn_packet w back)) back.x)

-- once in a thousand times the second passes and a machine boots anew; else a worker does a step
unfoldable pub restart_round : World → (x : ℕ) → Round
restart_round w x =
    let d : Drawn = draw x 1000 in
    if d.value == 0
    then (let m : Drawn = draw d.x 9 in record { events = event.Second (w.second + 1) ∷ event.Restart (1 + m.value) ∷ []; x = m.x })
    else work_round d.x

-- a round by a number below 16
unfoldable pub round_of : (calls : ℕ) → World → (kind : Drawn) → Round
round_of calls w kind =
    if nat_lt kind.value 3 then starts_round calls w kind.x
    else (if nat_lt kind.value 8 then deliver_round w kind.x
    else (if nat_lt kind.value 12 then work_round kind.x
    else (if nat_lt kind.value 14 then tick_round kind.x
    else (if kind.value == 14 then damage_round w kind.x
    else restart_round w kind.x))))

unfoldable pub round : (calls : ℕ) → World → (x : ℕ) → Round
round calls w x = round_of calls w (draw x 16)

-- what a storm has reached: the generator's state, and the events that were played
pub record Storm : Type 0 where
  pub x : ℕ
  pub played : List Event

-- the world before any event
abbrev pub calm : World
calm = first_world SMALL_BUFFERS LONG_BUFFERS

abbrev pub world_of : Storm → World
world_of s = run calm s.played

abbrev pub goes_on : Storm → Round → Storm
goes_on s r = record { x = r.x; played = s.played ++ r.events }

-- one round more
abbrev pub after_round : (calls : ℕ) → Storm → Storm
after_round calls s = goes_on s (round calls (world_of s) s.x)

-- the storm of a seed, after so many rounds
abbrev pub after_rounds : (seed calls : ℕ) → (rounds : ℕ) → Storm
after_rounds seed calls zero = record { x = seed; played = [] }
after_rounds seed calls (suc n) = after_round calls (after_rounds seed calls n)

abbrev pub rounds_of : (calls : ℕ) → ℕ
rounds_of calls = ROUNDS_A_CALL * calls

unfoldable pub storm : (seed calls : ℕ) → Storm
storm seed calls = after_rounds seed calls (rounds_of calls)
