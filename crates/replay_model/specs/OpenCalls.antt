-- The calls that are open: begun, and neither returned nor failed. A bind is no call.
use Rattle.std.specs.Prelude.{ℕ, ◌+◌, List, [], ◌∷◌, Option, Some, None, nat_lt, if◌then◌else◌}
use Rattle.call_rules.specs.Caller.{State, Idle, Binding}
use Rattle.replay_model.specs.declared.event.Event.{Event}
use Rattle.replay_model.specs.declared.event.Event.TheVariants as event
use Rattle.replay_model.specs.declared.limits.TheConstants.{FIRST_CLIENT}
use Rattle.replay_model.specs.Process.{Line}
use Rattle.replay_model.specs.Step.{step}
use Rattle.replay_model.specs.World.{World, Client, numbered}

-- how many calls a caller in this state has open
abbrev pub open_in : State → ℕ
open_in Idle = 0
open_in Binding = 0
open_in _ = 1

abbrev pub open_of_lines : List Line → ℕ
open_of_lines [] = 0
open_of_lines (l ∷ ls) = open_in l.caller.state + open_of_lines ls

-- of a client machine, and of all
abbrev pub open_of : Client → ℕ
open_of c = open_of_lines c.lines

abbrev pub open_of_clients : List Client → ℕ
open_of_clients [] = 0
open_of_clients (c ∷ cs) = open_of c + open_of_clients cs

abbrev pub open_calls : World → ℕ
open_calls w = open_of_clients w.clients

-- the calls that a client loses where it boots anew, which it does at a second that it hasn't read yet
abbrev pub lost_of : World → Option Client → ℕ
lost_of w None = 0
lost_of w (Some c) = if nat_lt c.read w.second then open_of c else 0

-- the calls that are open at their client's restart, in an event
abbrev pub lost_in : World → Event → ℕ
lost_in w (event.Restart machine) = lost_of w (numbered FIRST_CLIENT w.clients machine)
lost_in w _ = 0

-- and in events, each over the world that those before it leave
abbrev pub lost_over : World → List Event → ℕ
lost_over w [] = 0
lost_over w (e ∷ es) = lost_in w e + lost_over (step w e) es
