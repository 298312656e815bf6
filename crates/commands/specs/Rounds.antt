-- How far a player of a storm has come, and what it is to play a round.
use Rattle.std.specs.Prelude.{◌≡◌, ℕ, ◌+◌, ◌*◌, ◌≤◌, List, [], length, min, codes, Option, Some, None, All}
use Rattle.call_rules.specs.Packet.{Packet}
use Rattle.replay_model.specs.declared.event.CallWord.{CallWord}
use Rattle.replay_model.specs.declared.event.Event.{Event}
use Rattle.replay_model.specs.declared.event.Event.TheVariants as event
use Rattle.replay_model.specs.Arrival.{frame_of}
use Rattle.replay_model.specs.Forms.{InRange}
use Rattle.replay_model.specs.Step.{run}
use Rattle.replay_model.specs.World.{World}
use Rattle.replay_world.specs.Stands.{Stands}
use Rattle.replay_world.specs.Stored.{Stored, AllBelow, RoseByAtMost, packets_of}
use Rattle.replay_model.specs.declared.options.TheConstants.{MOST_CALLS}
use Rattle.replay_model.specs.OpenCalls.{lost_over}
use Rattle.replay_model.specs.Rounds.{Storm, Round, calm, world_of, after_rounds, rounds_of, when, calls_with, is_idle_at}
use Rattle.commands.specs.declared.rounds.Player.{Player}

-- the storm that was played so far, and the world that it has reached
abbrev pub storm_at : Player → Storm
storm_at p = after_rounds p.options.seed p.options.calls p.rounds

abbrev pub world_at : Player → World
world_at p = world_of (storm_at p)

-- none of the last 64 packets is forgotten
abbrev pub HasLast : Stored → Type 0
HasLast s = min 64 (packets_of s) ≤ length s.bag

-- so many rounds were played, and each number is small yet
pub record Reached (p : Player) : Type 0 where
  pub some_calls : 1 ≤ p.options.calls
  pub most_calls : p.options.calls ≤ MOST_CALLS
  pub rounds : p.rounds ≤ rounds_of p.options.calls
  pub stands : Stands p.world (world_at p)
  pub in_range : All InRange (storm_at p).played
  pub lost : p.world.lost ≡ lost_over calm (storm_at p).played
  pub few : AllBelow (2000 * p.rounds + 1) p.world
  pub second : p.world.second ≤ 1 + p.rounds
  pub last : HasLast p.world

-- this round was played after the others; x is the generator's state behind it
pub record Plays (old new : Player) (x : ℕ) (r : Round) : Type 0 where
  pub options : new.options ≡ old.options
  pub rounds : new.rounds ≡ old.rounds
  pub draws : x ≡ r.x
  pub stands : Stands new.world (run (world_at old) r.events)
  pub in_range : All InRange r.events
  pub lost : new.world.lost ≡ old.world.lost + lost_over (world_at old) r.events
  pub few : RoseByAtMost 2000 old.world new.world
  pub second : new.world.second ≤ old.world.second + 1
  pub last : HasLast new.world

-- what is asked of a process: a call, or else a bind to the name that the server exports
abbrev pub asked_events : (calls : ℕ) → World → (machine process : ℕ) → Option CallWord → List Event
asked_events calls w machine process (Some word) = calls_with calls w machine process word
asked_events calls w machine process None = when (is_idle_at w machine process) (event.Bind machine process (codes "main"))

-- the bytes of a packet's frame
abbrev pub frame_length : Packet → ℕ
frame_length p = length (frame_of p)
