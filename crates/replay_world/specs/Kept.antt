-- What the player's world still has of the packets that were sent: the last of them. The others are forgotten.
use Rattle.std.specs.Prelude.{ℕ, ◌+◌, ◌-◌, ◌<◌, List, length, drop, Option, Some, None, IfSome, nat_le, if◌then◌else◌}
use Rattle.call_rules.specs.Packet.{Packet}
use Rattle.replay_model.specs.declared.event.Event.{Event}
use Rattle.replay_model.specs.declared.event.Event.TheVariants as event
use Rattle.replay_model.specs.World.{packet_at}
use Rattle.replay_world.specs.declared.world.asking.TheConstants.{KEPT_PACKETS}
use Rattle.replay_world.specs.Stored.{Stored}

-- the packet of this number, unless it is forgotten
abbrev pub kept_at : (forgotten : ℕ) → List Packet → (number : ℕ) → Option Packet
kept_at forgotten bag k = if nat_le k forgotten then None else packet_at bag k

-- the packet that an event names
abbrev pub named : Event → Option ℕ
named (event.Deliver packet) = Some packet
named (event.Damage packet bit) = Some packet
named (event.Show packet) = Some packet
named _ = None

-- an event names no packet that is forgotten
abbrev pub HasNamed : Stored → Event → Type 0
HasNamed s e = IfSome (named e) (λ k. s.forgotten < k)

-- all packets but the last ones are forgotten
abbrev pub forgets : Stored → Stored
forgets s =
    record s {
      forgotten = s.forgotten + (length s.bag - KEPT_PACKETS);
      bag = drop (length s.bag - KEPT_PACKETS) s.bag;
    }
