-- What a client answers to a start, to numbers that are passed over, to a restart, to a packet and to a tick, as
-- outcomes of the model.
use Rattle.std.specs.Prelude.{◌≡◌, ℕ, [], ◌∷◌, Option, Some, None, Bool, true, false}
use Rattle.rpc_header.specs.declared.Activity.{Activity}
use Rattle.call_rules.specs.Packet.{Packet, call_of}
use Rattle.replay_model.specs.Record.{Start, Starts, Binds, TooFast, Skips, Restarts, Hears}
use Rattle.replay_model.specs.World.{World, Client}
use Rattle.replay_model.specs.Step.{Outcome, impossible, discarded, nothing, behind, with_client}
use Rattle.replay_client.specs.declared.told.Told.{Told}
use Rattle.replay_client.specs.declared.machine.Called.{Called}
use Rattle.replay_client.specs.declared.machine.Called.TheVariants as called
use Rattle.replay_client.specs.declared.machine.Skipped.{Skipped}
use Rattle.replay_client.specs.declared.line.Took.{Took}
use Rattle.replay_client.specs.declared.line.Took.TheVariants as took
use Rattle.replay_client.specs.Told.{TellsAs}

-- the call is started, and then its first packet is sent
pub record StartsAs (w : World) (told : Told) (o : Outcome) : Type 0 where
  pub start : Start
  pub call : start.call ≡ call_of told.call
  pub first : Outcome
  pub tells : TellsAs w told first
  pub outcome : o ≡ behind (Starts start) first

-- the outcome that a client's answer to a start stands for; c is the client after it
abbrev pub CallsAs : World → (machine : ℕ) → Client → Called → Outcome → Type 0
CallsAs w machine c called.Impossible o = o ≡ impossible w
CallsAs w machine c (called.TooFast number) o =
    (a : Activity) × (o ≡ record { world = with_client w machine c; acts = TooFast a number w.second ∷ [] })
CallsAs w machine c (called.Starts told) o = StartsAs (with_client w machine c) told o

-- the bind is begun, and then its packet is sent
pub record BeginsAs (w : World) (told : Told) (o : Outcome) : Type 0 where
  pub first : Outcome
  pub tells : TellsAs w told first
  pub outcome : o ≡ behind (Binds (call_of told.call)) first

-- the outcome that a client's answer to the start of a bind stands for; c is the client after it
abbrev pub BindsAs : World → (machine : ℕ) → Client → Called → Outcome → Type 0
BindsAs w machine c called.Impossible o = o ≡ impossible w
BindsAs w machine c (called.TooFast number) o =
    (a : Activity) × (o ≡ record { world = with_client w machine c; acts = TooFast a number w.second ∷ [] })
BindsAs w machine c (called.Starts told) o = BeginsAs (with_client w machine c) told o

-- an impossible start changes nothing
abbrev pub KeepsImpossible : Called → Client → Client → Type 0
KeepsImpossible called.Impossible old new = new ≡ old
KeepsImpossible _ old new = Unit {0}

-- the outcome that a process that passes over numbers stands for; c is the client after it
abbrev pub SkipsAs : World → (machine : ℕ) → Client → Option Skipped → Outcome → Type 0
SkipsAs w machine c None o = o ≡ impossible w
SkipsAs w machine c (Some x) o = o ≡ record { world = with_client w machine c; acts = Skips x.activity x.next ∷ [] }

-- the outcome that a restart stands for; a client that doesn't boot is as it was
abbrev pub RestartsAs : World → (machine : ℕ) → (old new : Client) → (booted : Bool) → Outcome → Type 0
RestartsAs w machine old new true o = o ≡ record { world = with_client w machine new; acts = Restarts machine w.second ∷ [] }
RestartsAs w machine old new false o = (o ≡ impossible w) × (new ≡ old)

-- packet k is heard, and then what the step says
pub record HearsAs (w : World) (number : ℕ) (told : Told) (o : Outcome) : Type 0 where
  pub rest : Outcome
  pub tells : TellsAs w told rest
  pub outcome : o ≡ behind (Hears (call_of told.call).activity number) rest

-- the outcome that a client's answer to packet k stands for; c is the client after it
abbrev pub TookAs : World → (number : ℕ) → Packet → Client → Took → Outcome → Type 0
TookAs w k p c (took.Dropped why) o = o ≡ discarded w why
TookAs w k p c (took.Hears told) o = HearsAs (with_client w p.to c) k told o

-- a packet that is dropped changes nothing
abbrev pub KeepsDropped : {A : Type 0} → Took → A → A → Type 0
KeepsDropped (took.Dropped why) old new = new ≡ old
KeepsDropped (took.Hears told) old new = Unit {0}

-- the outcome that a client's answer to a tick stands for; c is the client after it
abbrev pub TicksAs : World → (machine : ℕ) → Client → Option Told → Outcome → Type 0
TicksAs w machine c None o = o ≡ nothing w
TicksAs w machine c (Some told) o = TellsAs (with_client w machine c) told o
