-- What a process tells of a step, as the model says it. Of a reply there is the digest.
use Rattle.std.specs.Prelude.{◌≡◌, ℕ, List, Bool}
use Rattle.lane_checksum.specs.Digests.{digest}
use Rattle.lane_checksum.specs.declared.Digest.{Digest}
use Rattle.call_rules.specs.Packet.{Call, call_of}
use Rattle.call_rules.specs.Caller.{current_call}
use Rattle.replay_model.specs.Record.{Return}
use Rattle.replay_model.specs.Record as kept
use Rattle.replay_model.specs.Process.{Line, LineStep}
use Rattle.replay_model.specs.Process as process
use Rattle.replay_model.specs.World.{World}
use Rattle.replay_model.specs.Step.{Outcome, tells}
use Rattle.replay_client.specs.declared.told.Cause.{Cause}
use Rattle.replay_client.specs.declared.told.Cause.TheVariants as cause
use Rattle.replay_client.specs.declared.told.Said.{Said}
use Rattle.replay_client.specs.declared.told.Said.TheVariants as said
use Rattle.replay_client.specs.declared.told.Told.{Told}

abbrev pub cause_of : Cause → kept.Cause
cause_of cause.Unanswered = kept.Unanswered
cause_of (cause.Refused reason) = kept.RefusedFor reason

-- the call has returned, with a reply that has this digest
pub record Answers (call : Call) (signal : Bool) (reply : Digest) (s : process.Said) : Type 0 where
  pub bytes : List ℕ
  pub digest : digest bytes ≡ reply
  pub returned : s ≡ process.Returned (record { call = call; signal = signal; reply = bytes })

-- what is said of a call, as the model says it
abbrev pub Says : Call → Said → process.Said → Type 0
Says call said.Nothing s = s ≡ process.SaysNothing
Says call (said.Sends p) s = s ≡ process.Sends p
Says call said.Waits s = s ≡ process.Waits
Says call (said.Returned signal reply) s = Answers call signal reply s
Says call (said.Fails cause) s = s ≡ process.Fails (cause_of cause)
Says call said.BindFails s = s ≡ process.BindFails
Says call (said.BoundTo export) s = s ≡ process.BoundTo export
Says call said.NotBound s = s ≡ process.NotBound

-- a process that is l afterwards has done this step for a call
pub record SaysAs (l : Line) (call : Call) (x : Said) (s : LineStep) : Type 0 where
  pub line : l ≡ s.line
  pub says : Says call x s.said

-- the same with the call
pub record StepsAs (l : Line) (told : Told) (s : LineStep) : Type 0 where
  pub line : l ≡ s.line
  pub call : call_of told.call ≡ current_call s.line.caller
  pub says : Says (call_of told.call) told.said s.said

-- the outcome of a step of a process, over a world that has its client as it is afterwards
pub record TellsAs (w : World) (told : Told) (o : Outcome) : Type 0 where
  pub said : process.Said
  pub says : Says (call_of told.call) told.said said
  pub outcome : o ≡ tells w (call_of told.call) said
