-- What holds of the world after any events: at most once, what returns tell, and why calls failed.
use Rattle.std.specs.Prelude.{◌≡◌, ◌≢◌, ℕ, List, [], ◌∷◌, map, length, Some, All, Contains, if◌then◌else◌}
use Rattle.std.specs.List.{AllByRecursion}
use Rattle.rpc_header.specs.declared.Activity.{Activity}
use Rattle.rpc_header.specs.declared.Kind.{Kind}
use Rattle.rpc_header.specs.declared.Kind.TheVariants as kind
use Rattle.binder.specs.Exports.{accepts}
use Rattle.call_rules.specs.declared.caller.TheConstants.{TRIES}
use Rattle.call_rules.specs.Packet.{Call, Packet, is_same_activity}
use Rattle.call_rules.specs.Worker.{Run}
use Rattle.replay_model.specs.Record.{Records, Start, Return, Cause, Unanswered, RefusedFor, Mark, Begin, SentPacket, Heard, Marked, Failure, Rejection}
use Rattle.replay_model.specs.Step.{refusal}
use Rattle.replay_model.specs.World.{World, packet_at}

-- no item stands twice
abbrev pub NoneTwice : {A : Type 0} → List A → Type 0
NoneTwice [] = Unit {0}
NoneTwice (x ∷ xs) = AllByRecursion (λ y. x ≢ y) xs × NoneTwice xs

abbrev pub call_of_run : Run → Call
call_of_run r = r.call

abbrev pub call_of_return : Return → Call
call_of_return r = r.call

-- a run is of a call that was started, with the procedure and the arguments that were given
pub record WasStarted (r : Records) (run : Run) : Type 0 where
  pub start : Start
  pub is_listed : Contains r.started start
  pub same_call : start.call ≡ run.call
  pub same_procedure : start.procedure ≡ run.procedure
  pub same_arguments : start.arguments ≡ run.arguments

-- a return has the signal and the reply of a run of its call
pub record TellsRun (r : Records) (x : Return) : Type 0 where
  pub run : Run
  pub is_listed : Contains r.journal run
  pub same_call : run.call ≡ x.call
  pub same_signal : run.signal ≡ x.signal
  pub same_reply : run.reply ≡ x.reply

-- the packets that are counted up to a mark, from those before it: a begin and a packet that is heard leave none
abbrev pub sent_at : Mark → List ℕ → List ℕ
sent_at Begin before = []
sent_at (SentPacket k) before = k ∷ before
sent_at (Heard k) before = []

-- the packets that an activity has sent since its last begin or counted packet, newest first
abbrev pub sent_since : Activity → List Marked → List ℕ
sent_since a [] = []
sent_since a (m ∷ marks) = if is_same_activity m.activity a then sent_at m.mark (sent_since a marks) else sent_since a marks

-- packet k is of this call, this kind and this fragment
pub record IsTransmission (bag : List Packet) (call : Call) (kind : Kind) (fragment : ℕ) (k : ℕ) : Type 0 where
  pub packet : Packet
  pub is_there : packet_at bag k ≡ Some packet
  pub same_call : packet.header.call ≡ call
  pub same_kind : packet.header.kind ≡ kind
  pub same_fragment : packet.header.fragment ≡ fragment

-- when the call failed, its activity had sent exactly eight packets since its last begin or counted packet, all of
-- this call, of one kind and one fragment
pub record WasUnanswered (bag : List Packet) (f : Failure) : Type 0 where
  pub kind : Kind
  pub fragment : ℕ
  pub eight : length (sent_since f.call.activity f.marks) ≡ TRIES
  pub alike : All (IsTransmission bag f.call kind fragment) (sent_since f.call.activity f.marks)

-- a Reject of the call with this reason was delivered, and when the server sent it, its exports answered that
-- reason for the export and the procedure that the call was started with
pub record WasRefused (started : List Start) (rejects : List Rejection) (bag : List Packet) (f : Failure) (reason : ℕ) : Type 0 where
  pub number : ℕ
  pub packet : Packet
  pub is_there : packet_at bag number ≡ Some packet
  pub is_reject : packet.header.kind ≡ kind.Reject
  pub same_call : packet.header.call ≡ f.call
  pub same_reason : packet.header.reason ≡ reason
  pub was_heard : Contains f.marks (record { activity = f.call.activity; mark = Heard number })
  pub rejection : Rejection
  pub is_rejection : Contains rejects rejection
  pub of_packet : rejection.packet ≡ number
  pub start : Start
  pub is_started : Contains started start
  pub start_of_call : start.call ≡ f.call
  pub answered : refusal (accepts rejection.rows start.export start.procedure) ≡ Some reason

-- a call failed for the cause that is told
abbrev pub FailedFor : List Start → List Rejection → List Packet → Failure → Cause → Type 0
FailedFor started rejects bag f Unanswered = WasUnanswered bag f
FailedFor started rejects bag f (RefusedFor reason) = WasRefused started rejects bag f reason

pub record Once (w : World) : Type 0 where
  -- each call's body runs at most once
  pub runs_once : NoneTwice (map call_of_run w.records.journal)
  -- each run is of a call that was started, with what it was started with
  pub runs_were_started : All (WasStarted w.records) w.records.journal
  -- each return is that of the call's run, and no call returns twice
  pub returns_tell_their_run : All (TellsRun w.records) w.records.returns
  pub returns_once : NoneTwice (map call_of_return w.records.returns)
  -- a call fails only after eight unanswered transmissions, or refused by the server
  pub failures_have_their_cause : All (λ (f : Failure). FailedFor w.records.started w.records.rejects w.bag f f.cause) w.records.failures
