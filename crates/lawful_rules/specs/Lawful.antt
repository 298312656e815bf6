-- What the world must know of one step of a worker or of a process, so that what holds of it goes on to hold. Each row
-- of the rules is such a step, and each such step keeps what holds: so rows and world meet here alone.
use Rattle.std.specs.Prelude.{◌≡◌, ◌⊎◌, ℕ, ◌+◌, ◌^◌, ◌<◌, ◌≤◌, List, [], ◌∷◌, length, Option, Some, None, unwrap_or, is_some, Bool, true, false, All, Contains}
use Rattle.rpc_header.specs.declared.Activity.{Activity}
use Rattle.rpc_header.specs.declared.Export.{Export}
use Rattle.rpc_header.specs.declared.Kind.{Kind}
use Rattle.rpc_header.specs.declared.Kind.TheVariants as kind
use Rattle.binder.specs.declared.row.ExportRow.{ExportRow}
use Rattle.binder.specs.declared.row.Verdict.TheVariants as verdict
use Rattle.binder.specs.declared.interface.InterfaceName.{InterfaceName}
use Rattle.binder.specs.Exports.{accepts, look_up}
use Rattle.call_rules.specs.Packet.{Call, Packet}
use Rattle.call_rules.specs.Entry.{Entry, Word, word_of}
use Rattle.call_rules.specs.declared.entry.Phase.{Phase}
use Rattle.call_rules.specs.declared.entry.Phase.TheVariants as phase
use Rattle.call_rules.specs.declared.caller.TheConstants.{TRIES}
use Rattle.call_rules.specs.Worker.{Worker, Admitted, Run, Adds, Nothing, ARun, APacket, ARejection, Step}
use Rattle.call_rules.specs.Caller.{is_idle, current_call}
use Rattle.replay_model.specs.Once.{IsTransmission}
use Rattle.replay_model.specs.Process.{Line, LineStep, Said, Sends, Returned, Fails}
use Rattle.replay_model.specs.Record.{Start, Return, Cause, Unanswered, RefusedFor}
use Rattle.replay_model.specs.World.{packet_at}
use Rattle.lawful_rules.specs.Known.{Known, with_start, with_sent, with_adds, next_packet}
use Rattle.lawful_rules.specs.Facts.{Life, HasReply, HasRun, IsRequest, IsAnswer, IsEntry, Remembers, phase_owned, carrier, IsWorkerAt, HasRoom, IsOpenIn, IsMarked}

-- What a worker's rows rest on.

-- each accepted binding is of this life, and each that is found has room in a header
pub record AreRows (f : Life) (rows : List (Option ExportRow)) : Type 0 where
  pub accepted : (export : Export) (procedure : ℕ) → accepts rows export procedure ≡ verdict.Accepted →
      (f.boot ≤ export.identifier) × (export.identifier ≤ f.read)
  pub found : (name : InterfaceName) (export : Export) → look_up rows name ≡ Some export →
      (export.identifier < 256 ^ 4) × (export.index < 256 ^ 2)

-- a call has one start, the entry e of an activity is as it says, and it remembers each run of this life
pub record Grounds (k : Known) (f : Life) (a : Activity) (e : Entry) : Type 0 where
  pub one_start : (s t : Start) → Contains k.started s → Contains k.started t → s.call ≡ t.call → s ≡ t
  pub entry : IsEntry k a e
  pub remembered : (r : Run) → Contains k.journal r → r.call.activity ≡ a →
      (s : Start) → Contains k.started s → s.call ≡ r.call → f.boot ≤ s.export.identifier → Remembers (word_of e) r.call.number
  pub replies : (r : Run) → Contains k.journal r → HasReply r.signal r.reply

-- A worker's step.

abbrev pub owns : Worker → Bool
owns v = is_some (phase_owned v)

-- the entry is in the hands of a worker
abbrev pub is_owned : Phase → Bool
is_owned phase.Filling = true
is_owned phase.Running = true
is_owned phase.Sending = true
is_owned _ = false

abbrev pub is_run : Adds → Bool
is_run (ARun r) = true
is_run _ = false

-- what a run of number n leaves remembered in the old word is remembered in the new one
abbrev pub Advances : (old new : Word) → Type 0
Advances old new = (n : ℕ) → Remembers old n → Remembers new n

-- a run of the call that a worker was admitted to run
pub record IsLawfulRun (k : Known) (p : Packet) (v : Worker) (r : Run) : Type 0 where
  pub same_call : r.call ≡ p.header.call
  pub same_procedure : r.procedure ≡ p.header.procedure
  pub was_admitted : v ≡ Admitted p r.arguments
  pub has_reply : HasReply r.signal r.reply

abbrev pub AreLawfulAdds : Known → List (Option ExportRow) → Packet → Worker → Option Entry → Adds → Type 0
AreLawfulAdds k rows p v entry Nothing = Unit {0}
AreLawfulAdds k rows p v entry (ARun r) = IsLawfulRun k p v r × (entry ≡ None)
AreLawfulAdds k rows p v entry (APacket q) = IsAnswer (with_adds k rows (APacket q)) (next_packet k) q
AreLawfulAdds k rows p v entry (ARejection q) = IsAnswer (with_adds k rows (ARejection q)) (next_packet k) q

-- v is the worker before, and e the entry of the packet's activity. A step that exchanges the entry, takes it in hand
-- or runs its call is the owner's, or finds no owner
pub record LawfulStep (k : Known) (f : Life) (rows : List (Option ExportRow)) (p : Packet) (v : Worker) (e : Entry) (s : Step) : Type 0 where
  pub carries : (q : Packet) → carrier s.worker ≡ Some q → q ≡ p
  pub worker : IsWorkerAt (with_adds k rows s.adds) f s.worker (unwrap_or s.entry e)
  pub alone : (is_some s.entry ≡ true) ⊎ (owns s.worker ≡ true) ⊎ (is_run s.adds ≡ true) →
      (owns v ≡ true) ⊎ (is_owned (word_of e).phase ≡ false)
  pub entry : (x : Entry) → s.entry ≡ Some x → IsEntry (with_adds k rows s.adds) p.header.call.activity x × Advances (word_of e) (word_of x)
  pub adds : AreLawfulAdds k rows p v s.entry s.adds

-- What a process's rows rest on: a call has one run, and each run's reply can be sent.
pub record ReplyGrounds (k : Known) : Type 0 where
  pub one_run : (r t : Run) → Contains k.journal r → Contains k.journal t → r.call ≡ t.call → r ≡ t
  pub replies : (r : Run) → Contains k.journal r → HasReply r.signal r.reply

-- A process's step.

-- by what a process comes to a step: a start of a call or of a bind, packet n, or a tick
pub data Way : Type 0 where
  ByStart : Start → Way
  ByBind : Call → Way
  ByPacket : (n : ℕ) → Packet → Way
  ByTick : Way

-- what is known in the step
abbrev pub known_by : Known → Way → Known
known_by k (ByStart s) = with_start k s
known_by k (ByBind call) = k
known_by k (ByPacket n p) = k
known_by k ByTick = k

-- the packets that were sent since the last begin or counted packet, of which the way may be one
abbrev pub sent_by : Way → List ℕ → List ℕ
sent_by (ByStart s) before = []
sent_by (ByBind call) before = []
sent_by (ByPacket n p) before = []
sent_by ByTick before = before

-- what is known when the step is done
abbrev pub known_after : Known → Said → Known
known_after k (Sends p) = with_sent k p
known_after k _ = k

-- the packets that were sent then
abbrev pub sent_after : Known → Said → List ℕ → List ℕ
sent_after k (Sends p) before = next_packet k ∷ before
sent_after k _ before = before

-- a start of a call or of a bind uses the next number
abbrev pub IsNext : Way → (old new : Line) → Type 0
IsNext (ByBind call) old new =
    (new.next ≡ old.next + 1) × (call ≡ record { activity = old.caller.activity; number = old.next }) × (current_call new.caller ≡ call)
IsNext (ByStart s) old new = (new.next ≡ old.next + 1) × (s.call ≡ record { activity = old.caller.activity; number = old.next }) × (current_call new.caller ≡ s.call)
IsNext _ old new = (new.next ≡ old.next) × (new.caller.number ≡ old.caller.number)

-- a process that isn't idle after the step wasn't before, or has started
abbrev pub IsKeptOpen : Way → (old : Line) → Type 0
IsKeptOpen (ByStart s) old = Unit {0}
IsKeptOpen (ByBind call) old = Unit {0}
IsKeptOpen _ old = is_idle old.caller.state ≡ false

-- the packet that came is a Reject of the call with this reason, which the server sent
pub record IsRefusedBy (k : Known) (l : Line) (n : ℕ) (p : Packet) (reason : ℕ) : Type 0 where
  pub is_answer : IsAnswer k n p
  pub is_there : packet_at k.bag n ≡ Some p
  pub is_reject : p.header.kind ≡ kind.Reject
  pub same_call : p.header.call ≡ current_call l.caller
  pub same_reason : p.header.reason ≡ reason

abbrev pub IsRefused : Known → Line → Way → (reason : ℕ) → Type 0
IsRefused k l (ByPacket n p) reason = IsRefusedBy k l n p reason
IsRefused k l _ reason = ⊥

-- eight transmissions of one packet of the call, of which none was answered
pub record AreEight (k : Known) (l : Line) (sent : List ℕ) : Type 0 where
  pub kind : Kind
  pub fragment : ℕ
  pub eight : length sent ≡ TRIES
  pub alike : All (IsTransmission k.bag (current_call l.caller) kind fragment) sent

abbrev pub HasCause : Known → Line → Way → (sent : List ℕ) → Cause → Type 0
HasCause k l way sent Unanswered = AreEight k l sent
HasCause k l way sent (RefusedFor reason) = IsRefused k l way reason

-- a return is of the open call, and tells its run
pub record IsLawfulReturn (k : Known) (l : Line) (x : Return) : Type 0 where
  pub was_open : is_idle l.caller.state ≡ false
  pub same_call : x.call ≡ current_call l.caller
  pub has_run : HasRun k x.call x.signal x.reply

-- a packet is a caller's own
pub record IsLawfulPacket (k : Known) (l : Line) (p : Packet) : Type 0 where
  pub request : IsRequest k p
  pub own : p.header.call.activity ≡ l.caller.activity

-- what a process says: l is the line before the step, and sent what it had sent since the last begin or counted packet,
-- of which the way may be one
abbrev pub IsLawfulSaying : Known → Line → Way → (sent : List ℕ) → (now_idle : Bool) → Said → Type 0
IsLawfulSaying k l way sent now_idle (Sends p) = IsLawfulPacket k l p
IsLawfulSaying k l way sent now_idle (Returned x) = IsLawfulReturn k l x × (now_idle ≡ true)
IsLawfulSaying k l way sent now_idle (Fails cause) = HasCause k l way sent cause
IsLawfulSaying k l way sent now_idle _ = Unit {0}

-- a step of the process l, which had sent these packets since its last begin or counted packet
pub record LawfulAct (k : Known) (l : Line) (way : Way) (before : List ℕ) (s : LineStep) : Type 0 where
  pub same_activity : s.line.caller.activity ≡ l.caller.activity
  pub has_room : HasRoom s.line
  pub is_open : IsOpenIn (known_after (known_by k way) s.said) s.line s.line.caller.state
  pub next : IsNext way l s.line
  pub kept_open : is_idle s.line.caller.state ≡ false → IsKeptOpen way l
  pub marked : IsMarked (known_after k s.said).bag s.line.caller (sent_after k s.said (sent_by way before))
  pub saying : IsLawfulSaying (known_by k way) l way (sent_by way before) (is_idle s.line.caller.state) s.said
