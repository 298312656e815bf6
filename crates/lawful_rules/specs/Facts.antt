-- What holds of packets, entries, workers and processes, by what is known. Each fact is positive: it stays true as more
-- becomes known.
use Rattle.std.specs.Prelude.{◌≡◌, ◌≢◌, ℕ, ◌-◌, ◌^◌, ◌<◌, ◌≤◌, List, [], length, Option, Some, None, Bool, true, false, ◌==◌, All, Contains}
use Rattle.item_list.specs.Bytes.{AreBytes}
use Rattle.fragments.specs.Pieces.{last_piece, piece, front}
use Rattle.fragments.specs.declared.limits.TheConstants.{LONG}
use Rattle.udp_frames.specs.Frame.{IsMachine}
use Rattle.rpc_header.specs.declared.Activity.{Activity}
use Rattle.rpc_header.specs.declared.Export.{Export}
use Rattle.rpc_header.specs.declared.Kind.{Kind}
use Rattle.rpc_header.specs.declared.Kind.TheVariants as kind
use Rattle.rpc_header.specs.Spelling.{HasSpelling, FitsFields}
use Rattle.binder.specs.Exports.{accepts}
use Rattle.call_rules.specs.Packet.{Call, Packet, piece_size}
use Rattle.call_rules.specs.Entry.{Entry, Empty, Gather, Filling, Running, Done, Sending, Word, word_of}
use Rattle.call_rules.specs.declared.entry.Phase.{Phase}
use Rattle.call_rules.specs.declared.entry.Phase.TheVariants as phase
use Rattle.call_rules.specs.Worker.{Worker, Resting, Claimed, Took, Admitted, Ran, Fetched, Run}
use Rattle.call_rules.specs.declared.caller.TheConstants.{TRIES}
use Rattle.call_rules.specs.Caller.{Caller, State, current_call}
use Rattle.call_rules.specs.Caller as caller
use Rattle.replay_model.specs.declared.limits.TheConstants.{SERVER_MACHINE}
use Rattle.replay_model.specs.Arrival.{header_of}
use Rattle.replay_model.specs.Once.{IsTransmission}
use Rattle.replay_model.specs.Process.{Line}
use Rattle.replay_model.specs.Record.{Rejection}
use Rattle.replay_model.specs.Step.{refusal}
use Rattle.replay_model.specs.World.{is_entry_activity}
use Rattle.lawful_rules.specs.Known.{Known}

-- the second in which the server booted, and the last that it has read
pub record Life : Type 0 where
  pub boot : ℕ
  pub read : ℕ

-- Starts and runs.

-- a call was started with this export, this procedure and these arguments
abbrev pub WasStarted : Known → Call → Export → ℕ → List ℕ → Type 0
WasStarted k call export procedure arguments =
    Contains k.started (record { call = call; export = export; procedure = procedure; arguments = arguments })

-- the call of a packet was started with the packet's export and procedure, and with these arguments
abbrev pub StartsPacket : Known → Packet → List ℕ → Type 0
StartsPacket k p arguments = WasStarted k p.header.call p.header.export p.header.procedure arguments

-- a text that pieces can carry
pub record HasLength (text : List ℕ) : Type 0 where
  pub fits : length text ≤ LONG
  pub are_bytes : AreBytes text

-- the reply of a run can be sent: a signal is one piece
pub record HasReply (signal : Bool) (reply : List ℕ) : Type 0 where
  pub has_length : HasLength reply
  pub one_piece : signal ≡ true → length reply ≤ piece_size

-- a call ran, and was answered by this
pub record HasRun (k : Known) (call : Call) (signal : Bool) (reply : List ℕ) : Type 0 where
  pub run : Run
  pub is_listed : Contains k.journal run
  pub same_call : run.call ≡ call
  pub same_signal : run.signal ≡ signal
  pub same_reply : run.reply ≡ reply

-- Packets.

-- a packet that its frame tells whole: its machines, the numbers of its header and its data have room there
pub record CanBeFramed (p : Packet) : Type 0 where
  pub from_machine : IsMachine p.from
  pub to_machine : IsMachine p.to
  pub fits_fields : FitsFields (header_of p.header)
  pub fits_number : p.header.call.number < 2 ^ 48
  pub has_spelling : HasSpelling (header_of p.header) (length p.payload)
  pub are_bytes : AreBytes p.payload

-- a packet carries a piece of a text, and says whether it is the last
pub record CarriesPiece (p : Packet) (text : List ℕ) : Type 0 where
  pub payload : p.payload ≡ piece text p.header.fragment
  pub is_last : p.header.last ≡ (p.header.fragment == last_piece (length text))
  pub within : p.header.fragment ≤ last_piece (length text)

-- a piece of the arguments of a call that was started
pub record IsCallPiece (k : Known) (p : Packet) : Type 0 where
  pub arguments : List ℕ
  pub was_started : StartsPacket k p arguments
  pub carries : CarriesPiece p arguments

-- of a call that was started
pub record IsOfCall (k : Known) (p : Packet) : Type 0 where
  pub arguments : List ℕ
  pub was_started : StartsPacket k p arguments

-- what a caller's packet says, by its kind
abbrev pub Requests : Known → Packet → Kind → Type 0
Requests k p kind.Call = IsCallPiece k p
Requests k p kind.Ack = IsOfCall k p
Requests k p kind.Probe = IsOfCall k p
Requests k p kind.Bind = Unit {0}
Requests k p _ = ⊥

-- a packet to the server, from the client that it names
pub record IsRequest (k : Known) (p : Packet) : Type 0 where
  pub from_client : p.from ≢ SERVER_MACHINE
  pub to_server : p.to ≡ SERVER_MACHINE
  pub names_sender : p.header.call.activity.machine ≡ p.from
  pub has_entry : is_entry_activity p.header.call.activity ≡ true
  pub requests : Requests k p p.header.kind
  pub framed : CanBeFramed p

-- a piece of the reply of the call's run, which is a signal or not
pub record IsReplyPiece (k : Known) (p : Packet) (signal : Bool) : Type 0 where
  pub reply : List ℕ
  pub has_run : HasRun k p.header.call signal reply
  pub carries : CarriesPiece p reply

-- packet n refuses a call that was started, and the export rows at its sending answer its reason
pub record IsRejection (k : Known) (n : ℕ) (p : Packet) : Type 0 where
  pub arguments : List ℕ
  pub was_started : StartsPacket k p arguments
  pub rejection : Rejection
  pub is_listed : Contains k.rejects rejection
  pub of_packet : rejection.packet ≡ n
  pub answered : refusal (accepts rejection.rows p.header.export p.header.procedure) ≡ Some p.header.reason

-- what packet n of the server says, by its kind
abbrev pub Answers : Known → (n : ℕ) → Packet → Kind → Type 0
Answers k n p kind.Result = IsReplyPiece k p false
Answers k n p kind.Signal = IsReplyPiece k p true
Answers k n p kind.Reject = IsRejection k n p
Answers k n p kind.Ack = Unit {0}
Answers k n p kind.Bound = Unit {0}
Answers k n p _ = ⊥

-- packet n goes to the client that it names
pub record IsAnswer (k : Known) (n : ℕ) (p : Packet) : Type 0 where
  pub to_client : p.to ≢ SERVER_MACHINE
  pub names_receiver : p.header.call.activity.machine ≡ p.to
  pub answers : Answers k n p p.header.kind
  pub framed : CanBeFramed p

-- packet n was sent by a caller or by the server
pub record IsSent (k : Known) (n : ℕ) (p : Packet) : Type 0 where
  pub to_server : p.to ≡ SERVER_MACHINE → IsRequest k p
  pub to_client : p.to ≢ SERVER_MACHINE → IsAnswer k n p

-- Entries.

-- bytes are the pieces of the call's arguments before the one that is due, which is none before the second
pub record Gathers (k : Known) (call : Call) (bytes : List ℕ) (next : ℕ) : Type 0 where
  pub export : Export
  pub procedure : ℕ
  pub arguments : List ℕ
  pub was_started : WasStarted k call export procedure arguments
  pub gathered : bytes ≡ front arguments next
  pub begun : 1 ≤ next
  pub within : next ≤ last_piece (length arguments)

-- the entry of an activity
abbrev pub IsEntry : Known → Activity → Entry → Type 0
IsEntry k a Empty = Unit {0}
IsEntry k a (Gather n bytes next) = Gathers k (record { activity = a; number = n }) bytes next
IsEntry k a (Filling n bytes next) = Gathers k (record { activity = a; number = n }) bytes next
IsEntry k a (Running n) = Unit {0}
IsEntry k a (Done n signal reply) = HasRun k (record { activity = a; number = n }) signal reply
IsEntry k a (Sending n signal reply) = HasRun k (record { activity = a; number = n }) signal reply

-- an entry in this phase, of number m, remembers that a call of number n has run
abbrev pub RemembersIn : Phase → (m n : ℕ) → Type 0
RemembersIn phase.Empty m n = ⊥
RemembersIn phase.Gather m n = n < m
RemembersIn phase.Filling m n = n < m
RemembersIn phase.Running m n = n ≤ m
RemembersIn phase.Done m n = n ≤ m
RemembersIn phase.Sending m n = n ≤ m

abbrev pub Remembers : Word → ℕ → Type 0
Remembers w n = RemembersIn w.phase w.number n

-- Workers.

-- a worker has an item of its packet's entry in hand, or the call that runs there
abbrev pub phase_owned : Worker → Option Phase
phase_owned Resting = None
phase_owned (Claimed p seen) = None
phase_owned (Took p) = Some phase.Filling
phase_owned (Admitted p arguments) = Some phase.Running
phase_owned (Ran p answer) = Some phase.Running
phase_owned (Fetched p) = Some phase.Sending

abbrev pub carrier : Worker → Option Packet
carrier Resting = None
carrier (Claimed p seen) = Some p
carrier (Took p) = Some p
carrier (Admitted p arguments) = Some p
carrier (Ran p answer) = Some p
carrier (Fetched p) = Some p

-- a packet that a worker may claim: of an export of this life
pub record IsCarrier (k : Known) (f : Life) (p : Packet) : Type 0 where
  pub request : IsRequest k p
  pub no_bind : p.header.kind ≢ kind.Bind
  pub after_boot : f.boot ≤ p.header.export.identifier
  pub up_to_read : p.header.export.identifier ≤ f.read

-- the entry is in this phase, of the packet's number
abbrev pub IsIn : Phase → Packet → Entry → Type 0
IsIn ph p e = word_of e ≡ record { phase = ph; number = p.header.call.number }

-- no run of the packet's call
abbrev pub HasNotRun : Known → Packet → Type 0
HasNotRun k p = (r : Run) → Contains k.journal r → r.call ≢ p.header.call

-- a worker, by the entry e of its packet's activity
abbrev pub IsWorkerAt : Known → Life → Worker → Entry → Type 0
IsWorkerAt k f Resting e = Unit {0}
IsWorkerAt k f (Claimed p seen) e = IsCarrier k f p
IsWorkerAt k f (Took p) e = IsCarrier k f p × (p.header.kind ≡ kind.Call) × IsIn phase.Filling p e
IsWorkerAt k f (Admitted p arguments) e =
    IsCarrier k f p × IsIn phase.Running p e × StartsPacket k p arguments × HasNotRun k p
IsWorkerAt k f (Ran p answer) e = IsCarrier k f p × IsIn phase.Running p e × HasRun k p.header.call answer.signal answer.reply
IsWorkerAt k f (Fetched p) e = IsCarrier k f p × IsIn phase.Sending p e

-- Processes.

-- what a process puts into a header has room there, and its arguments can be sent
pub record HasRoom (l : Line) : Type 0 where
  pub hint : l.caller.hint < 256 ^ 2
  pub number : l.caller.number < 2 ^ 48
  pub identifier : l.caller.export.identifier < 256 ^ 4
  pub index : l.caller.export.index < 256 ^ 2
  pub procedure : l.caller.procedure < 256 ^ 2
  pub bound_identifier : l.binding.identifier < 256 ^ 4
  pub bound_index : l.binding.index < 256 ^ 2
  pub arguments : HasLength l.arguments

-- the call that the process has open was started as the caller and the arguments say
pub record IsCall (k : Known) (l : Line) : Type 0 where
  pub was_started : WasStarted k (current_call l.caller) l.caller.export l.caller.procedure l.arguments
  pub final_is : l.caller.final ≡ last_piece (length l.arguments)

-- the pieces of a reply before piece j are kept
pub record Receives (k : Known) (l : Line) (j : ℕ) : Type 0 where
  pub reply : List ℕ
  pub has_run : HasRun k (current_call l.caller) false reply
  pub begun : 1 ≤ j
  pub within : j ≤ last_piece (length reply)
  pub kept : l.kept ≡ front reply j

-- by the state of its caller; before a piece of a reply comes, nothing is kept
abbrev pub IsOpenIn : Known → Line → State → Type 0
IsOpenIn k l caller.Idle = Unit {0}
IsOpenIn k l (caller.Sending i) = IsCall k l × (i ≤ l.caller.final) × (l.kept ≡ [])
IsOpenIn k l caller.Waiting = IsCall k l × (l.kept ≡ [])
IsOpenIn k l (caller.Receiving j) = IsCall k l × Receives k l j
IsOpenIn k l caller.Binding = length l.arguments ≤ piece_size

-- a process of a machine
pub record IsLine (k : Known) (machine process : ℕ) (l : Line) : Type 0 where
  pub own_activity : l.caller.activity ≡ record { machine = machine; process = process }
  pub has_entry : is_entry_activity l.caller.activity ≡ true
  pub has_room : HasRoom l
  pub is_open : IsOpenIn k l l.caller.state

-- these packets, as many as the caller has counted, are all of its call, of this kind and this fragment
pub record AreAlike (bag : List Packet) (c : Caller) (kind : Kind) (fragment : ℕ) (sent : List ℕ) : Type 0 where
  pub counted : length sent ≡ c.tries
  pub within : c.tries ≤ TRIES
  pub alike : All (IsTransmission bag (current_call c) kind fragment) sent

-- the packets that were sent since the last begin or counted packet, by the state of the caller
abbrev pub IsMarkedIn : List Packet → Caller → State → List ℕ → Type 0
IsMarkedIn bag c caller.Idle sent = Unit {0}
IsMarkedIn bag c (caller.Sending i) sent = AreAlike bag c kind.Call i sent
IsMarkedIn bag c caller.Waiting sent = AreAlike bag c kind.Probe c.final sent
IsMarkedIn bag c (caller.Receiving j) sent = AreAlike bag c kind.Ack (j - 1) sent
IsMarkedIn bag c caller.Binding sent = Unit {0}

abbrev pub IsMarked : List Packet → Caller → List ℕ → Type 0
IsMarked bag c sent = IsMarkedIn bag c c.state sent
