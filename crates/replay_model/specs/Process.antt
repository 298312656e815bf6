-- A process of a client, and what it does about its caller's acts: its new state, and what it says to the world.
use Rattle.std.specs.Prelude.{ℕ, ◌+◌, List, [], ◌++◌, length, Option, Some, None, Bool, if◌then◌else◌}
use Rattle.rpc_header.specs.declared.Export.{Export}
use Rattle.fragments.specs.Pieces.{piece}
use Rattle.call_rules.specs.Packet.{Fields, Packet}
use Rattle.call_rules.specs.Caller.{Caller, Act, Send, Keep, Last, TellsWaiting, Bound, Unbound, Refused, Failed, Quiet, Unused, Step, current_call, is_binding, on_start_call, on_start_bind, on_packet, on_tick}
use Rattle.replay_model.specs.Record.{Return, Cause, Unanswered, RefusedFor}
use Rattle.replay_model.specs.declared.limits.TheConstants.{SERVER_MACHINE}

-- its caller, the number of its next call, its binding, the arguments of its call, or the data of its bind, and
-- what it has kept of a reply
pub record Line : Type 0 where
  pub caller : Caller
  pub next : ℕ
  pub binding : Export
  pub arguments : List ℕ
  pub kept : List ℕ

-- what a process tells of a step
pub data Said : Type 0 where
  SaysNothing : Said
  Sends : Packet → Said
  Waits : Said
  Returned : Return → Said
  Fails : Cause → Said
  BindFails : Said
  BoundTo : Export → Said
  NotBound : Said

pub record LineStep : Type 0 where
  pub line : Line
  pub said : Said

-- the data that a packet carries: a piece of the arguments, or none
abbrev pub data_of : (arguments : List ℕ) → (piece : Option ℕ) → List ℕ
data_of arguments None = []
data_of arguments (Some i) = piece arguments i

abbrev pub packet_from : (me : ℕ) → Fields → (bytes : List ℕ) → Packet
packet_from me header bytes = record { from = me; to = SERVER_MACHINE; header = header; payload = bytes }

-- a call or a bind has come to its end
abbrev pub ended : Line → Caller → Line
ended l c = record l { caller = c; arguments = []; kept = [] }

-- no transmission of a bind, or of a call, was answered
abbrev pub gives_up : (binding : Bool) → Said
gives_up binding = if binding then BindFails else Fails Unanswered

-- a process of machine `me` whose caller has become c by this act; bytes are the data of the packet that came, if one did
abbrev pub on_act : (me : ℕ) → Line → Caller → Act → (bytes : List ℕ) → LineStep
on_act me l c (Send h piece) bytes = record { line = record l { caller = c }; said = Sends (packet_from me h (data_of l.arguments piece)) }
on_act me l c (Keep h) bytes =
    record { line = record l { caller = c; kept = l.kept ++ bytes }; said = Sends (packet_from me h []) }
on_act me l c (Last signal) bytes =
    record { line = ended l c; said = Returned (record { call = current_call c; signal = signal; reply = l.kept ++ bytes }) }
on_act me l c TellsWaiting bytes = record { line = record l { caller = c }; said = Waits }
on_act me l c (Bound export) bytes = record { line = record (ended l c) { binding = export }; said = BoundTo export }
on_act me l c Unbound bytes = record { line = ended l c; said = NotBound }
on_act me l c (Refused reason) bytes = record { line = ended l c; said = Fails (RefusedFor reason) }
on_act me l c Failed bytes = record { line = ended l c; said = gives_up (is_binding l.caller.state) }
on_act me l c Quiet bytes = record { line = record l { caller = c }; said = SaysNothing }
on_act me l c Unused bytes = record { line = l; said = SaysNothing }

abbrev pub acts : (me : ℕ) → Line → Step → (bytes : List ℕ) → LineStep
acts me l s bytes = on_act me l s.caller s.act bytes

-- a process that is to start a call: its next number is used, and it keeps the arguments
abbrev pub takes_number : Line → (arguments : List ℕ) → Line
takes_number l arguments = record l { next = l.next + 1; arguments = arguments; kept = [] }

-- an idle process starts a call
unfoldable pub started : (me : ℕ) → Line → (procedure : ℕ) → (arguments : List ℕ) → LineStep
started me l procedure arguments =
    acts me (takes_number l arguments) (on_start_call l.caller l.next l.binding procedure (length arguments)) []

-- an idle process starts a bind, whose data is that of the name
unfoldable pub binds : (me : ℕ) → Line → (bytes : List ℕ) → LineStep
binds me l bytes = acts me (takes_number l bytes) (on_start_bind l.caller l.next) []

-- a packet comes
unfoldable pub heard : (me : ℕ) → Line → Packet → LineStep
heard me l p = acts me l (on_packet l.caller p.header) p.payload

-- a tick
unfoldable pub ticked : (me : ℕ) → Line → LineStep
ticked me l = acts me l (on_tick l.caller) []
