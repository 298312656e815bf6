-- The frame that carries a packet, and what its receiver makes of a frame's bytes: a packet, or why they are dropped.
-- The frame is that of RFC 894, RFC 791 and RFC 768; its data is the packet's header as it is spelled, and the
-- packet's data.
use Rattle.std.specs.Prelude.{ℕ, List, ◌++◌, length, Bool, true, false, ◌==◌, if◌then◌else◌, Result, Ok, Err}
use Rattle.rpc_header.specs.declared.Header.{Header}
use Rattle.rpc_header.specs.declared.Kind.{Kind}
use Rattle.rpc_header.specs.declared.Kind.TheVariants as kind
use Rattle.rpc_header.specs.Spelling.{spelling}
use Rattle.rpc_header.specs.Reading.{Read, Accepted, Refused, call_number_of, read_of}
use Rattle.udp_frames.specs.declared.fault.FrameFault.{FrameFault}
use Rattle.udp_frames.specs.Frame.{frame}
use Rattle.udp_frames.specs.Reading.{Datagram, reads}
use Rattle.call_rules.specs.Packet.{Fields, Packet, fields_of}
use Rattle.replay_model.specs.declared.discard.Discard.{Discard}
use Rattle.replay_model.specs.declared.discard.Discard.TheVariants as why
use Rattle.replay_model.specs.declared.limits.TheConstants.{SERVER_MACHINE}

-- the header with these fields; of a call number its lowest 48 bits
abbrev pub header_of : Fields → Header
header_of f =
    record {
      kind = f.kind;
      please_ack = f.please_ack;
      last = f.last;
      reason = f.reason;
      call = record { activity = f.call.activity; number = call_number_of f.call.number };
      hint = f.hint;
      fragment = f.fragment;
      export = f.export;
      procedure = f.procedure;
    }

-- what the frame of a packet carries: the spelling of its header, and its data
abbrev pub datagram_of : Packet → List ℕ
datagram_of p = spelling (header_of p.header) (length p.payload) ++ p.payload

-- the frame that a packet is sent in
unfoldable pub frame_of : Packet → List ℕ
frame_of p = frame p.from p.to (datagram_of p)

-- what a machine makes of the bytes of a frame
pub data Arrival : Type 0 where
  Comes : Packet → Arrival
  Dropped : Discard → Arrival

abbrev pub server_takes_kind : Kind → Bool
server_takes_kind kind.Call = true
server_takes_kind kind.Ack = true
server_takes_kind kind.Probe = true
server_takes_kind kind.Bind = true
server_takes_kind _ = false

abbrev pub client_takes_kind : Kind → Bool
client_takes_kind kind.Ack = true
client_takes_kind kind.Result = true
client_takes_kind kind.Signal = true
client_takes_kind kind.Reject = true
client_takes_kind kind.Bound = true
client_takes_kind _ = false

abbrev pub takes_kind : (me : ℕ) → Kind → Bool
takes_kind me k = if me == SERVER_MACHINE then server_takes_kind k else client_takes_kind k

-- the machine whose call a packet to this machine must name: at the server its sender, at a client this machine
abbrev pub calling_machine : (me from : ℕ) → ℕ
calling_machine me from = if me == SERVER_MACHINE then from else me

-- a packet that was read, unless the machine takes none of its kind or it names another machine's call
abbrev pub arrival_of : (me : ℕ) → Packet → Arrival
arrival_of me p =
    if takes_kind me p.header.kind
    then (if p.header.call.activity.machine == calling_machine me p.from then Comes p else Dropped why.Foreign)
    else Dropped why.Kind

-- what a header with its data says, that a machine sent
abbrev pub arrival_of_read : (me from : ℕ) → Read → Arrival
arrival_of_read me from (Refused fault) = Dropped (why.Header fault)
arrival_of_read me from (Accepted header bytes) =
    arrival_of me (record { from = from; to = me; header = fields_of header; payload = bytes })

abbrev pub arrival_of_frame : (me : ℕ) → Result Datagram FrameFault → Arrival
arrival_of_frame me (Err fault) = Dropped (why.Frame fault)
arrival_of_frame me (Ok datagram) = arrival_of_read me datagram.sender (read_of datagram.payload)

-- what machine `me` makes of these bytes: the first reason to drop them, or the packet that they carry
unfoldable pub arrives : (me : ℕ) → List ℕ → Arrival
arrives me bytes = arrival_of_frame me (reads bytes me)
