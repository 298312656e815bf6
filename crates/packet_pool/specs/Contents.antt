-- What a packet's bytes are: a frame with a header and data, and a long text.
use Rattle.std.specs.Prelude.{ℕ, ◌+◌, List, ◌++◌, length, take, drop, Result, Ok, Err}
use Rattle.rpc_header.specs.declared.Header.{Header}
use Rattle.rpc_header.specs.Reading.{Read, Accepted, Refused, read_of}
use Rattle.rpc_header.specs.Spelling.{spelling}
use Rattle.udp_frames.specs.Frame.{frame}
use Rattle.udp_frames.specs.Reading.{Datagram, reads}
use Rattle.udp_frames.specs.declared.fault.FrameFault.{FrameFault}
use Rattle.packet_board.specs.declared.buffer.Buffer.{Buffer}
use Rattle.packet_pool.specs.declared.packet.Unread.{Unread}
use Rattle.packet_pool.specs.declared.packet.Unread.TheVariants as unread
use Rattle.packet_pool.specs.declared.packet.TheConstants.{DATA_AT}

-- the data of a small packet stands behind all headers, that of a long one at the front
abbrev pub payload_of : Buffer → List ℕ
payload_of y = take y.len (drop DATA_AT y.bytes)

abbrev pub long_payload_of : Buffer → List ℕ
long_payload_of y = take y.len y.bytes

-- the bytes of a small packet's frame
abbrev pub frame_of : Buffer → List ℕ
frame_of y = take (DATA_AT + y.len) y.bytes

-- the frame that carries a header with its data from one machine to another
abbrev pub packet_frame : (from to : ℕ) → Header → List ℕ → List ℕ
packet_frame from to header payload = frame from to (spelling header (length payload) ++ payload)

-- what came: the sender, the header and the data
pub record Came : Type 0 where
  pub sender : ℕ
  pub header : Header
  pub payload : List ℕ

abbrev pub came_from : ℕ → Read → Result Came Unread
came_from sender (Accepted header payload) = Ok (record { sender = sender; header = header; payload = payload })
came_from sender (Refused fault) = Err (unread.Header fault)

abbrev pub came_in : Result Datagram FrameFault → Result Came Unread
came_in (Ok datagram) = came_from datagram.sender (read_of datagram.payload)
came_in (Err fault) = Err (unread.Frame fault)

-- the bytes are read as a frame for a machine, and what it carries as a header with its data
abbrev pub reads_packet : List ℕ → ℕ → Result Came Unread
reads_packet bytes me = came_in (reads bytes me)

-- a long buffer with one more piece behind what is gathered in it, and the length of that
abbrev pub with_piece : Buffer → List ℕ → Buffer
with_piece y piece = record y {
  bytes = take y.gathered.len y.bytes ++ piece ++ drop (y.gathered.len + length piece) y.bytes;
  len = y.gathered.len + length piece;
  gathered = record { len = y.gathered.len + length piece; next = y.gathered.next + 1 };
}
