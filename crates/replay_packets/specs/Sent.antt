-- A packet in its frame, and what of it lies in the player's bag.
use Rattle.std.specs.Prelude.{ℕ, ◌+◌, List, drop}
use Rattle.rpc_header.specs.Limits.{header_len}
use Rattle.rpc_header.specs.declared.Header.{Header}
use Rattle.udp_frames.specs.Frame.{headers_len}
use Rattle.call_rules.specs.Packet.{Packet, fields_of}
use Rattle.replay_model.specs.Arrival.{frame_of}

-- a frame and the machine that it goes to
pub record SentFrame : Type 0 where
  pub to : ℕ
  pub frame : List ℕ

abbrev pub sent_of : Packet → SentFrame
sent_of p = record { to = p.to; frame = frame_of p }

-- the packet with this header whose data stands in a frame behind the headers
abbrev pub packet_in : (from to : ℕ) → Header → (frame : List ℕ) → Packet
packet_in from to header frame = record { from = from; to = to; header = fields_of header; payload = drop (headers_len + header_len) frame }
