-- What a packet ends as, where a `&mut` to its bytes is lent.
use Rattle.std.specs.Prelude.{ℕ, List}
use Rattle.std.specs.Vec.{with_items, with_items_from}
use Rattle.std.specs.Borrow.{Lends, MutBor, Fml, Array, u8}
use Rattle.packet_pool.specs.declared.packet.TheConstants.{DATA_AT}
use Rattle.packet_pool.specs.declared.packet.Packet.{Packet}
use Rattle.packet_pool.specs.declared.packet.LongPacket.{LongPacket}
use Rattle.packet_pool.specs.contracts.packet.Packet as small
use Rattle.packet_pool.specs.contracts.packet.LongPacket as long

-- a packet with other bytes, and with other data
abbrev pub with_bytes : Packet → List ℕ → Packet
with_bytes p w = record { number = p.number; bytes = with_items p.bytes w; header = p.header; from = p.from; len = p.len; gathered = p.gathered; signal = p.signal; within = p.within }

abbrev pub with_data : Packet → List ℕ → Packet
with_data p w = record { number = p.number; bytes = with_items_from p.bytes DATA_AT w; header = p.header; from = p.from; len = p.len; gathered = p.gathered; signal = p.signal; within = p.within }

abbrev pub with_text : LongPacket → List ℕ → LongPacket
with_text p w = record { number = p.number; bytes = with_items p.bytes w; header = p.header; from = p.from; len = p.len; gathered = p.gathered; signal = p.signal; within = p.within }

-- the packet ends with the bytes that the borrow shows last
abbrev pub LendsBytes : MutBor Packet → MutBor (List ℕ) → Fml
LendsBytes p r = Lends small.the_row (Array u8 0) p r (with_bytes p.now)

abbrev pub LendsData : MutBor Packet → MutBor (List ℕ) → Fml
LendsData p r = Lends small.the_row (Array u8 0) p r (with_data p.now)

abbrev pub LendsText : MutBor LongPacket → MutBor (List ℕ) → Fml
LendsText p r = Lends long.the_row (Array u8 0) p r (with_text p.now)
