-- The buffers of packets.
use Rattle.std.specs.Prelude.{◌≡◌, ◌≤◌, false, length}
use Rattle.fragments.specs.declared.limits.TheConstants.{LONG, PIECE}
use Rattle.packet_board.specs.declared.buffer.TheConstants.{SMALL_BYTES}
use Rattle.packet_board.specs.declared.buffer.Buffer.{Buffer}

-- a small buffer has the bytes of a frame, of which 1440 may be data, and a long one the bytes of the longest text
abbrev pub IsSmallBuffer : Buffer → Type 0
IsSmallBuffer y = (length y.bytes ≡ SMALL_BYTES) × (y.len ≤ PIECE) × (1 ≤ y.from) × (y.from ≤ 254)

abbrev pub IsLongBuffer : Buffer → Type 0
IsLongBuffer y = (length y.bytes ≡ LONG) × (y.len ≤ LONG) × (1 ≤ y.from) × (y.from ≤ 254)

-- the length 0, no signal and nothing gathered
abbrev pub IsEmptied : Buffer → Type 0
IsEmptied y = (y.len ≡ 0) × (y.signal ≡ false) × (y.gathered.len ≡ 0) × (y.gathered.next ≡ 0)
