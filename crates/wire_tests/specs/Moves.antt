-- What the tests of pools say of a seat under the plain law.
use Rattle.std.specs.Prelude.{◌≡◌, ℕ, ◌<◌, true, [], ◌∷◌, None}
use mathlib.Core.Option.{some}
use Rattle.packet_board.specs.declared.layout.Layout.{Layout}
use Rattle.packet_board.specs.Hands.{Held, updated, nothing}
use Rattle.packet_pool.specs.declared.packet.Packet.{Packet}
use Rattle.packet_pool.specs.Cells.{AllBefore}
use Rattle.packet_pool.specs.Packets.{number_of}
use Rattle.packet_pool.specs.Plain.{PlainView}

-- so many small buffers and ready cells, and nothing else
abbrev pub plain_layout : ℕ → ℕ → Layout
plain_layout small ready = record { small = small; long = 0; rows = ready ∷ 0 ∷ 0 ∷ 0 ∷ 0 ∷ [] }

-- the packet is all that the hands hold
abbrev pub HoldsPacket : Layout → Held → Packet → Type 0
HoldsPacket k h p = (h ≡ updated (number_of p) (some None) nothing) × (number_of p < k.small)

-- the seat kept the right and what it posted, and neither split nor joined
abbrev pub SamePoster : PlainView → PlainView → Type 0
SamePoster v w = (w.notes.right ≡ v.notes.right) × (w.notes.posted ≡ v.notes.posted) × (w.begun ≡ v.begun) × (w.ended ≡ v.ended)

-- the seat has the right to post, and posted only under lesser orders
abbrev pub PostsBelow : ℕ → PlainView → Type 0
PostsBelow order v = (v.notes.right ≡ true) × AllBefore order v.notes.posted
