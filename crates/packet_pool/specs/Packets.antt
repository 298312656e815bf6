-- What contracts say of a pool, of packets, and of what a seat saw in a call.
use Rattle.std.specs.Prelude.{◌≡◌, ℕ, ◌+◌, ◌<◌, ◌≤◌, List}
use mathlib.Core.Option.{some}
use lib.ListN.{get_elem?}
use Rattle.packet_board.specs.declared.word.Word.{Word}
use Rattle.packet_board.specs.declared.layout.Layout.{Layout}
use Rattle.packet_board.specs.declared.buffer.Buffer.{Buffer}
use Rattle.packet_board.specs.declared.view.Met.{Met}
use Rattle.packet_board.specs.declared.view.View.{View}
use Rattle.packet_board.specs.declared.board.Board.{Board}
use Rattle.packet_board.specs.Words.{buffers_of, empty, full}
use Rattle.packet_board.specs.Hands.{Held, IsUnstowed}
use Rattle.packet_board.specs.Views.{exchanged}
use Rattle.packet_board.specs.Laws.{Law, Seen, Homes}
use Rattle.packet_board.specs.Seats.{layout_of}
use Rattle.packet_pool.specs.declared.packet.Packet.{Packet}
use Rattle.packet_pool.specs.declared.packet.LongPacket.{LongPacket}
use Rattle.packet_pool.specs.declared.law.PoolLaw.{Ghosts}
use Rattle.packet_pool.specs.declared.pool.Pool.{Pool}
use Rattle.packet_pool.specs.Cells.{newest}
use Rattle.packet_pool.specs.Laws.{after_take}

module _ {L N : Type 0} {g : Ghosts L N} where
  abbrev pub board_of : Pool L N g → Board L N
  board_of pool = pool.board

  abbrev pub layout_in : Pool L N g → Layout
  layout_in pool = layout_of pool.board

-- the number of a packet, and what its buffer holds
abbrev pub number_of : Packet → ℕ
number_of p = p.number

abbrev pub content : Packet → Buffer
content p = record { bytes = p.bytes.items; header = p.header; from = p.from; len = p.len; gathered = p.gathered; signal = p.signal }

abbrev pub long_number : LongPacket → ℕ
long_number p = p.number

abbrev pub long_content : LongPacket → Buffer
long_content p = record { bytes = p.bytes.items; header = p.header; from = p.from; len = p.len; gathered = p.gathered; signal = p.signal }

-- the packet names a buffer of its sort that is in the hands and out of its slot
abbrev pub IsPacket : Layout → Held → Packet → Type 0
IsPacket k h p = IsUnstowed h (number_of p) × (number_of p < k.small)

abbrev pub IsLongPacket : Layout → Held → LongPacket → Type 0
IsLongPacket k h p = IsUnstowed h (long_number p) × (k.small ≤ long_number p) × (long_number p < buffers_of k)

module _ {N : Type 0} where
  -- Seen in a call: the word that the seat last met or left in the cell was such a word, at a step after that one; and the seat remembers it for good
  abbrev pub IsSeen : ℕ → View N → ℕ → (Word → Type 0) → Type 0
  IsSeen from v cell P = (m : Met) × (newest cell v.met ≡ some m) × (from < m.step) × ((j : ℕ) × (get_elem? v.past j ≡ some m)) × P m.word

  -- the seat did nothing but look at words
  pub record OnlyLooked (v w : View N) : Type 0 where
    pub steps : v.steps ≤ w.steps
    pub notes : w.notes ≡ v.notes
    pub layout : w.layout ≡ v.layout
    pub hands : w.hands ≡ v.hands
    pub live : w.live ≡ v.live
    pub pending : w.pending ≡ v.pending
    pub begun : w.begun ≡ v.begun
    pub ended : w.ended ≡ v.ended
    pub alone : w.alone ≡ v.alone

  -- each cell from the first one on to that one was seen empty
  abbrev pub AllEmpty : ℕ → View N → ℕ → ℕ → Type 0
  AllEmpty from v first end = (cell : ℕ) → first ≤ cell → cell < end → IsSeen from v cell (λ word. word ≡ empty)

  -- The seat tried the free cells from the first one on, each once, and took the buffer of number n out of its free cell by its last step
  pub record Takes (with_taken : ℕ → N → N) (first n : ℕ) (v w : View N) : Type 0 where
    pub last : View N
    pub looked : OnlyLooked v last
    pub missed : AllEmpty v.steps last first n
    pub once : last.steps + first ≡ v.steps + n
    pub after : w ≡ exchanged last n (full n) empty (after_take with_taken v.layout n v.notes)

  -- whatever the board is now, the cell has such a word
  abbrev pub HasNow : Law N → Layout → ℕ → View N → ℕ → (Word → Type 0) → Type 0
  HasNow holds k id v cell P = (ws : List Word) (out : ℕ) (hs : Homes) (vs : List (View N)) → Seen holds k ws out hs vs id v → (word : Word) × (get_elem? ws cell ≡ some word) × P word

  -- and each cell from the first one on to that one is empty
  abbrev pub AreEmpty : Law N → Layout → ℕ → View N → ℕ → ℕ → Type 0
  AreEmpty holds k id v first end = (cell : ℕ) → first ≤ cell → cell < end → HasNow holds k id v cell (λ word. word ≡ empty)
