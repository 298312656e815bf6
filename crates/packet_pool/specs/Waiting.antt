-- What contracts say of packets that are posted and claimed.
use Rattle.std.specs.Prelude.{◌≡◌, ◌≢◌, ℕ, ◌+◌, ◌<◌, ◌≤◌, ◌⊎◌}
use Rattle.packet_board.specs.declared.word.Word.{Word}
use Rattle.packet_board.specs.declared.layout.Layout.{Layout}
use Rattle.packet_board.specs.declared.buffer.Buffer.{Buffer}
use Rattle.packet_board.specs.declared.view.View.{View}
use Rattle.packet_board.specs.Words.{buffers_of, empty}
use Rattle.packet_board.specs.Views.{looked, exchanged}
use Rattle.packet_board.specs.Laws.{Law}
use Rattle.packet_pool.specs.declared.item.Item.{Item}
use Rattle.packet_pool.specs.declared.packet.NoPacket.{NoPacket}
use Rattle.packet_pool.specs.declared.packet.NoPacket.TheVariants.{Empty, Lost}
use Rattle.packet_pool.specs.Cells.{ready_count, IsReadyCell, ready_word, item, HasPacket}
use Rattle.packet_pool.specs.Packets.{IsSeen, OnlyLooked, HasNow}

-- the word of a ready cell waits behind a packet of that order in that other cell, or has no packet
abbrev pub IsBehind : ℕ → ℕ → ℕ → Word → Type 0
IsBehind order chosen cell word = (word ≡ empty) ⊎ ((order < word.tag) ⊎ ((order ≡ word.tag) × (chosen ≤ cell)))

module _ {N : Type 0} where
  -- each ready cell before that one was seen full
  abbrev pub AllFull : Layout → ℕ → View N → ℕ → Type 0
  AllFull k from v end = (cell : ℕ) → buffers_of k ≤ cell → cell < end → IsSeen from v cell (HasPacket k)

  abbrev pub AreFull : Law N → Layout → ℕ → View N → Type 0
  AreFull holds k id v = (cell : ℕ) → IsReadyCell k cell → HasNow holds k id v cell (HasPacket k)

  -- the seat tried the ready cells, each once, and put the packet of number n into the first empty one by its last step
  pub record Posts (with_posted : Item → N → N) (k : Layout) (n : ℕ) (y : Buffer) (order : ℕ) (v w : View N) : Type 0 where
    pub cell : ℕ
    pub ready : IsReadyCell k cell
    pub last : View N
    pub looked_on : OnlyLooked v last
    pub full : AllFull k v.steps last cell
    pub once : last.steps + buffers_of k ≡ v.steps + cell
    pub after : w ≡ exchanged last cell empty (ready_word order n) (with_posted (item order cell y) v.notes)

  -- each ready cell was looked at once, and none of them had a packet of a lesser order than the chosen one, nor one of the same order in a lesser cell
  pub record Chooses (k : Layout) (order n cell : ℕ) (v last : View N) : Type 0 where
    pub ready : IsReadyCell k cell
    pub small : n < k.small
    pub looked_on : OnlyLooked v last
    pub seen : IsSeen v.steps last cell (λ word. word ≡ ready_word order n)
    pub once : last.steps ≡ v.steps + ready_count k
    pub least : (other : ℕ) → IsReadyCell k other → IsSeen v.steps last other (IsBehind order cell other)

  -- and the seat took that packet out of its cell by its last step
  pub record Claims (with_claimed : Item → N → N) (may_post : Buffer → Type 0) (k : Layout) (n : ℕ) (y : Buffer) (v w : View N) : Type 0 where
    pub order : ℕ
    pub cell : ℕ
    pub last : View N
    pub chosen : Chooses k order n cell v last
    pub packet : may_post y
    pub after : w ≡ exchanged last cell (ready_word order n) empty (with_claimed (item order cell y) v.notes)

  -- or it met another word there
  pub record Loses (k : Layout) (met : Word) (v w : View N) : Type 0 where
    pub order : ℕ
    pub number : ℕ
    pub cell : ℕ
    pub last : View N
    pub chosen : Chooses k order number cell v last
    pub other : met ≢ ready_word order number
    pub after : w ≡ looked last cell met

  -- why nothing was claimed: each ready cell was seen empty, or the chosen cell met that other word
  abbrev pub NoneClaimed : Layout → View N → View N → NoPacket → Type 0
  NoneClaimed k v w Empty = OnlyLooked v w × ((cell : ℕ) → IsReadyCell k cell → IsSeen v.steps w cell (λ word. word ≡ empty)) × (w.steps ≡ v.steps + ready_count k)
  NoneClaimed k v w (Lost met) = Loses k met v w

  -- each ready cell waits behind the claimed packet now, or is empty
  abbrev pub AreBehind : Law N → Layout → ℕ → View N → ℕ → Type 0
  AreBehind holds k id v order = (cell : ℕ) → IsReadyCell k cell → HasNow holds k id v cell (λ word. (word ≡ empty) ⊎ (order ≤ word.tag))

  abbrev pub NoneWaits : Law N → Layout → ℕ → View N → Type 0
  NoneWaits holds k id v = (cell : ℕ) → IsReadyCell k cell → HasNow holds k id v cell (λ word. word ≡ empty)
