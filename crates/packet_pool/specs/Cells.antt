-- The cells of a pool: a free cell for each buffer, and the ready cells behind them.
use Rattle.std.specs.Prelude.{◌≡◌, ℕ, ◌+◌, ◌<◌, ◌≤◌, ◌==◌, if◌then◌else◌, ◌⊎◌, List, [], ◌∷◌, Some}
use mathlib.Core.Option.{none, some}
use mathlib.Core.Option as maybe
use Rattle.packet_board.specs.declared.word.Word.{Word}
use Rattle.packet_board.specs.declared.layout.Layout.{Layout}
use Rattle.packet_board.specs.declared.buffer.Buffer.{Buffer}
use Rattle.packet_board.specs.declared.view.Met.{Met}
use Rattle.packet_board.specs.Words.{buffers_of, row_of, empty, full}
use Rattle.packet_pool.specs.declared.item.Item.{Item}

-- the first row is the ready cells
abbrev pub ready_count : Layout → ℕ
ready_count k = row_of k 0

abbrev pub ready_cell : Layout → ℕ → ℕ
ready_cell k i = buffers_of k + i

abbrev pub IsReadyCell : Layout → ℕ → Type 0
IsReadyCell k cell = (buffers_of k ≤ cell) × (cell < buffers_of k + ready_count k)

-- a ready cell's word: a packet by its number, under its order
abbrev pub ready_word : ℕ → ℕ → Word
ready_word order n = record { tag = order; buffer = Some n }

abbrev pub item : ℕ → ℕ → Buffer → Item
item order cell y = record { order = order; cell = cell; packet = y }

-- a free cell has its own buffer or none, and a ready cell a small one or none
abbrev pub IsFreeWord : ℕ → Word → Type 0
IsFreeWord n w = (w ≡ empty) ⊎ (w ≡ full n)

abbrev pub HasPacket : Layout → Word → Type 0
HasPacket k w = (n : ℕ) × (w.buffer ≡ Some n) × (n < k.small)

abbrev pub IsReadyWord : Layout → Word → Type 0
IsReadyWord k w = (w ≡ empty) ⊎ HasPacket k w

-- the last order; it may come again
abbrev pub last_order : ℕ
last_order = 4503599627370495

-- an order that may follow those of the items, the last one first
abbrev pub AllBefore : ℕ → List Item → Type 0
AllBefore order [] = Unit {0}
AllBefore order (x ∷ xs) = (x.order < order) × AllBefore order xs

abbrev pub IsNext : ℕ → List Item → Type 0
IsNext order items = (order ≤ last_order) × ((order ≡ last_order) ⊎ AllBefore order items)

-- each item's order follows those of the items behind it
abbrev pub Rises : List Item → Type 0
Rises [] = Unit {0}
Rises (x ∷ xs) = IsNext x.order xs × Rises xs

-- the word that was last met or left in a cell, and at which step
abbrev pub newest : ℕ → List Met → maybe.Option Met
newest cell [] = none
newest cell (m ∷ ms) = if m.cell == cell then some m else newest cell ms
