-- The packet of the least order among those that a seat saw.
use Rattle.std.specs.Prelude.{◌≡◌, ℕ, ◌<◌, ◌≤◌, ◌^◌, Option, Some, None}
use Rattle.packet_board.specs.declared.word.Word.{Word}
use Rattle.packet_board.specs.declared.layout.Layout.{Layout}
use Rattle.packet_board.specs.declared.view.View.{View}
use Rattle.packet_board.specs.Words.{buffers_of, empty}
use Rattle.packet_pool.specs.declared.claiming.Waiting.{Waiting}
use Rattle.packet_pool.specs.Cells.{ready_word}
use Rattle.packet_pool.specs.Packets.{IsSeen}
use Rattle.packet_pool.specs.Waiting.{IsBehind}

-- the word of a cell comes behind the least packet; where there is none, no cell has a packet
abbrev pub IsAfter : Option Waiting → ℕ → Word → Type 0
IsAfter None cell word = word ≡ empty
IsAfter (Some w) cell word = IsBehind w.order w.cell cell word

-- the packet was seen in one of the ready cells before that one
pub record IsWaiting {N : Type 0} (k : Layout) (from : ℕ) (v : View N) (end : ℕ) (w : Waiting) : Type 0 where
  pub low : buffers_of k ≤ w.cell
  pub high : w.cell < end
  pub small : w.number < k.small
  pub fits : w.order < 2 ^ 52
  pub seen : IsSeen from v w.cell (λ word. word ≡ ready_word w.order w.number)
