use Rattle.std.proofs.Common.{◌≡◌, ℕ, take, vec_len, vec_capacity}
use mathlib.Core.Option.{some}
use lib.ListN.{get_elem?}
use Rattle.std.specs.Slots.{slots_items}
use Rattle.packet_board.specs.declared.word.Word.{Word}
use Rattle.packet_board.specs.Words.{Fits}
use Rattle.packet_board.specs.Rule.{cells_of}
use Rattle.packet_board.proofs.closing.cells_left.Given as goal

abbrev pub invariant-loop-cell : goal.invariant-loop-cell
invariant-loop-cell l = record {
  read : l.words.items ≡ take l.cell (cells_of (slots_items l.left.words));
  fit : (cell : ℕ) (w : Word) → get_elem? l.words.items cell ≡ some w → Fits w;
  len : vec_len l.words ≡ l.cell;
  room : vec_capacity l.words ≡ l.cells;
}
