use Rattle.std.proofs.Common.{◌≡◌, ◌+◌, ◌∷◌, map, vec_len, vec_capacity}
use Rattle.packet_board.specs.Words.{first_words, packed}
use Rattle.packet_board.proofs.making.opening_words.Given as goal

abbrev pub invariant-loop-cell : goal.invariant-loop-cell
invariant-loop-cell l = record { words : l.words.items ≡ 0 ∷ map packed (first_words l.layout l.cell); len : vec_len l.words ≡ l.cell + 1; room : vec_capacity l.words ≡ l.cells + 1 }
