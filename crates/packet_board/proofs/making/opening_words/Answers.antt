use Rattle.std.proofs.Common.{arith, ap, ◌∙◌, ◌≡◌, ◌++◌, ◌∷◌, [], ℕ, List, map}
use Rattle.packet_board.specs.Words.{cell_count, first_word, first_words, packed}
use Rattle.packet_board.proofs.Openings.{more_first}
use Rattle.packet_board.proofs.making.opening_words.Goals as goal

pub loop-cell-init : goal.loop-cell-init
loop-cell-init c = let new = c.in_ok-words.ensures in let push = c.push_reserved.ensures in record {
  words = push.items ∙ ap (λ (l : List ℕ). l ++ 0 ∷ []) new.items;
  len = let p = push.len in let l = new.len in omega (arith, p, l);
  room = push.capacity ∙ new.exact;
}

pub loop-cell-preserved : goal.loop-cell-preserved
loop-cell-preserved c = let k = c.args.layout.now in let cell : ℕ = c.loop-cell.cell in let inv = c.loop-cell.invariant in let push = c.push_reserved-in-loop-cell.ensures in
    let word : c.pack.result ≡ packed (first_word k cell) = c.pack.ensures ∙ ap packed c.opening_word.ensures.word in record {
      words = push.items ∙ (ap (λ (l : List ℕ). l ++ c.pack.result ∷ []) inv.words ∙ (ap (λ (n : ℕ). (0 ∷ map packed (first_words k cell)) ++ n ∷ []) word ∙ more_first k cell));
      len = let p = push.len in let l = inv.len in omega (arith, p, l);
      room = push.capacity ∙ inv.room;
    }

pub returns : goal.returns
returns c = let k = c.args.layout.now in let cell : ℕ = c.loop-cell.cell in let end = c.loop-cell.auto.cell-end in let past = c.loop-cell-test.false in let cells = c.cells-cells.ensures in
    let all : cell ≡ cell_count k = omega (arith, end, past, cells) in c.loop-cell.invariant.words ∙ ap (λ (n : ℕ). 0 ∷ map packed (first_words k n)) all
