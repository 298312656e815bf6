-- Lemmas on the words of a new board.
use Rattle.std.proofs.Common.{◌≡◌, ℕ, zero, suc, ◌<◌, ◌≤◌, if◌then◌else◌, lt-ltb, le-ltb, [], ◌∷◌, ◌++◌, length, length-append, refl, sym, ◌∙◌, subst, arith}
use mathlib.Core.Option.{some}
use mathlib.Core.Logic.{dite}
use native.Mathlib.Decide.{ℕ_discrete}
use lib.ListN.{get_elem?}
use Rattle.atomic_table.proofs.Lists.{at_longer, at_last}
use Rattle.packet_board.specs.declared.layout.Layout.{Layout}
use Rattle.packet_board.specs.Words.{buffers_of, first_word, first_words, full, empty}

pub length_first : (k : Layout) (n : ℕ) → length (first_words k n) ≡ n
length_first k zero = refl
length_first k (suc n) = let r = length_first k n in length-append (first_words k n) (first_word k n ∷ []) ∙ (omega (arith, r))

-- the word of a cell
pub first_at : (k : Layout) (n cell : ℕ) → cell < n → get_elem? (first_words k n) cell ≡ some (first_word k cell)
first_at k zero cell h = absurd (omega arith)
first_at k (suc n) cell h = dite (ℕ_discrete cell n)
    (λ e. subst (λ (z : ℕ). get_elem? (first_words k n ++ first_word k n ∷ []) z ≡ some (first_word k z)) (sym e) (at_last (first_words k n) (first_word k n) n (length_first k n)))
    (λ ne. at_longer (first_words k n) (first_word k n ∷ []) cell (first_word k cell) (first_at k n cell (omega arith)))

-- a free cell has its own buffer, and any other is empty
pub free_word : (k : Layout) (cell : ℕ) → cell < buffers_of k → first_word k cell ≡ full cell
free_word k cell h = subst (λ t. (if t then full cell else empty) ≡ full cell) (sym (lt-ltb cell (buffers_of k) h)) refl

pub other_word : (k : Layout) (cell : ℕ) → buffers_of k ≤ cell → first_word k cell ≡ empty
other_word k cell h = subst (λ t. (if t then full cell else empty) ≡ empty) (sym (le-ltb cell (buffers_of k) h)) refl
