-- What the pieces of a text are known by, and what follows of the last piece.
use Rattle.std.proofs.Common.{◌≡◌, ◌<◌, ◌≤◌, ◌+◌, ℕ, List, [], ◌++◌, length, ap, sym, ◌∙◌, subst}
use Rattle.item_list.specs.Bytes.{AreBytes}
use Rattle.fragments.specs.Pieces.{front, last_piece, piece, piece_size}

-- the laws of pieces, each by the contract that states it
pub record PieceLaws : Type 0 where
  pub none : (text : List ℕ) → front text 0 ≡ []
  pub more : (text : List ℕ) (k : ℕ) → front text (k + 1) ≡ front text k ++ piece text k
  pub all : (text : List ℕ) → front text (last_piece (length text) + 1) ≡ text
  pub full : (text : List ℕ) (i : ℕ) → i < last_piece (length text) → length (piece text i) ≡ piece_size
  pub fits : (text : List ℕ) (i : ℕ) → length (piece text i) ≤ piece_size
  pub bytes : (text : List ℕ) (i : ℕ) → AreBytes text → AreBytes (piece text i)

-- the first piece is the front of one piece
pub first_front : PieceLaws → (text : List ℕ) → front text 1 ≡ piece text 0
first_front laws text = laws.more text 0 ∙ ap (λ xs. xs ++ piece text 0) (laws.none text)

-- the pieces before the last and the last are the text
pub last_front : PieceLaws → (text : List ℕ) (i : ℕ) → i ≡ last_piece (length text) → front text i ++ piece text i ≡ text
last_front laws text i e = subst (λ j. front text j ++ piece text j ≡ text) (sym e) (sym (laws.more text (last_piece (length text))) ∙ laws.all text)

-- a text of one piece is that piece
pub one_piece : PieceLaws → (text : List ℕ) → 0 ≡ last_piece (length text) → piece text 0 ≡ text
one_piece laws text e = sym (ap (λ xs. xs ++ piece text 0) (laws.none text)) ∙ last_front laws text 0 e
