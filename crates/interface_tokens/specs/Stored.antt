-- How a name lies in an array: its bytes, and zeros behind them.
use Rattle.std.specs.Prelude.{ℕ, ◌≡◌, ◌≤◌, ◌-◌, ◌++◌, IsTrue, List, length, take, drop, replicate}
use Rattle.std.proofs.Common.{ap, sym, ◌∙◌, refl}
use Rattle.std.proofs.lemmas.List.{length-take-le, take-append-drop}
use Rattle.std.proofs.lemmas.Slice.Eq.{slice_eq-Decides}
use Rattle.std.proofs.lemmas.Bool.Decides.{Decides-eqb}
use Rattle.std.specs.Hash as fed
use Rattle.interface_tokens.specs.Names.{is_name, is_same, name_limit}

pub record IsStored (bytes : List ℕ) (len : ℕ) : Type 0 where
  pub room : len ≤ length bytes
  pub size : length bytes ≡ name_limit
  pub rest : drop len bytes ≡ replicate (name_limit - len) 0
  pub name : IsTrue (is_name (take len bytes))

-- the name gives its length back
pub length_again : (bytes : List ℕ) (len : ℕ) → IsStored bytes len → length (take len bytes) ≡ len
length_again bytes len h = length-take-le len bytes h.room

-- and its array
pub bytes_again : (bytes : List ℕ) (len : ℕ) → IsStored bytes len
    → take len bytes ++ replicate (name_limit - length (take len bytes)) 0 ≡ bytes
bytes_again bytes len h =
    ap (λ (n : ℕ). take len bytes ++ replicate (name_limit - n) 0) (length_again bytes len h)
    ∙ ap (λ (xs : List ℕ). take len bytes ++ xs) (sym h.rest) ∙ take-append-drop len bytes

-- names that are the same have the same hash
pub same_input : (xs ys : List ℕ) → IsTrue (is_same xs ys) → fed.slice fed.u8 xs ≡ fed.slice fed.u8 ys
same_input xs ys h = ap (fed.slice fed.u8) ((slice_eq-Decides Decides-eqb xs ys (is_same xs ys) refl).0 h)
