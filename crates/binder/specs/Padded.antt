-- How a name lies in an array: its bytes, and zeros behind them. So equal names are equal arrays.
use Rattle.std.specs.Prelude.{ℕ, ◌≡◌, ◌≤◌, ◌-◌, ◌++◌, IsTrue, List, length, take, drop, replicate}
use Rattle.std.proofs.Common.{ap, sym, ◌∙◌}
use Rattle.std.proofs.lemmas.List.{length-take-le, take-append-drop}
use Rattle.binder.specs.Names.{is_name, name_limit}

pub record IsPadded (bytes : List ℕ) (len : ℕ) : Type 0 where
  pub room : len ≤ length bytes
  pub size : length bytes ≡ name_limit
  pub rest : drop len bytes ≡ replicate (name_limit - len) 0
  pub name : IsTrue (is_name (take len bytes))

-- the name gives its length back
pub length-padded : (bytes : List ℕ) (len : ℕ) → IsPadded bytes len → length (take len bytes) ≡ len
length-padded bytes len h = length-take-le len bytes h.room

-- and its array
pub padded_again : (bytes : List ℕ) (len : ℕ) → IsPadded bytes len
    → take len bytes ++ replicate (name_limit - length (take len bytes)) 0 ≡ bytes
padded_again bytes len h =
    ap (λ (n : ℕ). take len bytes ++ replicate (name_limit - n) 0) (length-padded bytes len h)
    ∙ ap (λ (xs : List ℕ). take len bytes ++ xs) (sym h.rest) ∙ take-append-drop len bytes
