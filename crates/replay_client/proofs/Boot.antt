-- Lists that are made one item after another.
use Rattle.std.proofs.Common.{◌≡◌, ℕ, ◌+◌, List, [], ◌∷◌, ◌++◌, map, ap, sym, ◌∙◌, refl}
use Rattle.std.specs.List.{range_with_len}
use Rattle.std.proofs.lemmas.List.FromFn.{map-range_with_len_more}

-- one more item of a list by a function of its number
pub made_more : {A : Type 0} (f : ℕ → A) (from n : ℕ) (xs ys : List A) (x : A) → xs ≡ map f (range_with_len from n) → x ≡ f (from + n) → ys ≡ xs ++ x ∷ [] → ys ≡ map f (range_with_len from (n + 1))
made_more {A} f from n xs ys x before item after =
    after ∙ (ap (λ (zs : List A). zs ++ x ∷ []) before ∙ (ap (λ (z : A). map f (range_with_len from n) ++ z ∷ []) item
    ∙ sym (map-range_with_len_more f from n (from + n) refl)))
