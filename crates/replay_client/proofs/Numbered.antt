-- Items of lists by their numbers.
use Rattle.std.proofs.Common.{◌≡◌, ℕ, ◌-◌, ◌≤◌, ◌<◌, List, length, Some, None, get_or, set, ap, sym, ◌∙◌}
use Rattle.std.proofs.lemmas.List.{set-get_or}
use Rattle.std.proofs.lemmas.Bool.{le-ltb, cond-false}
use Rattle.std.proofs.lemmas.Option.{slice_get_past, slice_get-get_or}
use Rattle.replay_model.specs.World.{numbered}

-- there is no item of this number
pub numbered-none : {A : Type 0} (from : ℕ) (xs : List A) (n : ℕ) → from ≤ n → length xs ≤ n - from → numbered from xs n ≡ None
numbered-none {A} from xs n low past = cond-false _ _ _ (le-ltb n from low) ∙ slice_get_past xs (n - from) past

-- the item of this number
pub numbered-some : {A : Type 0} (from : ℕ) (xs : List A) (n : ℕ) (x : A) → from ≤ n → n - from < length xs → x ≡ get_or xs (n - from) x → numbered from xs n ≡ Some x
numbered-some {A} from xs n x low within is =
    cond-false _ _ _ (le-ltb n from low) ∙ (slice_get-get_or xs (n - from) x within ∙ ap (λ (y : A). Some y) (sym is))

-- an item written back
pub set-same : {A : Type 0} (xs : List A) (i : ℕ) (x : A) → x ≡ get_or xs i x → set xs i x ≡ xs
set-same {A} xs i x is = ap (λ (y : A). set xs i y) is ∙ set-get_or xs i x
