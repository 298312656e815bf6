-- Items of lists by their numbers, and entries by their activities.
use Rattle.std.proofs.Common.{◌≡◌, ℕ, zero, suc, ◌-◌, ◌≤◌, ◌<◌, List, [], ◌∷◌, length, map, Option, Some, None, get_or, set, cond, Bool, true, false, ap, sym, ◌∙◌, refl, arith}
use Rattle.std.specs.Prelude.{unwrap_or, slice_get, option_map}
use Rattle.std.proofs.lemmas.List.{set-get_or}
use Rattle.std.proofs.lemmas.Bool.{le-ltb, lt-ltb, cond-true, cond-false}
use Rattle.std.proofs.lemmas.Option.{slice_get_past, slice_get-get_or, slice_get-map, same_Some, unwrap_or-slice_get}
use Rattle.rpc_header.specs.declared.Activity.{Activity}
use Rattle.call_rules.specs.Entry.{Entry, Empty}
use Rattle.replay_model.specs.World.{numbered, is_entry_activity, entry_place, entry_at, with_entry}

-- there is no item of this number
pub numbered-none : {A : Type 0} (from : ℕ) (xs : List A) (n : ℕ) → from ≤ n → length xs ≤ n - from → numbered from xs n ≡ None
numbered-none {A} from xs n low past = cond-false _ _ _ (le-ltb n from low) ∙ slice_get_past xs (n - from) past

-- the item of this number
pub numbered-some : {A : Type 0} (from : ℕ) (xs : List A) (n : ℕ) (x : A) → from ≤ n → n - from < length xs → x ≡ get_or xs (n - from) x → numbered from xs n ≡ Some x
numbered-some {A} from xs n x low within is =
    cond-false _ _ _ (le-ltb n from low) ∙ (slice_get-get_or xs (n - from) x within ∙ ap (λ (y : A). Some y) (sym is))

-- an item written back
pub set-same : {A : Type 0} (xs : List A) (i : ℕ) (x : A) → x ≡ get_or xs i x → set xs i x ≡ xs
set-same {A} xs i x is = ap (λ (y : A). set xs i y) is ∙ set-get_or xs i x

-- an entry written back
kept-at : (inside : Bool) (es : List Entry) (i : ℕ) → cond inside (set es i (unwrap_or (cond inside (slice_get es i) None) Empty)) es ≡ es
kept-at true es i = ap (λ (e : Entry). set es i e) (unwrap_or-slice_get es i Empty) ∙ set-get_or es i Empty
kept-at false es i = refl

pub with_entry-kept : (es : List Entry) (a : Activity) → with_entry es a (unwrap_or (entry_at es a) Empty) ≡ es
with_entry-kept es a = kept-at (is_entry_activity a) es (entry_place a)

pub with_entry-same : (es : List Entry) (a : Activity) (o : Option Entry) → entry_at es a ≡ o → with_entry es a (unwrap_or o Empty) ≡ es
with_entry-same es a o h = ap (λ (p : Option Entry). with_entry es a (unwrap_or p Empty)) (sym h) ∙ with_entry-kept es a

-- a number below the first
pub numbered-low : {A : Type 0} (from : ℕ) (xs : List A) (n : ℕ) → n < from → numbered from xs n ≡ None
numbered-low {A} from xs n low = cond-true _ _ _ (lt-ltb n from low)

item : {A : Type 0} (xs : List A) (k : ℕ) → k < length xs → (x : A) × (slice_get xs k ≡ Some x)
item [] k h = absurd (omega arith)
item (x ∷ xs) zero h = (x, refl)
item (x ∷ xs) (suc k) h = item xs k (omega arith)

-- the item of a number, and what a list has of it that was made of each item
pub numbered-mapped : {A B : Type 0} (f : A → B) (from : ℕ) (xs : List A) (n : ℕ) → from ≤ n → n - from < length xs → (x : A) × (numbered from xs n ≡ Some x) × ((y : B) → numbered from (map f xs) n ≡ Some y → f x ≡ y)
numbered-mapped {A} {B} f from xs n low within =
    let found = item xs (n - from) within in (
      found.0,
      cond-false _ _ _ (le-ltb n from low) ∙ found.1,
      λ y h. same_Some (f found.0) y
          (sym (slice_get-map f xs (n - from) ∙ ap (λ (o : Option A). option_map f o) found.1) ∙ (sym (cond-false _ _ _ (le-ltb n from low)) ∙ h)),
    )

-- the item of this number, by its place
pub numbered-at : {A : Type 0} (from : ℕ) (xs : List A) (n : ℕ) (x : A) → from ≤ n → slice_get xs (n - from) ≡ Some x → numbered from xs n ≡ Some x
numbered-at {A} from xs n x low is = cond-false _ _ _ (le-ltb n from low) ∙ is

-- the item that stands at a place written back
pub set-there : {A : Type 0} (xs : List A) (k : ℕ) (x : A) → slice_get xs k ≡ Some x → set xs k x ≡ xs
set-there {A} [] k x h = refl
set-there {A} (y ∷ xs) zero x h = let same : x ≡ y = cc in ap (λ (z : A). z ∷ xs) same
set-there {A} (y ∷ xs) (suc k) x h = ap (λ (zs : List A). y ∷ zs) (set-there xs k x h)
