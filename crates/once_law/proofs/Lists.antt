-- Facts about lists: what stands in a list, what stands in none twice, and what stands at a place after a write.
use Rattle.std.proofs.Common.{◌≡◌, ◌≢◌, ◌⊎◌, ℕ, zero, suc, ◌<◌, List, [], ◌∷◌, ◌++◌, length, map, refl, ap, sym, ◌∙◌, subst, arith, Some, inl, inr}
use Rattle.std.specs.Prelude.{slice_get, slice_set, slice_index_or, All, Contains}
use Rattle.std.specs.List.{AllByRecursion}
use Rattle.std.proofs.lemmas.Option.{none-some, same_Some, slice_get_within, get_or_from_slice_get}
use Rattle.std.proofs.lemmas.List.Elements.{Contains-append_right, Contains-push_cases, Contains-get_or}
use Rattle.replay_model.specs.Once.{NoneTwice}

apart_push : {A B : Type 0} (f : A → B) (b : B) (xs : List A) (x : A) → AllByRecursion (λ y. b ≢ y) (map f xs) → b ≢ f x → AllByRecursion (λ y. b ≢ y) (map f (xs ++ x ∷ []))
apart_push f b [] x h n = (n, tt)
apart_push f b (y ∷ ys) x h n = (h.0, apart_push f b ys x h.1 n)

-- a new item behind a list in which none stands twice
pub none_twice_push : {A B : Type 0} (f : A → B) (xs : List A) (x : A) → NoneTwice (map f xs) → ((y : A) → Contains xs y → f y ≢ f x) → NoneTwice (map f (xs ++ x ∷ []))
none_twice_push f [] x h n = (tt, tt)
none_twice_push f (y ∷ ys) x h n =
    (apart_push f (f y) ys x h.0 (n y (0, omega arith, refl)), none_twice_push f ys x h.1 (λ z c. n z (Contains-append_right (y ∷ []) ys z c)))

-- what holds of each item that stands in a list
pub all_of_members : {A : Type 0} (P : A → Type 0) (xs : List A) → ((x : A) → Contains xs x → P x) → All P xs
all_of_members P xs h k d l = h _ (Contains-get_or xs k d l)

-- what holds of each item, also with a new one behind
pub members_push : {A : Type 0} (P : A → Type 0) (xs : List A) (y : A) → ((x : A) → Contains xs x → P x) → P y → (x : A) → Contains (xs ++ y ∷ []) x → P x
members_push P xs y old new x c = elim (Contains-push_cases xs y x c) [ inl o ↦ old x o | inr e ↦ subst P e new ]

-- what is read at a place stands in the list
pub contains_read : {A : Type 0} (xs : List A) (k : ℕ) (x : A) → slice_get xs k ≡ Some x → Contains xs x
contains_read xs k x h = (k, slice_get_within xs k x h, get_or_from_slice_get xs k x x h)

-- what holds of the item at each place, also after a write
pub places_set : {A : Type 0} (P : ℕ → A → Type 0) (xs : List A) (i : ℕ) (a : A) → ((k : ℕ) (x : A) → slice_get xs k ≡ Some x → k ≢ i → P k x) → P i a → (k : ℕ) (x : A) → slice_get (slice_set xs i a) k ≡ Some x → P k x
places_set P [] i a old new k x h = absurd (none-some x h)
places_set P (y ∷ ys) zero a old new zero x h = subst (P zero) (same_Some a x h) new
places_set P (y ∷ ys) zero a old new (suc k) x h = old (suc k) x h (λ e. absurd (omega arith))
places_set P (y ∷ ys) (suc i) a old new zero x h = old zero x h (λ e. absurd (omega arith))
places_set P (y ∷ ys) (suc i) a old new (suc k) x h =
    places_set (λ j. P (suc j)) ys i a (λ j z g n. old (suc j) z g (λ e. n (omega arith))) new k x h

-- a new item behind a list: the others stay at their places
pub slice_get_front : {A : Type 0} (xs : List A) (y : A) (k : ℕ) (x : A) → slice_get xs k ≡ Some x → slice_get (xs ++ y ∷ []) k ≡ Some x
slice_get_front [] y k x h = absurd (none-some x h)
slice_get_front (z ∷ zs) y zero x h = h
slice_get_front (z ∷ zs) y (suc k) x h = slice_get_front zs y k x h

pub slice_get_last : {A : Type 0} (xs : List A) (y : A) → slice_get (xs ++ y ∷ []) (length xs) ≡ Some y
slice_get_last [] y = refl
slice_get_last (z ∷ zs) y = slice_get_last zs y

pub slice_get_push_cases : {A : Type 0} (xs : List A) (y : A) (k : ℕ) (x : A) → slice_get (xs ++ y ∷ []) k ≡ Some x → (slice_get xs k ≡ Some x) ⊎ ((k ≡ length xs) × (y ≡ x))
slice_get_push_cases [] y zero x h = inr (refl, same_Some y x h)
slice_get_push_cases [] y (suc k) x h = absurd (none-some x h)
slice_get_push_cases (z ∷ zs) y zero x h = inl h
slice_get_push_cases (z ∷ zs) y (suc k) x h =
    elim (slice_get_push_cases zs y k x h) [ inl o ↦ inl o | inr e ↦ inr (ap suc e.0, e.1) ]

-- what stands in a list is its first item, or stands in the rest
contains_cases : {A : Type 0} (z : A) (zs : List A) (x : A) → Contains (z ∷ zs) x → (z ≡ x) ⊎ Contains zs x
contains_cases {A} z zs x c = go c.0 c.1 c.2
  where
    go : (k : ℕ) → k < length (z ∷ zs) → slice_index_or (z ∷ zs) k x ≡ x → (z ≡ x) ⊎ Contains zs x
    go zero l e = inl e
    go (suc k) l e = inr (k, omega arith, e)

apart_at : {A B : Type 0} (f : A → B) (b : B) (xs : List A) (x : A) → AllByRecursion (λ y. b ≢ y) (map f xs) → Contains xs x → b ≢ f x
apart_at f b [] x h c e = absurd (omega (arith, c.1))
apart_at f b (z ∷ zs) x h c e =
    elim (contains_cases z zs x c) [ inl same ↦ h.0 (e ∙ ap f (sym same)) | inr rest ↦ apart_at f b zs x h.1 rest e ]

-- where none stands twice, items that look alike are the same
pub same_of_none_twice : {A B : Type 0} (f : A → B) (xs : List A) (x y : A) → NoneTwice (map f xs) → Contains xs x → Contains xs y → f x ≡ f y → x ≡ y
same_of_none_twice f [] x y h cx cy e = absurd (omega (arith, cx.1))
same_of_none_twice f (z ∷ zs) x y h cx cy e =
    elim (contains_cases z zs x cx) [
      | inl zx ↦ elim (contains_cases z zs y cy) [
        | inl zy ↦ sym zx ∙ zy
        | inr ry ↦ absurd (apart_at f (f z) zs y h.0 ry (ap f zx ∙ e))
      ]
      | inr rx ↦ elim (contains_cases z zs y cy) [
        | inl zy ↦ absurd (apart_at f (f z) zs x h.0 rx (ap f zy ∙ sym e))
        | inr ry ↦ same_of_none_twice f zs x y h.1 rx ry e
      ]
    ]
