-- Two lists whose items are related, one by one.
use Rattle.std.proofs.Common.{◌≡◌, ℕ, zero, suc, ◌<◌, List, [], ◌∷◌, ◌++◌, length, Some, get_or, set, ap, sym, refl, subst, arith}
use Rattle.std.specs.Prelude.{slice_get}
use Rattle.std.specs.List.{AllZip}

module _ {A B : Type 0} (R : A → B → Type 0) where
  pub zip-length : (xs : List A) (ys : List B) → AllZip R xs ys → length xs ≡ length ys
  zip-length [] [] h = refl
  zip-length [] (y ∷ ys) h = absurd h
  zip-length (x ∷ xs) [] h = absurd h
  zip-length (x ∷ xs) (y ∷ ys) h = ap suc (zip-length xs ys h.1)

  -- what stands at the place of an item
  pub record At (ys : List B) (k : ℕ) (x : A) : Type 0 where
    pub item : B
    pub there : slice_get ys k ≡ Some item
    pub related : R x item

  pub zip-at : (xs : List A) (ys : List B) (k : ℕ) (x : A) → AllZip R xs ys → k < length xs → x ≡ get_or xs k x → At ys k x
  zip-at [] ys k x h within is = absurd (omega arith)
  zip-at (z ∷ xs) [] k x h within is = absurd h
  zip-at (z ∷ xs) (y ∷ ys) zero x h within is =
      let P : A → Type 0 = λ v. R v y in
      record { item = y; there = refl; related = subst P (sym is) h.0 }
  zip-at (z ∷ xs) (y ∷ ys) (suc k) x h within is =
      let more = zip-at xs ys k x h.1 (omega arith) is in
      record { item = more.item; there = more.there; related = more.related }

  -- one item and the one at its place exchanged
  pub zip-set : (xs : List A) (ys : List B) (k : ℕ) (x : A) (y : B) → AllZip R xs ys → R x y → AllZip R (set xs k x) (set ys k y)
  zip-set [] [] k x y h r = tt
  zip-set [] (z ∷ ys) k x y h r = absurd h
  zip-set (z ∷ xs) [] k x y h r = absurd h
  zip-set (z ∷ xs) (v ∷ ys) zero x y h r = (r, h.1)
  zip-set (z ∷ xs) (v ∷ ys) (suc k) x y h r = (h.0, zip-set xs ys k x y h.1 r)

  pub zip-push : (xs : List A) (ys : List B) (x : A) (y : B) → AllZip R xs ys → R x y → AllZip R (xs ++ x ∷ []) (ys ++ y ∷ [])
  zip-push [] [] x y h r = (r, tt)
  zip-push [] (z ∷ ys) x y h r = absurd h
  zip-push (z ∷ xs) [] x y h r = absurd h
  zip-push (z ∷ xs) (v ∷ ys) x y h r = (h.0, zip-push xs ys x y h.1 r)
