-- What tests and options say.
use Rattle.std.proofs.Common.{◌≡◌, ℕ, Bool, true, false, cond, List, ◌++◌, Option, Some, None, Ok, Err, refl}
use Rattle.marshal_plans.specs.Encoding.{joined}
use Rattle.marshal_plans.specs.Reading.{Read, ◌>>=◌}

-- two texts that there are
pub joined_parts : (a b : Option (List ℕ)) (code : List ℕ) → joined a b ≡ Some code → (x : List ℕ) × (y : List ℕ) × (a ≡ Some x) × (b ≡ Some y) × (code ≡ x ++ y)
joined_parts None b code e = absurd (cc)
joined_parts (Some x) None code e = absurd (cc)
joined_parts (Some x) (Some y) code e = (x, y, refl, refl, cc)

-- a guarded value
pub guarded : {X : Type 0} (t : Bool) (x y : X) → cond t (Some x) None ≡ Some y → (t ≡ true) × (x ≡ y)
guarded true x y e = (refl, cc)
guarded false x y e = absurd (cc)

-- what was read, and what was then read
pub bind_ok : {A B : Type 0} (q : Read A) (f : A → List ℕ → Read B) (y : B) (end : List ℕ) → (q >>= f) ≡ Ok (y, end)
    → (x : A) × (mid : List ℕ) × (q ≡ Ok (x, mid)) × (f x mid ≡ Ok (y, end))
bind_ok (Ok r) f y end e = (r.0, r.1, refl, e)
bind_ok (Err e) f y end h = absurd (cc)
