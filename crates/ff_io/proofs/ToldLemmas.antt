-- What several reads or writes together do to the bytes that are told.
use Rattle.std.proofs.Common.{◌≡◌, List, ℕ, ◌+◌, ◌-◌, ◌≤◌, [], ◌++◌, length, take, drop, Option, None, Some, refl, sym, ap, subst, ◌∙◌, append_assoc, append-nil, arith, length-drop}
use Rattle.std.proofs.lemmas.List.{take_rest, length-take-le, take-append-le, take-append-drop, take-take, drop-drop}
use Rattle.std.proofs.Math.Seq.{take-add}
use Rattle.std.specs.Io.KnownBytes.{prepend_known, append_known}
use Rattle.ff_io.specs.Told.{Gave, Appended}

-- no byte
pub Gave-none : (told : Option (List ℕ)) → Gave [] told told
Gave-none None = refl
Gave-none (Some left) = refl

-- these bytes, and then those
pub Gave-append : (these those : List ℕ) (x y z : Option (List ℕ)) → Gave these x y → Gave those y z → Gave (these ++ those) x z
Gave-append these those x y None p q = p ∙ ap (prepend_known these) q
Gave-append these those x y (Some left) p q = p ∙ ap (prepend_known these) q ∙ ap Some (sym (append_assoc these those left))

-- no byte
pub Appended-none : (told : Option (List ℕ)) → Appended [] told told
Appended-none None _ = refl
Appended-none (Some written) _ = ap Some (sym (append-nil written))

-- these bytes, and then those
pub Appended-append : (these those : List ℕ) (x y z : Option (List ℕ)) → Appended these x y → Appended those y z → Appended (these ++ those) x z
Appended-append these those x y None p q told = absurd (cc told)
Appended-append these those x None (Some all) p q told = absurd (cc (q refl))
Appended-append these those None (Some most) (Some all) p q told = absurd (cc (p refl))
Appended-append these those (Some start) (Some most) (Some all) p q told =
    q refl ∙ ap (λ told. append_known told those) (p refl) ∙ ap Some (append_assoc start these those)

-- the bytes below `at`, and then n bytes of the rest
pub Appended-take : (bytes : List ℕ) (at n : ℕ) (x y z : Option (List ℕ)) → Appended (take at bytes) x y → Appended (take n (take (length bytes - at) (drop at bytes))) y z
    → Appended (take (at + n) bytes) x z
Appended-take bytes at n x y z p q =
    let joined : take at bytes ++ take n (take (length bytes - at) (drop at bytes)) ≡ take (at + n) bytes =
    ap (λ rest. take at bytes ++ take n rest) (take_rest bytes at) ∙ sym (take-add at n bytes) in
    subst (λ all. Appended all x z) joined (Appended-append _ _ x y z p q)

-- the bytes from `at` on are the n that were copied to a front, and those behind them
pub drop-copied : (bytes front rest : List ℕ) (at n : ℕ) → at + n ≤ length bytes → front ≡ take n (drop at bytes)
    → drop at bytes ≡ take n (front ++ rest) ++ drop (at + n) bytes
drop-copied bytes front rest at n fits e =
    let many : length front ≡ n = ap length e ∙ length-take-le n (drop at bytes) (simp length-drop (omega arith)) in
    let copy : take n (front ++ rest) ≡ take n (drop at bytes) =
    take-append-le n front rest (omega arith) ∙ ap (take n) e ∙ take-take n n (drop at bytes) (omega arith) in
    rw (copy, ← drop-drop n at bytes) (sym (take-append-drop n (drop at bytes)))
