-- A name written over zeros is stored.
use Rattle.std.proofs.Common.{◌≡◌, ◌≤◌, ◌-◌, ◌++◌, ℕ, IsTrue, List, [], ◌∷◌, length, take, drop, replicate, ap, sym, subst, ◌∙◌, arith}
use Rattle.std.proofs.lemmas.List.{drop-replicate, drop_at, length-append, length-replicate, take_at}
use Rattle.std.proofs.lemmas.Bool.Decides.{nat_tests}
use Rattle.interface_tokens.specs.Names.{is_name, name_limit}
use Rattle.interface_tokens.specs.Stored.{IsStored}

pub name_fits : (name : List ℕ) → IsTrue (is_name name) → length name ≤ name_limit
name_fits [] h = omega arith
name_fits (x ∷ xs) h = grind (arith, nat_tests)

stored_zeros : (name : List ℕ) → IsTrue (is_name name)
    → IsStored (name ++ replicate (name_limit - length name) 0) (length name)
stored_zeros name h =
    let fits = name_fits name h in
    let zeros = replicate (name_limit - length name) 0 in
    let front : take (length name) (name ++ zeros) ≡ name = take_at name zeros (length name) (λ i. length name) in
    record {
      room = omega (arith, length-append name zeros);
      size = omega (arith, length-append name zeros, length-replicate {A = ℕ} (name_limit - length name) 0);
      rest = drop_at name zeros (length name) (λ i. length name);
      name = ap is_name front ∙ h;
    }

pub stored : (name written : List ℕ) → written ≡ name → IsTrue (is_name name)
    → IsStored (written ++ drop (length name) (replicate name_limit 0)) (length name)
stored name written same h =
    let P : List ℕ → Type 0 = λ xs. IsStored xs (length name) in
    let whole : name ++ replicate (name_limit - length name) 0 ≡ written ++ drop (length name) (replicate name_limit 0) =
    ap (λ (xs : List ℕ). name ++ xs) (sym (drop-replicate (length name) name_limit 0))
    ∙ ap (λ (xs : List ℕ). xs ++ drop (length name) (replicate name_limit 0)) (sym same) in
    subst P whole (stored_zeros name h)
