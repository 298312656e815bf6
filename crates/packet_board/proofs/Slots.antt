-- The slots that a seat has: looking one up, taking one from among them, and the act that gives one back from wherever it stands.
use Rattle.std.proofs.Common.{◌≡◌, ◌≢◌, ℕ, ◌≤◌, ◌==◌, eq-eqb, ne_eqb, if◌then◌else◌, List, [], ◌∷◌, ◌++◌, set, set-set, Option, refl, sym, ap, ◌∙◌, subst, arith}
use Rattle.std.proofs.lemmas.List.{set_comm}
use mathlib.Core.Option.{some, none, some-injective, some-ne-none}
use mathlib.Core.Option as maybe
use mathlib.Core.Logic.{dite}
use native.Mathlib.Decide.{ℕ_discrete}
use lib.ListN.{get_elem?}
use Rattle.atomic_table.specs.Table.{Act, takes, gives, chain, carried_after, homes_after, Valid}
use Rattle.atomic_table.proofs.Lists.{set_here, set_else, set_again}
use Rattle.packet_board.specs.declared.buffer.Buffer.{Buffer}
use Rattle.packet_board.specs.Words.{times}
use Rattle.packet_board.specs.Hands.{without, Slots, lookup, removed, keys, updated}
use Rattle.packet_board.specs.Laws.{Homes}
use Rattle.packet_board.specs.Weights.{below, one_same, chosen, times_without}

pub no_key : (c : Slots) (n : ℕ) → times n (keys c) ≡ 0 → lookup c n ≡ none
no_key [] n e = refl
no_key (x ∷ xs) n e = chosen x.0 n (some x.1) (lookup xs n) none (λ is. let o = one_same x.0 n is in absurd (omega (arith, o, e))) (λ ne. no_key xs n (omega (arith, e)))

pub no_slots : (c : Slots) → ((n : ℕ) → lookup c n ≡ none) → c ≡ []
no_slots [] h = refl
no_slots (x ∷ xs) h = absurd (some-ne-none x.1 (subst (λ t. (if t then some x.1 else lookup xs x.0) ≡ none) (eq-eqb x.0 x.0 refl) (h x.0)))

pub other_slot : (c : Slots) (n m : ℕ) → n ≢ m → lookup (removed n c) m ≡ lookup c m
other_slot [] n m h = refl
other_slot (x ∷ xs) n m h = dite (ℕ_discrete x.0 n)
    (λ is. let ne : x.0 ≢ m = λ p. h (sym is ∙ p) in
    subst (λ t. lookup (if t then xs else x ∷ removed n xs) m ≡ lookup (x ∷ xs) m) (sym (eq-eqb x.0 n is)) (sym (chosen x.0 m (some x.1) (lookup xs m) (lookup xs m) (λ p. absurd (ne p)) (λ _. refl))))
    (λ ne. subst (λ t. lookup (if t then xs else x ∷ removed n xs) m ≡ lookup (x ∷ xs) m) (sym (ne_eqb x.0 n ne))
    (ap (λ (z : maybe.Option (Option Buffer)). if x.0 == m then some x.1 else z) (other_slot xs n m h)))

pub keys_removed : (n : ℕ) (c : Slots) → keys (removed n c) ≡ without n (keys c)
keys_removed n [] = refl
keys_removed n (x ∷ xs) = dite (ℕ_discrete x.0 n)
    (λ is. subst (λ t. keys (if t then xs else x ∷ removed n xs) ≡ (if t then keys xs else x.0 ∷ without n (keys xs))) (sym (eq-eqb x.0 n is)) refl)
    (λ ne. subst (λ t. keys (if t then xs else x ∷ removed n xs) ≡ (if t then keys xs else x.0 ∷ without n (keys xs))) (sym (ne_eqb x.0 n ne)) (ap (λ (z : List ℕ). x.0 ∷ z) (keys_removed n xs)))

-- where the slot stands
pub cut : (c : Slots) (n : ℕ) (y : Option Buffer) → lookup c n ≡ some y → (xs : Slots) × (zs : Slots) × (c ≡ xs ++ (n, y) ∷ zs) × (removed n c ≡ xs ++ zs)
cut [] n y e = absurd (some-ne-none y (sym e))
cut (x ∷ xs) n y e = dite (ℕ_discrete x.0 n)
    (λ is. let o : some x.1 ≡ some y = subst (λ t. (if t then some x.1 else lookup xs n) ≡ some y) (eq-eqb x.0 n is) e in
    ([], xs, (λ i. (is i, some-injective x.1 y o i) ∷ xs), subst (λ t. (if t then xs else x ∷ removed n xs) ≡ xs) (sym (eq-eqb x.0 n is)) refl))
    (λ ne. let o : lookup xs n ≡ some y = subst (λ t. (if t then some x.1 else lookup xs n) ≡ some y) (ne_eqb x.0 n ne) e in let r = cut xs n y o in
    (x ∷ r.0, r.1, ap (λ (z : Slots). x ∷ z) r.2, subst (λ t. (if t then xs else x ∷ removed n xs) ≡ x ∷ (r.0 ++ r.1)) (sym (ne_eqb x.0 n ne)) (ap (λ (z : Slots). x ∷ z) r.3)))

-- each slot stands once, and none of them is at home
abbrev pub Out : Homes → Slots → Type 0
Out hs c = (n : ℕ) → 1 ≤ times n (keys c) → (times n (keys c) ≤ 1) × (get_elem? hs n ≡ some none)

abbrev pub rise : Slots → Act (Option Buffer)
rise [] = gives
rise (x ∷ xs) = chain gives (chain (rise xs) (takes x.0 x.1))

pub record Given (hs : Homes) (c : Slots) (a : Act (Option Buffer)) (n : ℕ) (y : Option Buffer) (after : Slots) : Type 0 where
  pub valid : Valid hs c a
  pub carried : carried_after c a ≡ after
  pub homes : homes_after hs c a ≡ set hs n (some y)

among : (xs zs : Slots) (n : ℕ) (y : Option Buffer) → 1 ≤ times n (keys (xs ++ (n, y) ∷ zs))
among [] zs n y = let o = one_same n n refl in omega (arith, o)
among (x ∷ xs) zs n y = let r = among xs zs n y in omega (arith, r)

pub rises : (xs zs : Slots) (n : ℕ) (y : Option Buffer) (hs : Homes) → Out hs (xs ++ (n, y) ∷ zs) → Given hs (xs ++ (n, y) ∷ zs) (rise xs) n y (xs ++ zs)
rises [] zs n y hs out = record { valid = tt; carried = refl; homes = refl }
rises (x ∷ xs) zs n y hs out = let t : Slots = xs ++ (n, y) ∷ zs in let k : ℕ = x.0 in let mine = one_same k k refl in
    let here = out k (omega (arith, mine)) in let once : times k (keys t) ≡ 0 = let h = here.0 in omega (arith, h, mine) in
    let apart : n ≢ k = λ e. let a = among xs zs n y in let b : 1 ≤ times k (keys t) = subst (λ (z : ℕ). 1 ≤ times z (keys t)) e a in omega (arith, b, once) in
    let hs' : Homes = set hs k (some x.1) in let room = below hs k none here.1 in
    let r = rises xs zs n y hs' (λ m h. let o = out m (omega (arith, h)) in let ne : m ≢ k = λ e. let b : 1 ≤ times k (keys t) = subst (λ (z : ℕ). 1 ≤ times z (keys t)) e h in omega (arith, b, once) in
    ((let h' = o.0 in omega (arith, h')), set_else hs k m (some x.1) ne ∙ o.1)) in
    record {
      valid = (tt, (r.valid, subst (λ (z : Homes). get_elem? z k ≡ some (some x.1)) (sym r.homes) (set_else hs' n k (some y) (λ e. apart (sym e)) ∙ set_here hs k (some x.1) room)));
      carried = ap (λ (z : Slots). x ∷ z) r.carried;
      homes = ap (λ (z : Homes). set z k none) r.homes ∙ (set_comm hs' n k (some y) none apart ∙ (ap (λ (z : Homes). set z n (some y)) (set-set hs k (some x.1) none) ∙ ap (λ (z : Homes). set z n (some y)) (set_again hs k none here.1)));
    }

point_front : (c : Slots) (n : ℕ) (z : Option Buffer) (m : ℕ) → lookup ((n, z) ∷ removed n c) m ≡ updated n (some z) (lookup c) m
point_front c n z m = chosen n m (some z) (lookup (removed n c) m) (updated n (some z) (lookup c) m) (λ e. sym (chosen n m (some z) (lookup c m) (some z) (λ _. refl) (λ ne. absurd (ne e))))
    (λ ne. other_slot c n m ne ∙ sym (chosen n m (some z) (lookup c m) (lookup c m) (λ e. absurd (ne e)) (λ _. refl)))

-- what a seat holds after its slot of one number came to the front with other content
pub front_held : (c : Slots) (n : ℕ) (z : Option Buffer) → lookup ((n, z) ∷ removed n c) ≡ updated n (some z) (lookup c)
front_held c n z = λ i m. point_front c n z m i

point_gone : (c : Slots) (n : ℕ) (m : ℕ) → times n (keys c) ≡ 1 → lookup (removed n c) m ≡ updated n none (lookup c) m
point_gone c n m once = let h : 1 ≤ times n (keys c) = omega (arith, once) in let w = times_without n n (keys c) h in let o = one_same n n refl in
    let e : times n (keys (removed n c)) ≡ 0 = ap (times n) (keys_removed n c) ∙ (omega (arith, w, o, once)) in
    sym (chosen n m none (lookup c m) (lookup (removed n c) m) (λ p. subst (λ (z : ℕ). none ≡ lookup (removed n c) z) p (sym (no_key (removed n c) n e))) (λ ne. sym (other_slot c n m ne)))

-- what it holds after the slot is gone
pub gone_held : (c : Slots) (n : ℕ) → times n (keys c) ≡ 1 → lookup (removed n c) ≡ updated n none (lookup c)
gone_held c n once = λ i m. point_gone c n m once i

pub no_hands : (c : Slots) → c ≡ [] → (b : ℕ) → times b (keys c) ≡ 0
no_hands c e b = ap (λ (z : Slots). times b (keys z)) e
