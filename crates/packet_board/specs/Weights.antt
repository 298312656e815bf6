-- Lemmas on weights, for the proofs of a law: how the weight of a list changes where one item does, and how often a number stands in a list of numbers.
use Rattle.std.proofs.Common.{◌≡◌, ◌≢◌, ℕ, zero, suc, ◌+◌, ◌<◌, ◌≤◌, ◌==◌, eqb, eq-eqb, ne_eqb, eqb-true, Bool, true, false, if◌then◌else◌, List, [], ◌∷◌, ◌++◌, length, set, Option, Some, None, refl, sym, ap, subst, arith}
use mathlib.Core.Option.{some, some-injective, some-ne-none}
use mathlib.Core.Logic.{dite}
use native.Mathlib.Decide.{ℕ_discrete}
use lib.ListN.{get_elem?}
use Rattle.packet_board.specs.Words.{one_if, weigh, names, times}
use Rattle.packet_board.specs.Hands.{without, lose, gain}

module _ {A : Type 0} where
  pub below : (xs : List A) (i : ℕ) (x : A) → get_elem? xs i ≡ some x → i < length xs
  below [] i x e = absurd (some-ne-none x (sym e))
  below (z ∷ zs) zero x e = omega arith
  below (z ∷ zs) (suc i) x e = let r = below zs i x e in omega (arith, r)

  pub at_below : (xs : List A) (i : ℕ) → i < length xs → (x : A) × (get_elem? xs i ≡ some x)
  at_below [] i h = absurd (omega arith)
  at_below (z ∷ zs) zero h = (z, refl)
  at_below (z ∷ zs) (suc i) h = at_below zs i (omega arith)

module _ {A : Type 0} (f : A → ℕ) where
  pub weigh_set : (xs : List A) (i : ℕ) (x y : A) → get_elem? xs i ≡ some x → weigh f (set xs i y) + f x ≡ weigh f xs + f y
  weigh_set [] i x y e = absurd (some-ne-none x (sym e))
  weigh_set (z ∷ zs) zero x y e = let q : f z ≡ f x = ap f (some-injective z x e) in omega (arith, q)
  weigh_set (z ∷ zs) (suc i) x y e = let r = weigh_set zs i x y e in omega (arith, r)

  pub weigh_at : (xs : List A) (i : ℕ) (x : A) → get_elem? xs i ≡ some x → f x ≤ weigh f xs
  weigh_at [] i x e = absurd (some-ne-none x (sym e))
  weigh_at (z ∷ zs) zero x e = let q : f z ≡ f x = ap f (some-injective z x e) in omega (arith, q)
  weigh_at (z ∷ zs) (suc i) x e = let r = weigh_at zs i x e in omega (arith, r)

  pub weigh_more : (xs : List A) (y : A) → weigh f (xs ++ y ∷ []) ≡ weigh f xs + f y
  weigh_more [] y = omega arith
  weigh_more (z ∷ zs) y = let r = weigh_more zs y in omega (arith, r)

  pub weigh_two : (xs : List A) (i j : ℕ) (x y : A) → get_elem? xs i ≡ some x → get_elem? xs j ≡ some y → j ≢ i → f x + f y ≤ weigh f xs
  weigh_two [] i j x y e d n = absurd (some-ne-none x (sym e))
  weigh_two (z ∷ zs) zero zero x y e d n = absurd (n refl)
  weigh_two (z ∷ zs) zero (suc j) x y e d n = let q : f z ≡ f x = ap f (some-injective z x e) in let r = weigh_at zs j y d in omega (arith, q, r)
  weigh_two (z ∷ zs) (suc i) zero x y e d n = let q : f z ≡ f y = ap f (some-injective z y d) in let r = weigh_at zs i x e in omega (arith, q, r)
  weigh_two (z ∷ zs) (suc i) (suc j) x y e d n = let r = weigh_two zs i j x y e d (λ p. n (ap suc p)) in omega (arith, r)

all_less : {A : Type 0} (f g : A → ℕ) (xs : List A) → ((j : ℕ) (y : A) → get_elem? xs j ≡ some y → f y ≤ g y) → weigh f xs ≤ weigh g xs
all_less f g [] h = omega arith
all_less f g (z ∷ zs) h = let q = h zero z refl in let r = all_less f g zs (λ j y d. h (suc j) y d) in omega (arith, q, r)

-- where each item but one weighs no more in f than in g
pub weigh_beside : {A : Type 0} (f g : A → ℕ) (xs : List A) (i : ℕ) (x : A) → get_elem? xs i ≡ some x → ((j : ℕ) (y : A) → get_elem? xs j ≡ some y → j ≢ i → f y ≤ g y) → weigh f xs + g x ≤ weigh g xs + f x
weigh_beside f g [] i x e h = absurd (some-ne-none x (sym e))
weigh_beside f g (z ∷ zs) zero x e h = let q : f z ≡ f x = ap f (some-injective z x e) in let q' : g z ≡ g x = ap g (some-injective z x e) in
    let r = all_less f g zs (λ j y d. h (suc j) y d (λ p. omega arith)) in omega (arith, q, q', r)
weigh_beside f g (z ∷ zs) (suc i) x e h = let q = h zero z refl (λ p. omega arith) in let r = weigh_beside f g zs i x e (λ j y d n. h (suc j) y d (λ p. n (omega arith))) in omega (arith, q, r)

pub one_at_most : (b : Bool) → one_if b ≤ 1
one_at_most true = omega arith
one_at_most false = omega arith

pub one_same : (n b : ℕ) → n ≡ b → one_if (n == b) ≡ 1
one_same n b e = ap one_if (eq-eqb n b e)

pub one_other : (n b : ℕ) → n ≢ b → one_if (n == b) ≡ 0
one_other n b ne = ap one_if (ne_eqb n b ne)

pub from_one : (t : Bool) → 1 ≤ one_if t → t ≡ true
from_one true h = refl
from_one false h = absurd (omega arith)

pub same_one : (n b : ℕ) → 1 ≤ one_if (n == b) → n ≡ b
same_one n b h = eqb-true n b (from_one (eqb n b) h)

pub names_at_most : (b : ℕ) (n : Option ℕ) → names b n ≤ 1
names_at_most b None = omega arith
names_at_most b (Some n) = one_at_most (n == b)

pub names_is : (b : ℕ) (n : Option ℕ) → 1 ≤ names b n → n ≡ Some b
names_is b None h = absurd (omega arith)
names_is b (Some n) h = ap Some (same_one n b h)

pub names_self : (n : ℕ) → names n (Some n) ≡ 1
names_self n = one_same n n refl

-- a test of two numbers as a choice, in each of its two cases
pub chosen : {B : Type 0} (n b : ℕ) (x y z : B) → (n ≡ b → x ≡ z) → (n ≢ b → y ≡ z) → (if n == b then x else y) ≡ z
chosen n b x y z hit miss = dite (ℕ_discrete n b) (λ e. subst (λ t. (if t then x else y) ≡ z) (sym (eq-eqb n b e)) (hit e)) (λ ne. subst (λ t. (if t then x else y) ≡ z) (sym (ne_eqb n b ne)) (miss ne))

pub times_without : (n b : ℕ) (ns : List ℕ) → 1 ≤ times n ns → times b (without n ns) + one_if (n == b) ≡ times b ns
times_without n b [] h = absurd (omega arith)
times_without n b (x ∷ xs) h = dite (ℕ_discrete x n)
    (λ e. let o : one_if (x == b) ≡ one_if (n == b) = ap (λ z. one_if (z == b)) e in
    let goal : times b xs + one_if (n == b) ≡ one_if (x == b) + times b xs = omega (arith, o) in
    subst (λ t. times b (if t then xs else x ∷ without n xs) + one_if (n == b) ≡ one_if (x == b) + times b xs) (sym (eq-eqb x n e)) goal)
    (λ ne. let z = one_other x n ne in let more : 1 ≤ times n xs = omega (arith, z, h) in let r = times_without n b xs more in
    let goal : (one_if (x == b) + times b (without n xs)) + one_if (n == b) ≡ one_if (x == b) + times b xs = omega (arith, r) in
    subst (λ t. times b (if t then xs else x ∷ without n xs) + one_if (n == b) ≡ one_if (x == b) + times b xs) (sym (ne_eqb x n ne)) goal)

pub times_lose : (g : Option ℕ) (b : ℕ) (ns : List ℕ) → ((n : ℕ) → g ≡ Some n → 1 ≤ times n ns) → times b (lose g ns) + names b g ≡ times b ns
times_lose None b ns h = omega arith
times_lose (Some n) b ns h = times_without n b ns (h n refl)

pub times_gain : (g : Option ℕ) (b : ℕ) (ns : List ℕ) → times b (gain g ns) ≡ times b ns + names b g
times_gain None b ns = omega arith
times_gain (Some n) b ns = omega arith
