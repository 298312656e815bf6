-- Groups in one another: what is left of each, the outermost first.
use Rattle.std.proofs.Common.{◌≡◌, ◌<◌, ◌≤◌, ◌+◌, ◌^◌, ℕ, suc, List, [], ◌∷◌, ◌++◌, length, refl, ap, arith}
use Rattle.marshal_plans.specs.declared.levels.Left.{Left}
use Rattle.marshal_plans.specs.Lefts.{Todo, IsLeft, todo_groups, left_bound}

-- What is left is of these types. Of so many groups at most, those that are begun and those that may still open.
abbrev pub Stack : {X : Type 0} → (X → Left) → ℕ → ℕ → List Todo → List X → Type 0
Stack left most begun [] [] = Unit {0}
Stack left most begun [] (x ∷ xs) = ⊥
Stack left most begun (t ∷ ts) [] = ⊥
Stack left most begun (t ∷ ts) (x ∷ xs) = IsLeft t (left x) × (begun + todo_groups t ≤ most) × Stack left most (suc begun) ts xs

-- no number in what is left is too great
abbrev pub Bounded : {X : Type 0} → (X → Left) → List X → Type 0
Bounded left [] = Unit {0}
Bounded left (x ∷ xs) = (left_bound (left x) < 2 ^ 64) × Bounded left xs

pub record Popped {X : Type 0} (left : X → Left) (most begun : ℕ) (todos : List Todo) (xs : List X) (x : X) : Type 0 where
  pub outer : List Todo
  pub todo : Todo
  pub all : todos ≡ outer ++ todo ∷ []
  pub stack : Stack left most begun outer xs
  pub is : IsLeft todo (left x)
  pub deep : begun + length xs + todo_groups todo ≤ most

module _ {X : Type 0} (left : X → Left) where
  pub pushed : (most begun : ℕ) (ts : List Todo) (xs : List X) (t : Todo) (x : X) → Stack left most begun ts xs → IsLeft t (left x)
      → begun + length xs + todo_groups t ≤ most → Stack left most begun (ts ++ t ∷ []) (xs ++ x ∷ [])
  pushed most begun [] [] t x s is deep = (is, omega arith, tt)
  pushed most begun [] (y ∷ ys) t x s is deep = absurd s
  pushed most begun (u ∷ us) [] t x s is deep = absurd s
  pushed most begun (u ∷ us) (y ∷ ys) t x s is deep = (s.0, s.1, pushed most (suc begun) us ys t x s.2 is (omega arith))

  pub popped : (most begun : ℕ) (ts : List Todo) (xs : List X) (x : X) → Stack left most begun ts (xs ++ x ∷ []) → Popped left most begun ts xs x
  popped most begun [] [] x s = absurd s
  popped most begun [] (y ∷ ys) x s = absurd s
  popped most begun (t ∷ []) [] x s = record { outer = []; todo = t; all = refl; stack = tt; is = s.0; deep = omega (arith, s.1) }
  popped most begun (t ∷ u ∷ us) [] x s = absurd s.2
  popped most begun (t ∷ ts) (y ∷ ys) x s =
      let p = popped most (suc begun) ts ys x s.2 in
      record {
        outer = t ∷ p.outer;
        todo = p.todo;
        all = ap (λ (us : List Todo). t ∷ us) p.all;
        stack = (s.0, s.1, p.stack);
        is = p.is;
        deep = omega (arith, p.deep);
      }

  pub bounded_push : (xs : List X) (x : X) → Bounded left xs → left_bound (left x) < 2 ^ 64 → Bounded left (xs ++ x ∷ [])
  bounded_push [] x b small = (small, tt)
  bounded_push (y ∷ ys) x b small = (b.0, bounded_push ys x b.1 small)

  pub bounded_pop : (xs : List X) (x : X) → Bounded left (xs ++ x ∷ []) → Bounded left xs × (left_bound (left x) < 2 ^ 64)
  bounded_pop [] x b = (tt, b.0)
  bounded_pop (y ∷ ys) x b = let p = bounded_pop ys x b.1 in ((b.0, p.0), p.1)

pub nothing_there : {X : Type 0} (xs : List X) → (0 < length xs → ⊥) → xs ≡ []
nothing_there [] h = refl
nothing_there (x ∷ xs) h = absurd (h (omega arith))
