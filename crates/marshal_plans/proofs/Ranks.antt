-- A measure of what is left of groups in one another: those further out weigh more than all that stand in them.
use Rattle.std.proofs.Common.{◌≡◌, ◌<◌, ◌≤◌, ◌+◌, ◌-◌, ◌*◌, ◌^◌, ℕ, zero, suc, List, [], ◌∷◌, ◌++◌, length, ap, ◌∙◌, arith}
use Rattle.std.proofs.Math.Nat.{mul-le-mul_left, one-le-pow, pow-suc}

-- the numbers as digits below the base, the outermost first
unfoldable pub rank : ℕ → ℕ → List ℕ → ℕ
rank base place [] = 0
rank base place (n ∷ ns) = suc n * base ^ place + rank base (place - 1) ns

module _ (base : ℕ) (positive : 0 < base) where
  -- the last digit falls
  pub rank_along : (place : ℕ) (ns : List ℕ) (a b : ℕ) → a < b → rank base place (ns ++ a ∷ []) < rank base place (ns ++ b ∷ [])
  unfolding rank
  rank_along place [] a b less =
      let weight : 1 ≤ base ^ place = one-le-pow place base positive in
      let step : base ^ place * suc a ≤ base ^ place * b = mul-le-mul_left (base ^ place) (omega arith) in
      omega arith
  rank_along place (n ∷ ns) a b less = omega (arith, rank_along (place - 1) ns a b less)

  -- the last digit falls, and another one stands behind it
  pub rank_down : (place : ℕ) (ns : List ℕ) (a b n : ℕ) → a < b → suc n < base → suc (length ns) ≤ place
      → rank base place ((ns ++ a ∷ []) ++ n ∷ []) < rank base place (ns ++ b ∷ [])
  unfolding rank
  rank_down zero [] a b n less small room = absurd (omega arith)
  rank_down (suc q) [] a b n less small room =
      let weight : 1 ≤ base ^ (suc q - 1) = one-le-pow (suc q - 1) base positive in
      let same : q ≡ suc q - 1 = omega arith in
      let above : base ^ suc q ≡ base ^ (suc q - 1) * base = pow-suc base q ∙ ap (λ (k : ℕ). base ^ k * base) same in
      let top : base ^ suc q * suc a ≤ base ^ suc q * b = mul-le-mul_left (base ^ suc q) (omega arith) in
      let low : base ^ (suc q - 1) * suc (suc n) ≤ base ^ (suc q - 1) * base = mul-le-mul_left (base ^ (suc q - 1)) (omega arith) in
      omega arith
  rank_down place (m ∷ ns) a b n less small room = omega (arith, rank_down (place - 1) ns a b n less small (omega arith))

  -- the last digit goes
  pub rank_up : (place : ℕ) (ns : List ℕ) (n : ℕ) → rank base place ns < rank base place (ns ++ n ∷ [])
  unfolding rank
  rank_up place [] n =
      let weight : 1 ≤ base ^ place = one-le-pow place base positive in
      let least : base ^ place * 1 ≤ base ^ place * suc n = mul-le-mul_left (base ^ place) (omega arith) in
      omega arith
  rank_up place (m ∷ ns) n = omega (arith, rank_up (place - 1) ns n)
