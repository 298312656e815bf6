-- What holds of a total brought round to 16 bits: it is its own remainder by 65535, and 0 only for 0.
use Rattle.std.proofs.Common.{◌≡◌, ℕ, ◌+◌, ◌-◌, ◌*◌, ◌/◌, ◌%◌, ◌≤◌, ◌<◌, refl, sym, ◌∙◌, ap, add_comm, arith}
use Rattle.std.proofs.Math.Nat.{add-mul-mod_self_left}
use Rattle.std.proofs.lemmas.Bool.Decides.{nat_tests}
use Rattle.lane_checksum.specs.PlainSum.{reduced}

pub reduced-zero : reduced 0 ≡ 0
unfolding reduced
reduced-zero = refl

-- above 0, the numbers from 1 to 65535 come round and round
pub reduced-pred : (n : ℕ) → 0 < n → reduced n ≡ (n - 1) % 65535 + 1
unfolding reduced
reduced-pred n above = grind (arith, nat_tests)

pub reduced_bound : (n : ℕ) → reduced n ≤ 65535
unfolding reduced
reduced_bound n = grind (arith, nat_tests)

pub reduced_small : (n : ℕ) → n ≤ 65535 → reduced n ≡ n
unfolding reduced
reduced_small n small = grind (arith, nat_tests)

pub reduced-mod : (n : ℕ) → reduced n % 65535 ≡ n % 65535
unfolding reduced
reduced-mod n = grind (arith, nat_tests)

pub zero_from_reduced : (n : ℕ) → reduced n ≡ 0 → n ≡ 0
unfolding reduced
zero_from_reduced n e = grind (arith, nat_tests)

-- a number comes round to one number only
pub reduced_unique : (m n : ℕ) → m % 65535 ≡ n % 65535 → (m ≡ 0 → n ≡ 0) → (n ≡ 0 → m ≡ 0) → reduced m ≡ reduced n
unfolding reduced
reduced_unique m n same there back = grind (arith, nat_tests)

-- whole rounds change nothing above 0
pub reduced_round : (n m k : ℕ) → n ≡ m + 65535 * k → (m ≡ 0 → k ≡ 0) → reduced n ≡ reduced m
reduced_round n m k e none = reduced_unique n m (mod_round n m k e) (λ z. omega arith) (λ z. omega (arith, none z))
  where
    mod_round : (n m k : ℕ) → n ≡ m + 65535 * k → n % 65535 ≡ m % 65535
    mod_round n m k e = ap (λ x. x % 65535) e ∙ add-mul-mod_self_left m 65535 k

-- the rounds that were left out
rounds : ℕ → ℕ
rounds n = (n - 1) / 65535

whole_rounds : (n : ℕ) → n ≡ reduced n + 65535 * rounds n
unfolding reduced rounds
whole_rounds n = grind (arith, nat_tests)

no_rounds : (n : ℕ) → reduced n ≡ 0 → rounds n ≡ 0
unfolding rounds
no_rounds n e = ap (λ x. (x - 1) / 65535) (zero_from_reduced n e)

-- carries may be brought round before an addition or after it
pub reduced-add_left : (a b : ℕ) → reduced (reduced a + b) ≡ reduced (a + b)
reduced-add_left a b =
    sym (reduced_round (a + b) (reduced a + b) (rounds a) (omega (arith, whole_rounds a)) (λ z. no_rounds a (omega arith)))

pub reduced-add_right : (a b : ℕ) → reduced (a + reduced b) ≡ reduced (a + b)
reduced-add_right a b = ap reduced (add_comm a (reduced b)) ∙ reduced-add_left b a ∙ ap reduced (add_comm b a)

pub reduced-add_both : (a b : ℕ) → reduced (reduced a + reduced b) ≡ reduced (a + b)
reduced-add_both a b = reduced-add_left a (reduced b) ∙ reduced-add_right a b

-- and before a multiplication by 256, or after it
pub reduced-mul_256 : (a : ℕ) → reduced (256 * reduced a) ≡ reduced (256 * a)
reduced-mul_256 a =
    sym (reduced_round (256 * a) (256 * reduced a) (256 * rounds a) (omega (arith, whole_rounds a)) (λ z. omega (arith, no_rounds a (omega arith))))

-- a word above counts as one below
pub reduced-word : (a b : ℕ) → reduced (a + 65536 * b) ≡ reduced (a + b)
reduced-word a b = reduced_round (a + 65536 * b) (a + b) b (omega arith) (λ z. omega arith)

-- and so do two words
pub reduced-two_words : (a b : ℕ) → reduced (a + 4294967296 * b) ≡ reduced (a + b)
reduced-two_words a b = reduced_round (a + 4294967296 * b) (a + b) (65537 * b) (omega arith) (λ z. omega arith)
