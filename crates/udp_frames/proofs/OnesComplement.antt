-- What makes a one's complement sum 65535, and that one flipped bit keeps it from being so.
use Rattle.std.proofs.Common.{◌≡◌, ◌≢◌, ℕ, zero, suc, ◌+◌, ◌-◌, ◌*◌, ◌%◌, ◌^◌, ◌<◌, ◌≤◌, List, length, get_or, refl, sym, subst, ◌∙◌, inl, inr, arith}
use Rattle.std.proofs.lemmas.Bool.{cases_eq, eq-eqb, ne_eqb}
use Rattle.std.proofs.lemmas.Nat.{pow_pos}
use Rattle.std.proofs.Math.Pow.{pow_mono}
use Rattle.std.proofs.Math.ListN.{set}
use Rattle.lane_checksum.specs.PlainSum.{word_total, reduced, csum, finish_of}
use Rattle.udp_frames.specs.Damage.{AreApart}
use Rattle.udp_frames.proofs.Flipping.{scale_of, scale-even, scale-odd, word_total-set, apart_remainders}

-- a total above 0 that 65535 divides
pub reduced-full : (n : ℕ) → 0 < n → n % 65535 ≡ 0 → reduced n ≡ 65535
unfolding reduced
reduced-full n above divides =
    rw (ne_eqb n 0 (omega arith), eq-eqb (n % 65535) 0 divides) refl

pub full_reduced : (n : ℕ) → reduced n ≡ 65535 → n % 65535 ≡ 0
unfolding reduced
full_reduced n full =
    elim (cases_eq (n % 65535) 0) [
      | inl divides ↦ divides
      | inr other ↦
          let not_zero : n ≢ 0 = λ is_zero. other (omega arith) in
          let value : n % 65535 ≡ 65535 = rw (ne_eqb n 0 not_zero, ne_eqb (n % 65535) 0 other) at full in
          absurd (omega arith)
    ]

pub reduced-rem : (n : ℕ) → 0 < n % 65535 → reduced n ≡ n % 65535
unfolding reduced
reduced-rem n above = rw (ne_eqb n 0 (omega arith), ne_eqb (n % 65535) 0 (omega arith)) refl

-- a total with the complement of its sum added
pub complement-full : (n : ℕ) → 0 < n → reduced (n + (65535 - reduced n)) ≡ 65535
complement-full n above =
    elim (cases_eq (n % 65535) 0) [
      | inl divides ↦
          let full = reduced-full n above divides in
          reduced-full (n + (65535 - reduced n)) (omega arith) (omega (arith, full))
      | inr other ↦
          let rest : reduced n ≡ n % 65535 = reduced-rem n (omega arith) in
          reduced-full (n + (65535 - reduced n)) (omega arith) (omega (arith, rest))
    ]

-- a total with the checksum field of its sum added
pub finish_of-full : (n : ℕ) → reduced (n + finish_of (reduced n)) ≡ 65535
unfolding finish_of reduced
finish_of-full zero = refl
finish_of-full (suc m) =
    let n = suc m in
    elim (cases_eq (n % 65535) 0) [
      | inl divides ↦
          let full : reduced n ≡ 65535 = reduced-full n (omega arith) divides in
          rw full (reduced-full (n + 65535) (omega arith) (omega arith))
      | inr other ↦
          let rest : reduced n ≡ n % 65535 = reduced-rem n (omega arith) in
          let field : finish_of (n % 65535) ≡ 65535 - n % 65535 = rw (ne_eqb (65535 - n % 65535) 0 (omega arith)) refl in
          rw (rest, field) (reduced-full (n + (65535 - n % 65535)) (omega arith) (omega arith))
    ]

-- the weight of a bit of a byte, in the word: no multiple of 65535
weight_divides_not : (place bit : ℕ) → bit < 8 → scale_of place * 2 ^ bit % 65535 ≢ 0
weight_divides_not place bit low divides =
    let above = pow_pos bit in
    let below : 2 ^ bit ≤ 2 ^ 7 = pow_mono (let small : bit ≤ 7 = omega arith in small) in
    elim (cases_eq (place % 2) 0) [
      | inl even ↦
          let value : 256 * 2 ^ bit % 65535 ≡ 0 = subst (λ (s : ℕ). s * 2 ^ bit % 65535 ≡ 0) (scale-even place even) divides in
          absurd (omega (arith, above, below, value))
      | inr odd ↦
          let value : 1 * 2 ^ bit % 65535 ≡ 0 = subst (λ (s : ℕ). s * 2 ^ bit % 65535 ≡ 0) (scale-odd place (omega arith)) divides in
          absurd (omega (arith, above, below, value))
    ]

-- a text whose sum is 65535, with one bit of a byte flipped
pub csum-set : (bytes : List ℕ) (place new bit : ℕ) → place < length bytes → bit < 8 → AreApart (2 ^ bit) (get_or bytes place 0) new
    → csum bytes ≡ 65535 → csum (set bytes place new) ≢ 65535
csum-set bytes place new bit within low moves full same =
    let apart = word_total-set bytes place new (2 ^ bit) within moves in
    apart_remainders (scale_of place * 2 ^ bit) (word_total bytes) (word_total (set bytes place new)) apart (weight_divides_not place bit low)
    (full_reduced (word_total (set bytes place new)) same ∙ sym (full_reduced (word_total bytes) full))
