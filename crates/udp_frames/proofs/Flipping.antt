-- A flipped bit moves its byte by the bit's weight, and the plain total of a text by the weight in the word.
use Rattle.std.proofs.Common.{◌≡◌, ◌≢◌, ℕ, zero, suc, ◌+◌, ◌-◌, ◌*◌, ◌/◌, ◌%◌, ◌^◌, ◌<◌, ◌≤◌, List, [], ◌∷◌, length, get_or, refl, sym, ap, subst, ◌∙◌, inl, inr, arith}
use Rattle.std.specs.Prelude.{bit_xor, bit_and}
use Rattle.std.specs.Int.{bit_at}
use Rattle.std.specs.Int.Bits.{xor_add_and}
use Rattle.std.proofs.lemmas.Bool.{cases_eq, cases_lt}
use Rattle.std.proofs.lemmas.Nat.{pow_pos}
use Rattle.std.proofs.lemmas.Nat.Bits.{and_pow, bit_at-lt}
use Rattle.std.proofs.Math.ListN.{set}
use Rattle.std.proofs.Math.Pow.{pow_mono}
use Rattle.lane_checksum.specs.PlainSum.{word_total}
use Rattle.udp_frames.specs.Damage.{AreApart, weight_of, flipped}

-- a bit is set, and is cleared, or it isn't, and is set
pub flip_moves : (n k : ℕ) → AreApart (2 ^ k) n (bit_xor n (2 ^ k))
flip_moves n k =
    let both : bit_xor n (2 ^ k) + bit_and n (2 ^ k) * 2 ≡ n + 2 ^ k = xor_add_and n (2 ^ k) in
    elim (cases_eq (bit_at n k) 0) [
      | inl clear ↦
          let none : bit_and n (2 ^ k) ≡ 0 = and_pow n k ∙ ap (λ (b : ℕ). b * 2 ^ k) clear ∙ omega arith in
          inl (omega arith)
      | inr there ↦
          let one : bit_at n k ≡ 1 = omega (arith, bit_at-lt n k) in
          let all : bit_and n (2 ^ k) ≡ 2 ^ k = and_pow n k ∙ ap (λ (b : ℕ). b * 2 ^ k) one ∙ omega arith in
          inr (omega arith)
    ]

-- numbers a weight apart differ
pub apart_differ : (k old new : ℕ) → AreApart (2 ^ k) old new → new ≢ old
apart_differ k old new (inl more) same = absurd (omega (arith, pow_pos k))
apart_differ k old new (inr less) same = absurd (omega (arith, pow_pos k))

-- the same apart, with more added, and with each counted 256 times
apart-add : (gap n old new : ℕ) → AreApart gap old new → AreApart gap (n + old) (n + new)
apart-add gap n old new (inl more) = inl (omega (arith, more))
apart-add gap n old new (inr less) = inr (omega (arith, less))

apart-behind : (gap n old new : ℕ) → AreApart gap old new → AreApart gap (old + n) (new + n)
apart-behind gap n old new (inl more) = inl (omega (arith, more))
apart-behind gap n old new (inr less) = inr (omega (arith, less))

apart-high : (gap old new : ℕ) → AreApart gap old new → AreApart (256 * gap) (256 * old) (256 * new)
apart-high gap old new (inl more) = inl (omega (arith, more))
apart-high gap old new (inr less) = inr (omega (arith, less))

-- how often the byte at a place counts in its word
pub scale_of : ℕ → ℕ
scale_of zero = 256
scale_of (suc zero) = 1
scale_of (suc (suc place)) = scale_of place

-- a byte of a text moved: the total moves with it
pub word_total-set : (bytes : List ℕ) (place new gap : ℕ) → place < length bytes → AreApart gap (get_or bytes place 0) new
    → AreApart (scale_of place * gap) (word_total bytes) (word_total (set bytes place new))
unfolding scale_of
word_total-set [] place new gap within moves = absurd (omega arith)
word_total-set (high ∷ []) zero new gap within moves =
    apart-behind (256 * gap) 0 (256 * high) (256 * new) (apart-high gap high new moves)
word_total-set (high ∷ []) (suc place) new gap within moves = absurd (omega arith)
word_total-set (high ∷ low ∷ rest) zero new gap within moves =
    apart-behind (256 * gap) (word_total rest) (256 * high + low) (256 * new + low)
    (apart-behind (256 * gap) low (256 * high) (256 * new) (apart-high gap high new moves))
word_total-set (high ∷ low ∷ rest) (suc zero) new gap within moves =
    let once : 1 * gap ≡ gap = omega arith in
    subst (λ (g : ℕ). AreApart g (256 * high + low + word_total rest) (256 * high + new + word_total rest)) (sym once)
    (apart-behind gap (word_total rest) (256 * high + low) (256 * high + new) (apart-add gap (256 * high) low new moves))
word_total-set (high ∷ low ∷ rest) (suc (suc place)) new gap within moves =
    apart-add (scale_of place * gap) (256 * high + low) (word_total rest) (word_total (set rest place new))
    (word_total-set rest place new gap (omega arith) moves)

pub scale-even : (place : ℕ) → place % 2 ≡ 0 → scale_of place ≡ 256
unfolding scale_of
scale-even zero even = refl
scale-even (suc zero) even = absurd (omega arith)
scale-even (suc (suc place)) even = scale-even place (omega arith)

pub scale-odd : (place : ℕ) → place % 2 ≡ 1 → scale_of place ≡ 1
unfolding scale_of
scale-odd zero odd = absurd (omega arith)
scale-odd (suc zero) odd = refl
scale-odd (suc (suc place)) odd = scale-odd place (omega arith)

-- the mask of a bit in its byte
pub mask_is : (k : ℕ) → k < 8 → 128 / 2 ^ k ≡ 2 ^ (7 - k)
mask_is zero within = refl
mask_is (suc zero) within = refl
mask_is (suc (suc zero)) within = refl
mask_is (suc (suc (suc zero))) within = refl
mask_is (suc (suc (suc (suc zero)))) within = refl
mask_is (suc (suc (suc (suc (suc zero))))) within = refl
mask_is (suc (suc (suc (suc (suc (suc zero)))))) within = refl
mask_is (suc (suc (suc (suc (suc (suc (suc zero))))))) within = refl
mask_is (suc (suc (suc (suc (suc (suc (suc (suc k)))))))) within = absurd (omega arith)

high_weight : (k : ℕ) → k < 8 → 256 * 2 ^ (7 - k) ≡ 2 ^ (15 - k)
high_weight zero within = refl
high_weight (suc zero) within = refl
high_weight (suc (suc zero)) within = refl
high_weight (suc (suc (suc zero))) within = refl
high_weight (suc (suc (suc (suc zero)))) within = refl
high_weight (suc (suc (suc (suc (suc zero))))) within = refl
high_weight (suc (suc (suc (suc (suc (suc zero)))))) within = refl
high_weight (suc (suc (suc (suc (suc (suc (suc zero))))))) within = refl
high_weight (suc (suc (suc (suc (suc (suc (suc (suc k)))))))) within = absurd (omega arith)

-- the weight in the word is that in the byte, as often as the byte counts
weight_is : (bit : ℕ) → scale_of (bit / 8) * 2 ^ (7 - bit % 8) ≡ weight_of bit
weight_is bit =
    elim (cases_lt (bit % 16) 8) [
      | inl high ↦
          let same : bit % 8 ≡ bit % 16 = omega arith in
          let scale : scale_of (bit / 8) ≡ 256 = scale-even (bit / 8) (omega arith) in
          ap (λ (s : ℕ). s * 2 ^ (7 - bit % 8)) scale ∙ high_weight (bit % 8) (omega arith) ∙ ap (λ (k : ℕ). 2 ^ (15 - k)) same
      | inr low ↦
          let same : 7 - bit % 8 ≡ 15 - bit % 16 = omega arith in
          let scale : scale_of (bit / 8) ≡ 1 = scale-odd (bit / 8) (omega arith) in
          let once : 1 * 2 ^ (7 - bit % 8) ≡ 2 ^ (7 - bit % 8) = omega arith in
          ap (λ (s : ℕ). s * 2 ^ (7 - bit % 8)) scale ∙ once ∙ ap (λ (k : ℕ). 2 ^ k) same
    ]

-- the byte of a flipped bit moves by the bit's weight in the byte
pub byte_moves : (bytes : List ℕ) (bit : ℕ)
    → AreApart (2 ^ (7 - bit % 8)) (get_or bytes (bit / 8) 0) (bit_xor (get_or bytes (bit / 8) 0) (128 / 2 ^ (bit % 8)))
byte_moves bytes bit =
    let old : ℕ = get_or bytes (bit / 8) 0 in
    subst (λ (mask : ℕ). AreApart (2 ^ (7 - bit % 8)) old (bit_xor old mask)) (sym (mask_is (bit % 8) (omega arith)))
    (flip_moves old (7 - bit % 8))

-- and the total by its weight in the word
pub total_moves : (bytes : List ℕ) (bit : ℕ) → bit < 8 * length bytes
    → AreApart (weight_of bit) (word_total bytes) (word_total (flipped bytes bit))
total_moves bytes bit within =
    subst (λ (gap : ℕ). AreApart gap (word_total bytes) (word_total (flipped bytes bit))) (weight_is bit)
    (word_total-set bytes (bit / 8) (bit_xor (get_or bytes (bit / 8) 0) (128 / 2 ^ (bit % 8))) (2 ^ (7 - bit % 8)) (omega arith)
    (byte_moves bytes bit))

-- a power of two below 65535 is its own remainder
pub power_divides_not : (k : ℕ) → k ≤ 15 → 2 ^ k % 65535 ≢ 0
power_divides_not k small divides =
    let above = pow_pos k in
    let below : 2 ^ k ≤ 2 ^ 15 = pow_mono small in
    absurd (omega (arith, above, below))

-- totals that are such a weight apart have two remainders
pub apart_remainders : (gap old new : ℕ) → AreApart gap old new → gap % 65535 ≢ 0 → new % 65535 ≢ old % 65535
apart_remainders gap old new (inl more) weight same = weight (omega (arith, more, same))
apart_remainders gap old new (inr less) weight same = weight (omega (arith, less, same))
