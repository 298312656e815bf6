-- The total in lanes: a lane takes 32 bits of the text, low byte first, and no carry of it is lost.
use Rattle.std.proofs.Common.{◌≡◌, ℕ, ◌+◌, ◌*◌, ◌/◌, ◌%◌, ◌^◌, ◌<◌, ◌≤◌, List, [], ◌∷◌, length, Fits, w8, zero, suc, refl, sym, ◌∙◌, ap, subst, arith}
use Rattle.std.proofs.Math.Nat.{pow-suc}
use Rattle.std.proofs.lemmas.Simd.{sum-zip2, below_from_Fits}
use Rattle.std.specs.Simd.Lanes.{Each1, zip2, sum_l, number_l, digits_l}
use Rattle.lane_checksum.specs.PlainSum.{word_total, csum, reduced}
use Rattle.lane_checksum.proofs.Reduced.{reduced_small, reduced-add_right, reduced-add_both, reduced-mul_256, reduced-word, reduced-two_words}

-- the number that a text spells, low byte first, has the text's sum but for the order of its two bytes
pub csum-number_l : (b : List ℕ) → reduced (256 * number_l 256 b) ≡ csum b
csum-number_l [] = refl
csum-number_l (a ∷ []) = ap reduced (omega arith)
csum-number_l (a ∷ b ∷ rest) =
    let n = number_l 256 rest in
    let spelled : 256 * number_l 256 (a ∷ b ∷ rest) ≡ 256 * a + 65536 * (b + 256 * n) = omega arith in
    let regrouped : 256 * a + (b + 256 * n) ≡ 256 * a + b + 256 * n = omega arith in
    ap reduced spelled
    ∙ reduced-word (256 * a) (b + 256 * n)
    ∙ ap reduced regrouped
    ∙ sym (reduced-add_right (256 * a + b) (256 * n))
    ∙ ap (λ s. reduced (256 * a + b + s)) (csum-number_l rest)
    ∙ reduced-add_right (256 * a + b) (word_total rest)

number_l-lt : (b : List ℕ) → Each1 (λ x. x < 256) b → number_l 256 b < 256 ^ length b
number_l-lt [] below = omega arith
number_l-lt (a ∷ rest) below =
    omega (arith, pow-suc 256 (length rest), number_l-lt rest below.1, below.0)

-- and a number has the sum of its digits by 2^32
pub reduced-digits : (k n : ℕ) → n < 4294967296 ^ k → reduced (sum_l (digits_l 4294967296 k n)) ≡ reduced n
reduced-digits zero n lt = ap reduced (omega arith)
reduced-digits (suc k) n lt =
    let low = n % 4294967296 in
    let high = n / 4294967296 in
    let whole : low + 4294967296 * high ≡ n = omega arith in
    sym (reduced-add_right low (sum_l (digits_l 4294967296 k high)))
    ∙ ap (λ s. reduced (low + s)) (reduced-digits k high (omega (arith, pow-suc 4294967296 k)))
    ∙ reduced-add_right low high
    ∙ sym (reduced-two_words low high)
    ∙ ap reduced whole

-- eight digits add little to the lanes
pub digits_bound : (k n : ℕ) → sum_l (digits_l 4294967296 k n) ≤ k * 4294967295
digits_bound zero n = omega arith
digits_bound (suc k) n = omega (arith, digits_bound k (n / 4294967296))

length-digits : (k n : ℕ) → length (digits_l 4294967296 k n) ≡ k
length-digits zero n = refl
length-digits (suc k) n = ap (λ m. suc m) (length-digits k (n / 4294967296))

-- the lanes of one step over a chunk
abbrev pub lanes_of : List ℕ → List ℕ
lanes_of chunk = digits_l 4294967296 8 (number_l 256 chunk)

spelled_bound : (chunk : List ℕ) → length chunk ≡ 32 → Each1 (Fits w8) chunk → number_l 256 chunk < 4294967296 ^ 8
spelled_bound chunk long fits =
    let below : ℕ → Type 0 = λ m. number_l 256 chunk < 256 ^ m in
    subst below long (number_l-lt chunk (below_from_Fits w8 chunk fits))

reduced-lanes_of : (chunk : List ℕ) → length chunk ≡ 32 → Each1 (Fits w8) chunk → reduced (256 * sum_l (lanes_of chunk)) ≡ csum chunk
reduced-lanes_of chunk long fits =
    sym (reduced-mul_256 (sum_l (lanes_of chunk)))
    ∙ ap (λ s. reduced (256 * s)) (reduced-digits 8 (number_l 256 chunk) (spelled_bound chunk long fits))
    ∙ reduced-mul_256 (number_l 256 chunk)
    ∙ csum-number_l chunk

-- one step more
pub sum-lanes_of : (lanes chunk : List ℕ) → length lanes ≡ 8 → sum_l (zip2 (λ a b. a + b) lanes (lanes_of chunk)) ≡ sum_l lanes + sum_l (lanes_of chunk)
sum-lanes_of lanes chunk eight = sum-zip2 lanes (lanes_of chunk) (eight ∙ sym (length-digits 8 (number_l 256 chunk)))

pub reduced_step : (lanes chunk : List ℕ) (before : ℕ) → length lanes ≡ 8 → length chunk ≡ 32 → Each1 (Fits w8) chunk → reduced (256 * sum_l lanes) ≡ reduced before → reduced (256 * sum_l (zip2 (λ a b. a + b) lanes (lanes_of chunk))) ≡ reduced (before + word_total chunk)
reduced_step lanes chunk before eight long fits so_far =
    let more = sum_l (lanes_of chunk) in
    let apart : 256 * sum_l (zip2 (λ a b. a + b) lanes (lanes_of chunk)) ≡ 256 * sum_l lanes + 256 * more = omega (arith, sum-lanes_of lanes chunk eight) in
    ap reduced apart
    ∙ sym (reduced-add_both (256 * sum_l lanes) (256 * more))
    ∙ ap (λ s. reduced (s + reduced (256 * more))) so_far
    ∙ ap (λ s. reduced (reduced before + s)) (reduced-lanes_of chunk long fits)
    ∙ reduced-add_both before (word_total chunk)

-- a sum of two swapped bytes
pub reduced-swapped : (n : ℕ) → n < 65536 → reduced (256 * n) ≡ n % 256 * 256 + n / 256 % 256
reduced-swapped n small =
    let spelled : 256 * n ≡ n % 256 * 256 + 65536 * (n / 256) = omega arith in
    ap reduced spelled
    ∙ reduced-word (n % 256 * 256) (n / 256)
    ∙ reduced_small (n % 256 * 256 + n / 256) (omega arith)
    ∙ omega arith
