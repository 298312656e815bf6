-- How the sums of texts go together.
use Rattle.std.proofs.Common.{◌≡◌, ℕ, ◌+◌, ◌/◌, ◌%◌, ◌≤◌, List, [], ◌∷◌, ◌++◌, length, replicate, zero, suc, refl, sym, ◌∙◌, ap, arith}
use Rattle.std.proofs.lemmas.Bool.Decides.{nat_tests}
use Rattle.lane_checksum.specs.PlainSum.{word_total, csum, reduced, finish_of}
use Rattle.lane_checksum.proofs.Reduced.{reduced_bound, reduced-zero, reduced-mod, zero_from_reduced, reduced-add_left, reduced-add_both}

-- a text behind a front of an even length keeps its words
pub word_total-append : (x y : List ℕ) → length x % 2 ≡ 0 → word_total (x ++ y) ≡ word_total x + word_total y
word_total-append [] y even = omega arith
word_total-append (a ∷ []) y even = omega arith
word_total-append (a ∷ b ∷ x) y even = omega (arith, word_total-append x y (omega arith))

pub csum-append : (x y : List ℕ) → length x % 2 ≡ 0 → csum (x ++ y) ≡ reduced (csum x + csum y)
csum-append x y even =
    ap reduced (word_total-append x y even) ∙ sym (reduced-add_both (word_total x) (word_total y))

-- the checksum field of a text brings its sum to 65535
field_total : (front back : List ℕ) (field : ℕ) → length front % 2 ≡ 0 → word_total (front ++ field / 256 ∷ field % 256 ∷ back) ≡ word_total (front ++ 0 ∷ 0 ∷ back) + field
field_total front back field even =
    omega (arith, word_total-append front (field / 256 ∷ field % 256 ∷ back) even, word_total-append front (0 ∷ 0 ∷ back) even)

pub finish_of_fills : (sum : ℕ) → sum ≤ 65535 → reduced (sum + finish_of sum) ≡ 65535
unfolding reduced finish_of
finish_of_fills sum small = grind (arith, nat_tests)

pub csum_filled : (front back : List ℕ) (sum : ℕ) → length front % 2 ≡ 0 → csum (front ++ 0 ∷ 0 ∷ back) ≡ sum → csum (front ++ finish_of sum / 256 ∷ finish_of sum % 256 ∷ back) ≡ 65535
csum_filled front back sum even e =
    ap reduced (field_total front back (finish_of sum) even)
    ∙ sym (reduced-add_left (word_total (front ++ 0 ∷ 0 ∷ back)) (finish_of sum))
    ∙ ap (λ s. reduced (s + finish_of sum)) e
    ∙ finish_of_fills sum (omega (arith, reduced_bound (word_total (front ++ 0 ∷ 0 ∷ back))))

-- the total is 0 for a text of zeros, and for no other
pub word_total-zeros : (n : ℕ) → word_total (replicate n 0) ≡ 0
word_total-zeros zero = refl
word_total-zeros (suc zero) = refl
word_total-zeros (suc (suc n)) = omega (arith, word_total-zeros n)

zeros_from_word_total : (text : List ℕ) → word_total text ≡ 0 → text ≡ replicate (length text) 0
zeros_from_word_total [] e = refl
zeros_from_word_total (a ∷ []) e =
    let none : a ≡ 0 = omega arith in ap (λ x. x ∷ []) none
zeros_from_word_total (a ∷ b ∷ rest) e =
    let first : a ≡ 0 = omega arith in
    let second : b ≡ 0 = omega arith in
    let others : word_total rest ≡ 0 = omega arith in
    ap (λ x. x ∷ b ∷ rest) first
    ∙ ap (λ x. 0 ∷ x ∷ rest) second
    ∙ ap (λ l. 0 ∷ 0 ∷ l) (zeros_from_word_total rest others)

pub csum-zeros : (n : ℕ) → csum (replicate n 0) ≡ 0
csum-zeros n = ap reduced (word_total-zeros n) ∙ reduced-zero

pub zeros_from_csum : (text : List ℕ) → csum text ≡ 0 → text ≡ replicate (length text) 0
zeros_from_csum text e = zeros_from_word_total text (zero_from_reduced (word_total text) e)

-- texts with the same sum
pub word_total-same : (x y : List ℕ) → csum x ≡ csum y → word_total x % 65535 ≡ word_total y % 65535
word_total-same x y e =
    sym (reduced-mod (word_total x)) ∙ ap (λ s. s % 65535) e ∙ reduced-mod (word_total y)
