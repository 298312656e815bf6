-- Words that are numbers: the number that their digits write, the tests of their faults, and the numbers that they spell.
use Rattle.std.proofs.Common.{◌≡◌, ℕ, zero, suc, ◌+◌, ◌-◌, ◌*◌, ◌<◌, ◌≤◌, ◌^◌, ◌&&◌, ◌==◌, Bool, true, false, List, [], ◌∷◌, length, drop, get_or, Some, None, ap, arith, inl, inr, sym, refl, ◌∙◌}
use Rattle.std.specs.Prelude.{nat_lt, nat_le}
use Rattle.std.specs.List.{list_all}
use Rattle.std.specs.Char.{is_ascii_digit, digit_value}
use Rattle.std.specs.Fmt.{decimal}
use Rattle.std.specs.Str.{all_ascii_digits}
use Rattle.std.specs.Str.Parse.{AllDigits, digits_value, digits_value_after}
use Rattle.std.proofs.lemmas.Bool.{eqb-true, ltb-true, lt-ltb, leb-true, le-leb, and_parts, and_from, or_cases, or_right, and_right, false_from_ne_true}
use Rattle.std.proofs.lemmas.Bool.Decides.{nat_tests}
use Rattle.std.proofs.lemmas.Str.Parse.{IsNumeralModel, numerals_by_value, tells_all_ascii_digits}
use Rattle.std.proofs.lemmas.Fmt.{decimal_digit, first_decimal, decimal_is_IsNumeral, decimal-digits_value}
use Rattle.replay_model.specs.Script.{IsNumber}
use Rattle.replay_model.specs.TextFault.{Checks, first_of, begins_plainly, is_numeral, value, number_fault}
use Rattle.replay_model.specs.declared.text_fault.TextFault.{TextFault}
use Rattle.replay_model.specs.declared.text_fault.TextFault.TheVariants as fault

some_byte : (w : List ℕ) → 48 < get_or w 0 0 → 0 < length w
some_byte [] h = absurd (omega arith)
some_byte (b ∷ bs) h = omega arith

own : IsNumeralModel (λ ds. all_ascii_digits ds ≡ true) (digits_value 10)
own = numerals_by_value _ tells_all_ascii_digits

same_digits : (w : List ℕ) → list_all is_ascii_digit w ≡ all_ascii_digits w
same_digits [] = refl
same_digits (b ∷ bs) = ap (λ t. is_ascii_digit b && t) (same_digits bs)

-- what a digit adds to the number that the digits before it write
digit_is : (c : ℕ) → digit_value c < 10 → (digit_value c ≡ c - 48) × (48 ≤ c)
digit_is c h = grind (arith, nat_tests)

next_digit : (ds : List ℕ) (i n : ℕ) → AllDigits 10 ds → i < length ds
    → digits_value_after 10 n (drop i ds) ≡ digits_value_after 10 (n * 10 + (get_or ds i 0 - 48)) (drop (suc i) ds)
next_digit [] i n a h = absurd (omega arith)
next_digit (c ∷ cs) zero n a h = ap (λ d. digits_value_after 10 (n * 10 + d) cs) (digit_is c a.0).0
next_digit (c ∷ cs) (suc i) n a h = next_digit cs i n a.1 (omega arith)

value-ge : (n : ℕ) (ds : List ℕ) → n ≤ digits_value_after 10 n ds
value-ge n [] = omega arith
value-ge n (c ∷ cs) = omega (arith, value-ge (n * 10 + digit_value c) cs)

pub at_end : (ds : List ℕ) (i n : ℕ) → length ds ≤ i → digits_value_after 10 n (drop i ds) ≡ n
at_end [] zero n h = refl
at_end [] (suc i) n h = refl
at_end (c ∷ cs) zero n h = absurd (omega arith)
at_end (c ∷ cs) (suc i) n h = at_end cs i n (omega arith)

module _ (w : List ℕ) (all : list_all is_ascii_digit w ≡ true) where
  digits : all_ascii_digits w ≡ true
  digits = sym (same_digits w) ∙ all

  all_digits : AllDigits 10 w
  all_digits = own.to w digits

  -- the digits from place i on, read behind the number of those before it
  pub goes_on : (i n : ℕ) → i < length w
      → digits_value_after 10 n (drop i w) ≡ digits_value_after 10 (n * 10 + (get_or w i 0 - 48)) (drop (i + 1) w)
  goes_on i n h = let one : i + 1 ≡ suc i = omega arith in rw one (next_digit w i n all_digits h)

  -- the number grows with each digit
  pub grows : (i n : ℕ) → i < length w → digits_value_after 10 n (drop i w) ≡ value w → n * 10 + (get_or w i 0 - 48) ≤ value w
  grows i n h e = omega (arith, e, goes_on i n h, value-ge (n * 10 + (get_or w i 0 - 48)) (drop (i + 1) w))

module _ (w : List ℕ) (numeral : is_numeral w ≡ true) where
  pub only_digits : list_all is_ascii_digit w ≡ true
  only_digits = (and_parts _ _ numeral).0

  plain : begins_plainly w ≡ true
  plain = (and_parts _ _ numeral).1

  pub some_digits : 0 < length w
  some_digits = elim (or_cases (length w == 1) (nat_lt 48 (get_or w 0 0)) plain) [
    | inl e ↦ let one = eqb-true _ _ e in omega arith
    | inr e ↦ some_byte w (ltb-true _ _ e)
  ]

  zero_alone : get_or w 0 0 ≡ 48 → length w ≡ 1
  zero_alone z = elim (or_cases (length w == 1) (nat_lt 48 (get_or w 0 0)) plain) [
    | inl e ↦ eqb-true _ _ e
    | inr e ↦ let above = ltb-true _ _ e in absurd (omega arith)
  ]

  pub is_decimal : value w < 2 ^ 64 → w ≡ decimal (value w)
  is_decimal small = sym (decimal-digits_value own w (digits w only_digits) some_digits zero_alone small)

pub numeral_from : (w : List ℕ) → list_all is_ascii_digit w ≡ true → begins_plainly w ≡ true → is_numeral w ≡ true
numeral_from w all plain = and_from (list_all is_ascii_digit w) (begins_plainly w) all plain

pub not_plain : (w : List ℕ) → begins_plainly w ≡ false → is_numeral w ≡ false
not_plain w e = and_right (list_all is_ascii_digit w) (begins_plainly w) e

-- tests in their order
pub passes : (f : TextFault) (b : Bool) (rows : Checks) → first_of ((f, b) ∷ rows) ≡ None → (b ≡ true) × (first_of rows ≡ None)
passes f true rows e = (refl, e)
passes f false rows e = absurd (cc)

module _ (low high : ℕ) (w : List ℕ) where
  pub no_numeral : is_numeral w ≡ false → number_fault low high w ≡ Some fault.Number
  unfolding number_fault
  no_numeral e = rw e refl

  pub within_range : is_numeral w ≡ true → low ≤ value w → value w ≤ high → number_fault low high w ≡ None
  unfolding number_fault
  within_range e below above = rw (e, le-leb _ _ below, le-leb _ _ above) refl

  pub out_of_range : is_numeral w ≡ true → (low ≤ value w → value w ≤ high → ⊥) → number_fault low high w ≡ Some fault.Range
  unfolding number_fault
  out_of_range e out =
      let off : (nat_le low (value w) && nat_le (value w) high) ≡ false = false_from_ne_true _ (λ t.
      let both = and_parts _ _ t in out (leb-true _ _ both.0) (leb-true _ _ both.1)) in
      rw (e, off) refl

  pub without_fault : number_fault low high w ≡ None → (is_numeral w ≡ true) × (low ≤ value w) × (value w ≤ high)
  unfolding number_fault
  without_fault e =
      let range = nat_le low (value w) && nat_le (value w) high in
      let first = passes fault.Number (is_numeral w) ((fault.Range, range) ∷ []) e in
      let second = passes fault.Range range [] first.1 in
      let both = and_parts _ _ second.0 in
      (first.0, leb-true _ _ both.0, leb-true _ _ both.1)

  -- a word without fault spells its number, and a word that spells a number has no fault
  pub spells_number : high < 2 ^ 64 → number_fault low high w ≡ None → IsNumber w low high (value w)
  spells_number small e =
      let h = without_fault e in
      record { digits = is_decimal w h.0 (omega arith); at_least = h.1; at_most = h.2 }

plain_decimal : (n : ℕ) → n < 2 ^ 64 → begins_plainly (decimal n) ≡ true
plain_decimal zero h = rw (decimal_digit 0 (omega arith)) refl
plain_decimal (suc n) h = or_right _ _ (lt-ltb _ _ (first_decimal (suc n) (omega arith) h))

numeral_decimal : (n : ℕ) → n < 2 ^ 64 → is_numeral (decimal n) ≡ true
numeral_decimal n h = and_from _ _ (same_digits (decimal n) ∙ own.from _ (decimal_is_IsNumeral n h).0.1) (plain_decimal n h)

pub spelled_number : (w : List ℕ) (low high n : ℕ) → high < 2 ^ 64 → IsNumber w low high n → (number_fault low high w ≡ None) × (n ≡ value w)
spelled_number w low high n small h =
    let at_least = h.at_least in
    let at_most = h.at_most in
    let below : n < 2 ^ 64 = omega arith in
    let same : value (decimal n) ≡ n = (decimal_is_IsNumeral n below).1 in
    rw h.digits (within_range low high (decimal n) (numeral_decimal n below) (rw same at_least) (rw same at_most), sym same)
