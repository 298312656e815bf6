-- The number so far is that of a front of the word, and grows with each digit; so where it has no room in 32 bits the whole has none.
use Rattle.std.proofs.Common.{◌≡◌, ◌∙◌, ◌+◌, ◌*◌, ◌-◌, get_or, refl, sym, ap, arith, subst, true, List, ℕ}
use Rattle.std.specs.List.{list_all}
use Rattle.std.specs.Char.{is_ascii_digit}
use Rattle.std.specs.Str.Parse.{digits_value_after}
use Rattle.std.specs.Prelude.{drop}
use Rattle.std.proofs.lemmas.Bool.{and_from, both_ways}
use Rattle.std.proofs.lemmas.List.{take_all}
use Rattle.std.proofs.lemmas.List.Folds.{list_all_at, list_all_more}
use Rattle.script_text.proofs.Numbers.{at_end, goes_on, grows}
use Rattle.script_text.proofs.number.value_of.Goals as goal

pub loop-byte-init : goal.loop-byte-init
loop-byte-init c = record { so_far = refl; rest_writes = λ all. refl }

pub returns-then-not-is_ascii_digit : goal.returns-then-not-is_ascii_digit
returns-then-not-is_ascii_digit c = λ all.
    let other = list_all_at is_ascii_digit c.args.word.now c.loop-byte.byte-index 0 c.loop-byte-test.true (sym c.is_ascii_digit.ensures.value ∙ c.if-not-is_ascii_digit.true) in
    absurd (both_ways _ other all)

pub returns-in_err-checked_mul : goal.returns-in_err-checked_mul
returns-in_err-checked_mul c =
    let over = c.in_err-checked_mul.ensures in
    rw c.from_residual.ensures (λ all.
    let larger = grows c.args.word.now all c.loop-byte.byte-index c.loop-byte.value c.loop-byte-test.true (c.loop-byte.invariant.rest_writes all) in
    omega (arith, larger, over))

pub returns-in_err-value : goal.returns-in_err-value
returns-in_err-value c =
    let product = c.in_ok-checked_mul.ensures.1 in
    let digit = c.from.ensures in
    let over = c.in_err-value.ensures in
    rw c.from_residual-in_err-value.ensures (λ all.
    let larger = grows c.args.word.now all c.loop-byte.byte-index c.loop-byte.value c.loop-byte-test.true (c.loop-byte.invariant.rest_writes all) in
    omega (arith, larger, product, digit, over))

pub loop-byte-preserved : goal.loop-byte-preserved
loop-byte-preserved c =
    let word = c.args.word.now in
    let i = c.loop-byte.byte-index in
    let product = c.in_ok-checked_mul.ensures.1 in
    let digit = c.from.ensures in
    let sum = c.in_ok-value.ensures.1 in
    let value : c.in_ok-value.value ≡ c.loop-byte.value * 10 + (get_or word i 0 - 48) = omega (arith, product, digit, sum) in
    record {
      so_far = list_all_more is_ascii_digit word i 0 c.loop-byte-test.true
          ∙ and_from _ _ c.loop-byte.invariant.so_far (sym c.is_ascii_digit.ensures.value ∙ c.if-not-is_ascii_digit.false);
      rest_writes = λ all.
          ap (λ n. digits_value_after 10 n (drop (i + 1) word)) value
          ∙ sym (goes_on word all i c.loop-byte.value c.loop-byte-test.true) ∙ c.loop-byte.invariant.rest_writes all;
    }

pub returns : goal.returns
returns c =
    let word = c.args.word.now in
    let P : List ℕ → Type 0 = λ w. list_all is_ascii_digit w ≡ true in
    let all = subst P (take_all c.loop-byte.byte-index word c.loop-byte-test.false) c.loop-byte.invariant.so_far in
    (all, sym (at_end word c.loop-byte.byte-index c.loop-byte.value c.loop-byte-test.false) ∙ c.loop-byte.invariant.rest_writes all)
