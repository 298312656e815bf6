-- The decimal digits of a number below 10.
use Rattle.std.proofs.Common.{◌≡◌, ℕ, ◌+◌, ◌<◌, [], ◌∷◌, ap, arith, sym, ◌∙◌}
use Rattle.std.proofs.lemmas.Fmt.{decimal_digit}
use Rattle.std.specs.Fmt.{decimal}
use Rattle.replay_lines.proofs.numbers.digit.Goals as goal

one_digit : (number n : ℕ) → n < 10 → number ≡ n → (48 + n) ∷ [] ≡ decimal number
one_digit number n small is = sym (ap decimal is ∙ decimal_digit n small)

pub returns-in-0 : goal.returns-in-0
returns-in-0 c = one_digit c.args.number 0 (omega arith) c.in-0.is

pub returns-in-1 : goal.returns-in-1
returns-in-1 c = one_digit c.args.number 1 (omega arith) c.in-1.is

pub returns-in-2 : goal.returns-in-2
returns-in-2 c = one_digit c.args.number 2 (omega arith) c.in-2.is

pub returns-in-3 : goal.returns-in-3
returns-in-3 c = one_digit c.args.number 3 (omega arith) c.in-3.is

pub returns-in-4 : goal.returns-in-4
returns-in-4 c = one_digit c.args.number 4 (omega arith) c.in-4.is

pub returns-in-5 : goal.returns-in-5
returns-in-5 c = one_digit c.args.number 5 (omega arith) c.in-5.is

pub returns-in-6 : goal.returns-in-6
returns-in-6 c = one_digit c.args.number 6 (omega arith) c.in-6.is

pub returns-in-7 : goal.returns-in-7
returns-in-7 c = one_digit c.args.number 7 (omega arith) c.in-7.is

pub returns-in-8 : goal.returns-in-8
returns-in-8 c = one_digit c.args.number 8 (omega arith) c.in-8.is

pub returns-in-9 : goal.returns-in-9
returns-in-9 c = one_digit c.args.number 9 (omega arith) c.in-9.is
