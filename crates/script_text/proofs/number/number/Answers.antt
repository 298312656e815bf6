-- A word is refused that is no numeral, and one whose number has too many bits or is out of range.
use Rattle.std.proofs.Common.{arith, sym, ◌∙◌}
use Rattle.script_text.proofs.Numbers.{no_numeral, within_range, out_of_range, only_digits, numeral_from, not_plain}
use Rattle.script_text.proofs.number.number.Goals as goal
use Rattle.script_text.proofs.number.number.Goals.{else-low-n-via-then-low-n+else-n-high, else-low-n-via-else-low-n}

pub returns-then-is_numeral-clause-reads : goal.returns-then-is_numeral-clause-reads
returns-then-is_numeral-clause-reads c =
    let numeral = sym c.is_numeral.ensures ∙ c.if-is_numeral.true in
    let large = c.in_default.ensures (only_digits c.args.word.now numeral) in
    out_of_range _ _ c.args.word.now numeral (λ a b. omega (arith, large))

pub returns-in_default-clause-reads : goal.returns-in_default-clause-reads
returns-in_default-clause-reads c = no_numeral _ _ c.args.word.now (sym c.is_numeral.ensures ∙ c.if-is_numeral.false)

pub returns-then-not-begins_plainly-clause-reads : goal.returns-then-not-begins_plainly-clause-reads
returns-then-not-begins_plainly-clause-reads c = no_numeral _ _ c.args.word.now (not_plain c.args.word.now (sym c.begins_plainly.ensures ∙ c.if-not-begins_plainly.true))

pub returns-then-n-high-clause-reads : goal.returns-then-n-high-clause-reads
returns-then-n-high-clause-reads c =
    let numeral = numeral_from c.args.word.now c.in-Some.ensures.0 (sym c.begins_plainly.ensures ∙ c.if-not-begins_plainly.false) in
    let same = c.in-Some.ensures.1 in
    (within_range _ _ c.args.word.now numeral (omega arith) (omega arith), same)

pub returns-else-low-n-clause-reads : goal.returns-else-low-n-clause-reads
returns-else-low-n-clause-reads c =
    let numeral = numeral_from c.args.word.now c.in-Some.ensures.0 (sym c.begins_plainly.ensures ∙ c.if-not-begins_plainly.false) in
    let same = c.in-Some.ensures.1 in
    out_of_range _ _ c.args.word.now numeral (λ below above. elim c.else-low-n.branch [ else-low-n-via-then-low-n+else-n-high w ↦ omega arith | else-low-n-via-else-low-n w ↦ omega arith ])
