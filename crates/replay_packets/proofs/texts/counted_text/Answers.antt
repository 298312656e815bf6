-- Whole periods stand behind the count, and a front of one more.
use Rattle.std.proofs.Common.{rules, ◌≡◌, ℕ, List, [], ◌∷◌, ◌++◌, ◌+◌, ◌*◌, ◌/◌, ◌%◌, take, length, ap, ◌∙◌, append_assoc, arith}
use Rattle.replay_model.specs.Service.{text_of}
use Rattle.replay_packets.proofs.LongTexts.{text_none, text_length, periods_join, text_front}
use Rattle.replay_packets.proofs.texts.counted_text.Goals as goal

pub loop-whole-init : goal.loop-whole-init
loop-whole-init c = text_none c.extend_from_slice.new.self.items

pub loop-whole-preserved : goal.loop-whole-preserved
loop-whole-preserved c =
    let front = c.extend_from_slice.new.self.items in
    let whole = c.loop-whole._whole in
    let one : 251 * whole + 251 ≡ 251 * (whole + 1) = omega arith in
    c.in_ok-extend_from_slice-2.ensures.items
    ∙ ap (λ t. t ++ c.period-period.result) c.loop-whole.invariant
    ∙ ap (λ t. (front ++ text_of (251 * whole)) ++ t) c.period-period.ensures
    ∙ append_assoc front (text_of (251 * whole)) (text_of 251)
    ∙ ap (λ t. front ++ t) (periods_join whole 251 ∙ ap text_of one)

-- what stands behind the count in the end
text_is : (front : List ℕ) (count whole : ℕ) (period before after : List ℕ) → period ≡ text_of 251 → whole ≡ count / 251
    → before ≡ front ++ text_of (251 * whole) → after ≡ before ++ take (count % 251) period → after ≡ front ++ text_of count
text_is front count whole period before after is_text is_whole is_before is_after =
    let rest = count % 251 in
    let all : 251 * whole + rest ≡ count = omega (arith, is_whole) in
    is_after
    ∙ ap (λ t. t ++ take rest period) is_before
    ∙ ap (λ t. (front ++ text_of (251 * whole)) ++ take rest t) is_text
    ∙ ap (λ t. (front ++ text_of (251 * whole)) ++ t) (text_front 251 rest (omega arith))
    ∙ append_assoc front (text_of (251 * whole)) (text_of rest)
    ∙ ap (λ t. front ++ t) (periods_join whole rest ∙ ap text_of all)

pub returns-clause-text : goal.returns-clause-text
returns-clause-text c =
    let front = c.extend_from_slice.new.self.items in
    let whole : c.loop-whole._whole ≡ c.args.count / 251 = omega (arith, c.loop-whole.auto._whole-end, c.loop-whole-test.false) in
    let text = text_is front c.args.count c.loop-whole._whole c.period-period.result c.loop-whole.text.items c.extend_from_slice-2.new.self.items
    c.period-period.ensures whole c.loop-whole.invariant c.in_ok-extend_from_slice-3.ensures.items in
    let n = c.args.count in
    let counted : front ≡ n / 16777216 % 256 ∷ n / 65536 % 256 ∷ n / 256 % 256 ∷ n % 256 ∷ [] = search rules in
    text ∙ ap (λ (f : List ℕ). f ++ text_of n) counted

pub returns-clause-length : goal.returns-clause-length
returns-clause-length c =
    let front = c.extend_from_slice.new.self.items in
    let whole : c.loop-whole._whole ≡ c.args.count / 251 = omega (arith, c.loop-whole.auto._whole-end, c.loop-whole-test.false) in
    let text = text_is front c.args.count c.loop-whole._whole c.period-period.result c.loop-whole.text.items c.extend_from_slice-2.new.self.items
    c.period-period.ensures whole c.loop-whole.invariant c.in_ok-extend_from_slice-3.ensures.items in
    let four : length front ≡ 4 = grind arith in
    let long = text_length front c.args.count in
    let same = ap (λ (t : List ℕ). length t) text in
    omega (arith, four, long, same)
