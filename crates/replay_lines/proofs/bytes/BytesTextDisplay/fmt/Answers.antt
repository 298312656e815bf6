use Rattle.std.proofs.Common.{◌≡◌, ℕ, ◌/◌, ◌%◌, [], ◌∷◌, ap, ◌∙◌, arith}
use Rattle.std.proofs.Output.{has_written_of_eq}
use Rattle.replay_lines.proofs.Texts.{short_text, long_text}
use Rattle.replay_lines.proofs.bytes.BytesTextDisplay.fmt.Goals as goal

pub returns-then-len-le-HEAD_LEN-clause-writes : goal.returns-then-len-le-HEAD_LEN-clause-writes
returns-then-len-le-HEAD_LEN-clause-writes g c = λ plain ok.
    has_written_of_eq _ _ _ _ _ (short_text c.args.self.now.0 c.if-len-le-HEAD_LEN.true c.whole_text.result.now c.whole_text.ensures)
    (c.write.ensures.writes plain ok)

pub returns-else-len-le-HEAD_LEN-clause-writes : goal.returns-else-len-le-HEAD_LEN-clause-writes
returns-else-len-le-HEAD_LEN-clause-writes g c = λ plain ok.
    let sum : ℕ = c.args.self.now.0.sum in
    let high : sum / 256 % 256 ≡ sum / 256 = grind arith in
    has_written_of_eq _ _ _ _ _ (long_text c.args.self.now.0 c.if-len-le-HEAD_LEN.false c.to_be_bytes.result
    (c.to_be_bytes.ensures ∙ ap (λ (n : ℕ). n ∷ sum % 256 ∷ []) high))
    (c.write-else-len-le-HEAD_LEN.ensures.writes plain ok)
