use Rattle.std.proofs.Common.{◌∙◌, ap, map, string_bytes}
use Rattle.command_words.specs.Words.{are_taken}
use Rattle.ffrpc.proofs.command.run_words.Goals as goal

pub returns-in-Err-clause-line : goal.returns-in-Err-clause-line
returns-in-Err-clause-line g c = λ _. rw c.end_with.ensures.same c.end_with.ensures.line

pub returns-in-Ok-clause-refused_line : goal.returns-in-Ok-clause-refused_line
returns-in-Ok-clause-refused_line g c =
    rw c.in-Ok.is (λ refused. c.ffrpc.ensures.refused_line (ap (λ ws. are_taken (map string_bytes ws)) c.deref.ensures.value ∙ refused))
