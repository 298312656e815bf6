-- The text is cut at its first newline, with the carriage return before it, or is one line.
use Rattle.std.proofs.Common.{◌∙◌, sym}
use Rattle.script_text.proofs.FirstLine.{line_at, last_line}
use Rattle.script_text.proofs.lines.first_line.Goals as goal

pub returns-in-Some-clause-lines : goal.returns-in-Some-clause-lines
returns-in-Some-clause-lines c = rw c.without_return.ensures (line_at c.args.text.now c.in-Some.end (sym c.first_newline.ensures ∙ c.in-Some.is))

pub returns-in-None-clause-lines : goal.returns-in-None-clause-lines
returns-in-None-clause-lines c = last_line c.args.text.now (sym c.first_newline.ensures ∙ c.in-None.is)
