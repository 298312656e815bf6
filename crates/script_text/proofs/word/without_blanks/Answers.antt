-- The line from its first byte on that is no blank.
use Rattle.std.proofs.Common.{sym, ◌∙◌}
use Rattle.script_text.proofs.FirstWord.{words_from, begins_there, no_word}
use Rattle.script_text.proofs.word.without_blanks.Goals as goal

pub returns-in-Some-clause-same : goal.returns-in-Some-clause-same
returns-in-Some-clause-same c = words_from c.args.line.now c.in-Some.start (sym c.first_of_word.ensures ∙ c.in-Some.is)

pub returns-in-Some-clause-begins : goal.returns-in-Some-clause-begins
returns-in-Some-clause-begins c = begins_there c.args.line.now c.in-Some.start (sym c.first_of_word.ensures ∙ c.in-Some.is)

pub returns-in-None-clause-same : goal.returns-in-None-clause-same
returns-in-None-clause-same c = no_word c.args.line.now (sym c.first_of_word.ensures ∙ c.in-None.is)
