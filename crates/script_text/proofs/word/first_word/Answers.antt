-- A word stands before the first blank, or is the rest of the line.
use Rattle.std.proofs.Common.{sym, ◌∙◌, arith}
use Rattle.std.proofs.lemmas.Bool.{eqb-false}
use Rattle.script_text.proofs.FirstWord.{word_at, last_word}
use Rattle.script_text.proofs.word.first_word.Goals as goal

pub returns-in-Some : goal.returns-in-Some
returns-in-Some c = sym c.without_blanks-line.ensures.same ∙ word_at c.without_blanks-line.result.now c.in-Some.end c.without_blanks-line.ensures.begins (sym c.first_blank.ensures ∙ c.in-Some.is)

pub returns-in-None : goal.returns-in-None
returns-in-None c =
    let some = eqb-false _ _ (sym c.is_empty.ensures ∙ c.if-is_empty.false) in
    sym c.without_blanks-line.ensures.same ∙ last_word c.without_blanks-line.result.now (omega arith) (sym c.first_blank.ensures ∙ c.in-None.is)
