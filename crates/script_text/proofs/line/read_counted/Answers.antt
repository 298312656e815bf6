-- A line that counts has other bytes, or comes behind the end, or is read by its first word.
use Rattle.std.proofs.Common.{Option, subst, sym, ◌∙◌}
use Rattle.replay_model.specs.Script.{words_of}
use Rattle.script_text.specs.Words.{IsVerb}
use Rattle.script_text.specs.declared.verb.Verb.{Verb}
use Rattle.script_text.proofs.Checks.{reads_byte, reads_late, reads_unknown, reads_event, reads_fault}
use Rattle.script_text.proofs.line.read_counted.Goals as goal

pub returns-then-not-fine-clause-reads : goal.returns-then-not-fine-clause-reads
returns-then-not-fine-clause-reads c = λ above line first counts begins fine same.
    reads_byte line first (words_of c.args.rest.now) counts.0 counts.1 above (sym fine ∙ c.if-not-fine.true)

pub returns-then-ended-clause-reads : goal.returns-then-ended-clause-reads
returns-then-ended-clause-reads c = λ above line first counts begins fine same.
    reads_late line first (words_of c.args.rest.now) counts.0 counts.1 above (sym fine ∙ c.if-not-fine.false) (same ∙ c.if-ended.true)

pub returns-in-None-clause-reads : goal.returns-in-None-clause-reads
returns-in-None-clause-reads c = λ above line first counts begins fine same.
    let P : Option Verb → Type 0 = λ o. IsVerb first o in
    reads_unknown line first (words_of c.args.rest.now) counts.0 counts.1 above (sym fine ∙ c.if-not-fine.false) (same ∙ c.if-ended.false)
    (subst P c.in-None.is begins)

pub returns-in-Ok-clause-reads : goal.returns-in-Ok-clause-reads
returns-in-Ok-clause-reads c = λ above line first counts begins fine same.
    let P : Option Verb → Type 0 = λ o. IsVerb first o in
    reads_event line first (words_of c.args.rest.now) counts.0 counts.1 above (sym fine ∙ c.if-not-fine.false) (same ∙ c.if-ended.false)
    c.in-Some.verb _ (subst P c.in-Some.is begins) (c.in-Ok.ensures.reads above.begun)

pub returns-in-Err-clause-reads : goal.returns-in-Err-clause-reads
returns-in-Err-clause-reads c = λ above line first counts begins fine same.
    let P : Option Verb → Type 0 = λ o. IsVerb first o in
    reads_fault line first (words_of c.args.rest.now) counts.0 counts.1 above (sym fine ∙ c.if-not-fine.false) (same ∙ c.if-ended.false)
    c.in-Some.verb _ (subst P c.in-Some.is begins) (c.in-Err.ensures.reads above.begun)
