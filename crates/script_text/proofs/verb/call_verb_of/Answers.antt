-- Each word of the list is another, or the one that is found.
use Rattle.std.proofs.Common.{◌<◌, arith}
use Rattle.script_text.specs.Words.{asked_text_of}
use Rattle.script_text.specs.declared.verb.CallVerb.TheVariants as asked
use Rattle.script_text.specs.declared.verb.TheConstants.{CALL_VERBS}
use Rattle.script_text.proofs.Verbs.{none_of_more, no_call_verb}
use Rattle.script_text.proofs.verb.call_verb_of.Goals as goal

pub loop-verb-init : goal.loop-verb-init
loop-verb-init c = λ k below. absurd (omega (arith, below))

pub loop-verb-preserved : goal.loop-verb-preserved
loop-verb-preserved c =
    none_of_more asked_text_of CALL_VERBS asked.Null _ c.loop-verb.verb-index c.args.word.now c.text.result.now c.eq.result c.loop-verb.invariant
    c.loop-verb-test.true c.text.ensures c.eq.ensures c.if-eq.false

pub returns : goal.returns
returns c = no_call_verb c.args.word.now (λ k below. c.loop-verb.invariant k (omega (arith, below)))
