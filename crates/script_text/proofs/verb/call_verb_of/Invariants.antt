use Rattle.script_text.specs.Words.{asked_text_of}
use Rattle.script_text.specs.declared.verb.CallVerb.TheVariants as asked
use Rattle.script_text.specs.declared.verb.TheConstants.{CALL_VERBS}
use Rattle.script_text.proofs.Verbs.{IsNoneOf}
use Rattle.script_text.proofs.verb.call_verb_of.Given as goal

abbrev pub invariant-loop-verb : goal.invariant-loop-verb
invariant-loop-verb l = IsNoneOf asked_text_of CALL_VERBS asked.Null l.verb-index l.word
