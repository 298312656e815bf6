use Rattle.script_text.specs.Words.{text_of}
use Rattle.script_text.specs.declared.verb.Verb.TheVariants as verb
use Rattle.script_text.specs.declared.verb.TheConstants.{VERBS}
use Rattle.script_text.proofs.Verbs.{IsNoneOf}
use Rattle.script_text.proofs.verb.verb_of.Given as goal

abbrev pub invariant-loop-verb : goal.invariant-loop-verb
invariant-loop-verb l = IsNoneOf text_of VERBS verb.Call l.verb-index l.word
