-- What the words of a call read as, by its call word.
use Rattle.std.proofs.Common.{◌≡◌, ℕ, Bool, List, ◌∷◌, Ok, Result, ap, sym, subst, ◌∙◌}
use Rattle.std.specs.Prelude.{codes}
use Rattle.replay_model.specs.declared.event.Event.{Event}
use Rattle.replay_model.specs.declared.text_fault.TextFault.{TextFault}
use Rattle.script_text.specs.Reading.{ReadsWords}
use Rattle.script_text.specs.Words.{HasCall, asked_text_of, call_line}
use Rattle.script_text.specs.declared.word.CallWords.{CallWords}
use Rattle.script_text.specs.declared.verb.CallVerb.{CallVerb}

pub reads_call : (begun : Bool) (words : List (List ℕ)) (line : CallWords) (verb v : CallVerb) (r : Result Event TextFault)
    → HasCall words (Ok line) → line.asked.now ≡ asked_text_of verb → verb ≡ v
    → ReadsWords begun (call_line line (asked_text_of v)) r → ReadsWords begun (codes "call" ∷ words) r
reads_call begun words line verb v r has asked is h =
    let same : codes "call" ∷ words ≡ call_line line (asked_text_of v) =
    ap (λ ws. codes "call" ∷ ws) has ∙ ap (λ (w : List ℕ). call_line line w) (asked ∙ ap asked_text_of is) in
    let P : List (List ℕ) → Type 0 = λ ws. ReadsWords begun ws r in
    subst P (sym same) h
