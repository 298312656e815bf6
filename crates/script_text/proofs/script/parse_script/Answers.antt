-- A text without a fault is the script of the events that were read.
use Rattle.std.proofs.Common.{List, subst, sym, ◌∙◌}
use Rattle.replay_model.specs.Script.{IsScript}
use Rattle.replay_model.specs.declared.event.Event.{Event}
use Rattle.script_text.proofs.TextLaw.{spelled_text}
use Rattle.script_text.proofs.script.parse_script.Goals as goal

pub returns-clause-accepted : goal.returns-clause-accepted
returns-clause-accepted c =
    let read = c.in_ok-events.ensures.read in
    let P : List Event → Type 0 = λ es. IsScript c.args.text.now (record { small = 256; long = 72; events = es }) in
    subst P (sym (c.from.ensures ∙ read.events_are)) (spelled_text c.args.text.now read.no_fault)
