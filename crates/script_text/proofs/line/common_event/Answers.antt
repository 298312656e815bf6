-- A word, a blank and a number: the two words are read as the form has them.
use Rattle.std.proofs.Common.{rules, ◌≡◌, ◌∷◌, [], codes, ap, refl, ◌∙◌}
use Rattle.replay_model.specs.Script.{words_of}
use Rattle.script_text.specs.declared.verb.Verb.TheVariants as verb
use Rattle.script_text.proofs.Checks.{counts_from, reads_event}
use Rattle.script_text.proofs.CommonLines.{number_alone, spells_work, spells_deliver}
use Rattle.script_text.proofs.line.common_event.Goals as goal

pub returns-in-Ok-clause-reads : goal.returns-in-Ok-clause-reads
returns-in-Ok-clause-reads c = λ above fine ended.
    let rest = c.in-Some.rest.now in
    let number = c.in-Ok.ensures.reads in
    let begins : words_of c.args.line.now ≡ codes "work" ∷ words_of rest = search rules in
    let words : words_of c.args.line.now ≡ codes "work" ∷ rest ∷ [] = begins ∙ ap (λ ws. codes "work" ∷ ws) (number_alone _ _ rest number.0) in
    reads_event c.args.line.now (codes "work") (rest ∷ []) words (counts_from verb.Work (rest ∷ [])) above fine ended verb.Work _ refl
    (rw number.1 (spells_work above.begun rest number.0))

pub returns-in-Ok-packet-clause-reads : goal.returns-in-Ok-packet-clause-reads
returns-in-Ok-packet-clause-reads c = λ above fine ended.
    let rest = c.in-Some-strip_prefix.rest.now in
    let number = c.in-Ok-packet.ensures.reads in
    let begins : words_of c.args.line.now ≡ codes "deliver" ∷ words_of rest = search rules in
    let words : words_of c.args.line.now ≡ codes "deliver" ∷ rest ∷ [] = begins ∙ ap (λ ws. codes "deliver" ∷ ws) (number_alone _ _ rest number.0) in
    reads_event c.args.line.now (codes "deliver") (rest ∷ []) words (counts_from verb.Deliver (rest ∷ [])) above fine ended verb.Deliver _ refl
    (rw number.1 (spells_deliver above.begun rest number.0))
