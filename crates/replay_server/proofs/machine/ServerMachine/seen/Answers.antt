use Rattle.std.proofs.Common.{◌≡◌, ℕ, ◌<◌, List, length, Option, Some, ap, sym, subst, refl, ◌∙◌, arith}
use Rattle.std.specs.Prelude.{slice_get}
use Rattle.std.specs.Option.{option_map}
use Rattle.std.proofs.lemmas.Option.{slice_get_read}
use Rattle.call_rules.specs.Entry.{Entry, Word, word_of, word_seen}
use Rattle.call_rules.specs.declared.judgement.Seen.{Seen}
use Rattle.replay_model.specs.World.{Server, entry_at}
use Rattle.replay_server.proofs.machine.ServerMachine.seen.Goals as goal

pub returns-in_err-place : goal.returns-in_err-place
returns-in_err-place c =
    let entries : c.as_slice.result.now ≡ c.args.self.now.entries = c.as_slice.ensures.value ∙ ap (λ (s : Server). s.entries) c.self.view_is in
    ap (λ (es : List Entry). option_map word_of (entry_at es c.args.activity)) (sym entries)
    ∙ (ap (λ (o : Option Entry). option_map word_of o) c.in_err-place.ensures.0
    ∙ sym (ap (λ (o : Option Seen). option_map word_seen o) c.from_residual.ensures))

pub index-requires : goal.index-requires
index-requires c =
    let there : c.in_ok-place.place < length c.self.inside.entries.items = subst (λ (es : List Entry). c.in_ok-place.place < length es) c.as_slice.ensures.value c.in_ok-place.ensures.0 in
    omega (arith, c.self.inside.entries.ok.0)

pub returns : goal.returns
returns c =
    let place : ℕ = c.in_ok-place.place in
    let es : List Entry = c.self.inside.entries.items in
    let entries : c.as_slice.result.now ≡ c.args.self.now.entries = c.as_slice.ensures.value ∙ ap (λ (s : Server). s.entries) c.self.view_is in
    let there : place < length es = subst (λ (xs : List Entry). place < length xs) c.as_slice.ensures.value c.in_ok-place.ensures.0 in
    let at : slice_get es place ≡ Some c.index.result.now = slice_get_read es (length es) place c.index.result.now refl there c.index.ensures in
    ap (λ (xs : List Entry). option_map word_of (entry_at xs c.args.activity)) (sym entries)
    ∙ (ap (λ (o : Option Entry). option_map word_of o) (c.in_ok-place.ensures.1 ∙ (ap (λ (xs : List Entry). slice_get xs place) c.as_slice.ensures.value ∙ at))
    ∙ ap (λ (w : Word). Some w) (sym c.seen.ensures))
