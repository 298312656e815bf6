-- Each byte is its place, which is below 251.
use Rattle.std.proofs.Common.{◌≡◌, [], ◌∷◌, ◌++◌, ◌%◌, take, ap, sym, refl, ◌∙◌, arith}
use Rattle.std.proofs.lemmas.List.{take_more_set, take_all, length-set}
use Rattle.replay_model.specs.Service.{text_of}
use Rattle.replay_packets.proofs.LongTexts.{text_none, text_more}
use Rattle.replay_packets.proofs.texts.period.Goals as goal

pub loop-place-init : goal.loop-place-init
loop-place-init c = (refl, text_none [])

pub loop-place-preserved : goal.loop-place-preserved
loop-place-preserved c =
    let bytes = c.loop-place.bytes in
    let place = c.loop-place.place in
    let below : place % 251 ≡ place = omega (arith, c.loop-place-test.true) in
    let long = c.loop-place.invariant.0 in (
      length-set bytes place place ∙ long,
      take_more_set bytes place place (omega (arith, long, c.loop-place-test.true))
          ∙ ap (λ t. t ++ place ∷ []) c.loop-place.invariant.1
          ∙ ap (λ b. text_of place ++ b ∷ []) (sym below)
          ∙ text_more [] place,
    )

pub returns : goal.returns
returns c =
    let bytes = c.loop-place.bytes in
    let all : c.loop-place.place ≡ 251 = omega arith in
    sym (take_all 251 bytes (omega (arith, c.loop-place.invariant.0))) ∙ ap (λ n. take n bytes) (sym all) ∙ c.loop-place.invariant.1 ∙ ap text_of all
