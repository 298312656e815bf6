use Rattle.std.proofs.Common.{◌≡◌, ℕ, List, ◌++◌, ap, ◌∙◌}
use Rattle.std.proofs.lemmas.Result.{on_ok_weaker}
use Rattle.replay_model.specs.Step.{step}
use Rattle.replay_model.specs.Transcript.{lines}
use Rattle.replay_lines.specs.Page.{Page, page_of, written}
use Rattle.replay_world.proofs.Pages.{written-text}
use Rattle.replay_world.proofs.world.World.apply.Goals as goal

pub returns-clause-step : goal.returns-clause-step
unfolding lines step
returns-clause-step c w stands named =
    let text = c.args.out.now.items in
    let printed = lines w c.args.event.now in
    let from : c.of-page.result ≡ page_of text = c.of-page.ensures ∙ ap page_of (ap (λ v. v.items) c.replace.ensures.value) in
    on_ok_weaker c.advance-played.result (λ played. (
      c.into_text.ensures ∙ written-text text printed c.advance-played.new.out (played.printed ∙ ap (λ (p : Page). written p printed) from),
      played.stands,
    )) (c.advance-played.ensures.played w stands named)
