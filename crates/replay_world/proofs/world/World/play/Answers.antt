use Rattle.std.proofs.lemmas.Result.{on_ok_weaker}
use Rattle.replay_model.specs.Step.{step}
use Rattle.replay_world.proofs.world.World.play.Goals as goal

pub returns-clause-step : goal.returns-clause-step
unfolding step
returns-clause-step c w stands named = on_ok_weaker c.advance.result (λ p. p.stands) (c.advance.ensures.played w stands named)
