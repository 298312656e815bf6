use Rattle.std.proofs.Common.{◌+◌, ◌∙◌, arith}
use Rattle.std.proofs.lemmas.Result.{on_ok_weaker}
use Rattle.replay_model.specs.declared.event.Event.TheVariants as event
use Rattle.replay_model.specs.Step.{step}
use Rattle.commands.specs.Rounds.{world_at}
use Rattle.commands.proofs.DrawnRounds.{a_restart, no_restart}
use Rattle.commands.proofs.PlayedRounds.{plays_same, second_played}
use Rattle.commands.proofs.rounds.Player.restart.Goals as goal

pub returns-then-draw-ne0 : goal.returns-then-draw-ne0
returns-then-draw-ne0 c =
    let old = c.args.self.now in
    on_ok_weaker c.work.result
    (plays_same old c.work.new.self c.work.new.draws _ _
    (no_restart (world_at old) c.args.draws.now c.draw.result c.draw.new.self c.draw.ensures.drawn c.if-draw-ne0.true))
    c.work.ensures

pub returns : goal.returns
returns c =
    let old = c.args.self.now in
    let w = world_at old in
    let reached = c.requires.reached in
    let stands = reached.stands in
    let now = c.second-second.result in
    let d = event.Second (now + 1) in
    let e = event.Restart (1 + c.draw-2.result) in
    let first = c.in_ok-play.ensures in
    let half = first.step w stands tt in
    second_played c.play-2.result old c.play.new.self c.play-2.new.self d e c.draw-2.new.self _ reached
    (omega arith, omega (arith, c.second-second.ensures, reached.second, reached.rounds, reached.most_calls)) (omega arith, omega (arith, c.draw-2.ensures.below, c.from.ensures))
    (omega (arith, c.second-second.ensures)) tt
    half (first.lost w stands) first.keeps first.few
    (c.play-2.ensures.step (step w d) half tt) (c.play-2.ensures.lost (step w d) half) c.play-2.ensures.keeps c.play-2.ensures.few
    (a_restart w c.args.draws.now c.draw.result c.draw.new.self c.draw-2.result c.draw-2.new.self c.from.result now
    c.draw.ensures.drawn c.if-draw-ne0.false c.draw-2.ensures.drawn c.from.ensures (c.second-second.ensures ∙ stands.second))
