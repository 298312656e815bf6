use Rattle.std.proofs.Common.{◌+◌, ap, ◌∙◌, arith}
use Rattle.replay_model.specs.Rounds.{Storm}
use Rattle.commands.specs.declared.rounds.Player.{Player}
use Rattle.commands.specs.Rounds.{storm_at, world_at}
use Rattle.commands.proofs.DrawnRounds.{round_is}
use Rattle.commands.proofs.PlayedRounds.{next_reached, plays_same, storm_same}
use Rattle.commands.proofs.rounds.Player.round.Goals as goal

pub forget_some-requires : goal.forget_some-requires
forget_some-requires c =
    let old = c.args.self.now in
    let mid = c.play.new.self in
    (next_reached old mid c.play.new.draws c.requires.reached c.requires.more
    (plays_same old mid c.play.new.draws _ _
    (round_is old.options.calls (world_at old) c.args.draws.now (storm_at old).x c.draw-kind.result c.draw-kind.new.self c.requires.draws c.draw-kind.ensures.drawn)
    c.in_ok-play.ensures)).reached

pub returns-clause-draws : goal.returns-clause-draws
returns-clause-draws c =
    let old = c.args.self.now in
    let mid = c.play.new.self in
    let next : Player = record mid { rounds = mid.rounds + 1 } in
    (next_reached old mid c.play.new.draws c.requires.reached c.requires.more
    (plays_same old mid c.play.new.draws _ _
    (round_is old.options.calls (world_at old) c.args.draws.now (storm_at old).x c.draw-kind.result c.draw-kind.new.self c.requires.draws c.draw-kind.ensures.drawn)
    c.in_ok-play.ensures)).draws
    ∙ ap (λ (s : Storm). s.x) (storm_same next c.forget_some.new.self c.forget_some.ensures.same)
