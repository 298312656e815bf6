use Rattle.std.proofs.Common.{Some, None}
use Rattle.std.proofs.lemmas.Result.{on_ok_weaker}
use Rattle.commands.specs.Rounds.{world_at}
use Rattle.commands.proofs.DrawnRounds.{starts_round_is}
use Rattle.commands.proofs.PlayedRounds.{plays_same}
use Rattle.commands.proofs.rounds.Player.start.Goals as goal

pub returns-in-Some : goal.returns-in-Some
returns-in-Some c =
    let old = c.args.self.now in
    let calls = old.options.calls in
    let w = world_at old in
    let place = c.draw_place-place.result in
    let drawn = c.draw_place-place.ensures in
    let behind = c.draw_word.new.draws in
    on_ok_weaker c.call.result
    (plays_same old c.call.new.self behind _ _
    (starts_round_is calls w c.args.draws.now place.machine place.process c.draw_place-place.new.draws behind (Some c.in-Some.word)
    drawn.machine drawn.process drawn.draws (c.in-Some.ensures.asked calls w place.machine place.process)))
    (c.call.ensures behind)

pub returns-in-None : goal.returns-in-None
returns-in-None c =
    let old = c.args.self.now in
    let calls = old.options.calls in
    let w = world_at old in
    let place = c.draw_place-place.result in
    let drawn = c.draw_place-place.ensures in
    let behind = c.draw_word.new.draws in
    on_ok_weaker c.bind.result
    (plays_same old c.bind.new.self behind _ _
    (starts_round_is calls w c.args.draws.now place.machine place.process c.draw_place-place.new.draws behind None
    drawn.machine drawn.process drawn.draws (c.in-None.ensures.asked calls w place.machine place.process)))
    (c.bind.ensures behind)
