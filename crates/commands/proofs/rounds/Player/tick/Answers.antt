use Rattle.std.proofs.Common.{arith}
use Rattle.replay_model.specs.declared.event.Event.TheVariants as event
use Rattle.commands.specs.Rounds.{world_at}
use Rattle.commands.proofs.DrawnRounds.{tick_is}
use Rattle.commands.proofs.PlayedRounds.{event_played}
use Rattle.commands.proofs.rounds.Player.tick.Goals as goal

pub returns : goal.returns
returns c =
    let old = c.args.self.now in
    let w = world_at old in
    let stands = c.requires.reached.stands in
    let place = c.draw_place-machine.result in
    let drawn = c.draw_place-machine.ensures in
    event_played c.play.result old c.play.new.self (event.Tick place.machine place.process 4) c.draw_place-machine.new.draws _ c.requires.reached
    (drawn.is_process, omega arith, omega arith) (omega arith) (c.play.ensures.step w stands tt) (c.play.ensures.lost w stands) c.play.ensures.keeps c.play.ensures.few
    (tick_is c.args.draws.now place.machine place.process c.draw_place-machine.new.draws drawn.machine drawn.process drawn.draws)
