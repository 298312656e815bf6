use Rattle.std.proofs.Common.{◌+◌, arith}
use Rattle.replay_model.specs.declared.event.Event.TheVariants as event
use Rattle.commands.specs.Rounds.{world_at}
use Rattle.commands.proofs.DrawnRounds.{work_is}
use Rattle.commands.proofs.PlayedRounds.{event_played}
use Rattle.commands.proofs.rounds.Player.work.Goals as goal

pub returns : goal.returns
returns c =
    let old = c.args.self.now in
    let w = world_at old in
    let stands = c.requires.reached.stands in
    event_played c.play.result old c.play.new.self (event.Work (1 + c.draw.result)) c.draw.new.self _ c.requires.reached
    (omega arith, omega arith) tt (c.play.ensures.step w stands tt) (c.play.ensures.lost w stands) c.play.ensures.keeps c.play.ensures.few
    (work_is c.args.draws.now c.draw.result c.draw.new.self c.from.result c.draw.ensures.drawn c.from.ensures)
