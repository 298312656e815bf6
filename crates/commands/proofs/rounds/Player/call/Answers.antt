use Rattle.std.proofs.Common.{◌≡◌, ◌<◌, length, List, true, ap, sym, ◌∙◌, arith}
use Rattle.std.proofs.lemmas.Bool.{lt-ltb}
use Rattle.replay_model.specs.declared.event.Event.{Event}
use Rattle.replay_model.specs.declared.event.Event.TheVariants as event
use Rattle.replay_model.specs.Rounds.{Round}
use Rattle.commands.specs.Rounds.{world_at}
use Rattle.commands.proofs.DrawnRounds.{both, made_of, not_busy}
use Rattle.commands.proofs.PlayedRounds.{event_played}
use Rattle.commands.proofs.rounds.Player.call.Goals as goal

pub returns : goal.returns
returns c x =
    let old = c.args.self.now in
    let w = world_at old in
    let stands = c.requires.reached.stands in
    let started = c.counts.ensures.started w stands in
    let room : length w.records.started < old.options.calls = omega (arith, started, c.from.ensures, c.if-counts-from.false) in
    let idle = sym (c.is_idle.ensures w stands) ∙ c.if-not-is_idle.false in
    event_played c.play.result old c.play.new.self (event.Call c.args.place.machine c.args.place.process c.args.word) x _ c.requires.reached
    (c.requires.process, c.requires.askable) tt (c.play.ensures.step w stands tt) (c.play.ensures.lost w stands) c.play.ensures.keeps c.play.ensures.few
    (ap (made_of x) (not_busy _ _ (both _ _ idle (lt-ltb _ _ room))))
