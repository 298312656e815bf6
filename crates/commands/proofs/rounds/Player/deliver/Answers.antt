use Rattle.std.proofs.Common.{◌∙◌, sym, arith}
use Rattle.replay_model.specs.declared.event.Event.TheVariants as event
use Rattle.commands.specs.Rounds.{world_at}
use Rattle.commands.proofs.DrawnRounds.{none, deliver_nothing, deliver_some}
use Rattle.commands.proofs.PlayedRounds.{event_played, few_packets, nothing_played, packets_are, plays_same, recent_is_kept}
use Rattle.commands.proofs.rounds.Player.deliver.Goals as goal

pub returns-then-sent-eq0 : goal.returns-then-sent-eq0
returns-then-sent-eq0 c =
    let old = c.args.self.now in
    let sent = c.packets-sent.ensures (world_at old) c.requires.reached.stands in
    plays_same old old c.args.draws.now (none c.args.draws.now) _ (deliver_nothing (world_at old) c.args.draws.now (sym sent ∙ c.if-sent-eq0.true))
    (nothing_played old c.args.draws.now c.requires.reached)

pub returns : goal.returns
returns c =
    let old = c.args.self.now in
    let w = world_at old in
    let stands = c.requires.reached.stands in
    let sent = c.packets-sent.ensures w stands in
    let packet = c.draw_recent-packet.result in
    let drawn = c.draw_recent-packet.ensures in
    let kept = recent_is_kept old c.packets-sent.result packet c.requires.reached sent drawn.last in
    let few = few_packets old c.requires.reached in
    let all = packets_are old.world w stands in
    event_played c.play.result old c.play.new.self (event.Deliver packet) c.draw_recent-packet.new.draws _ c.requires.reached
    (drawn.is_sent.0, omega (arith, drawn.is_sent.1, few, all, sent)) tt (c.play.ensures.step w stands kept) (c.play.ensures.lost w stands) c.play.ensures.keeps c.play.ensures.few
    (deliver_some w c.args.draws.now c.packets-sent.result packet c.draw_recent-packet.new.draws sent c.if-sent-eq0.false drawn.packet drawn.draws)
