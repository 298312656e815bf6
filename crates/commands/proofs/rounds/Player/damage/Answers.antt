use Rattle.std.proofs.Common.{◌∙◌, refl, sym, arith}
use Rattle.replay_model.specs.declared.event.Event.TheVariants as event
use Rattle.commands.specs.Rounds.{world_at}
use Rattle.commands.proofs.DrawnRounds.{none, damage_nothing, damage_some, damages_bit, damages_none}
use Rattle.commands.proofs.PlayedRounds.{event_played, few_packets, nothing_played, packets_are, plays_same, recent_is_kept}
use Rattle.commands.proofs.rounds.Player.damage.Goals as goal

pub returns-then-sent-eq0 : goal.returns-then-sent-eq0
returns-then-sent-eq0 c =
    let old = c.args.self.now in
    let sent = c.packets-sent.ensures (world_at old) c.requires.reached.stands in
    plays_same old old c.args.draws.now (none c.args.draws.now) _ (damage_nothing (world_at old) c.args.draws.now (sym sent ∙ c.if-sent-eq0.true))
    (nothing_played old c.args.draws.now c.requires.reached)

pub length-requires-clause-kept : goal.length-requires-clause-kept
length-requires-clause-kept c =
    let old = c.args.self.now in
    recent_is_kept old c.packets-sent.result c.draw_recent-packet.result c.requires.reached (c.packets-sent.ensures (world_at old) c.requires.reached.stands) c.draw_recent-packet.ensures.last

pub returns-in_default : goal.returns-in_default
returns-in_default c =
    let old = c.args.self.now in
    let w = world_at old in
    let sent = c.packets-sent.ensures w c.requires.reached.stands in
    let packet = c.draw_recent-packet.result in
    let behind = c.draw_recent-packet.new.draws in
    let drawn = c.draw_recent-packet.ensures in
    plays_same old old behind (none behind) _
    (damages_none w.bag packet behind c.length.result c.length.ensures.exact c.in_default.not-Some
    ∙ damage_some w c.args.draws.now c.packets-sent.result packet behind sent c.if-sent-eq0.false drawn.packet drawn.draws)
    (nothing_played old behind c.requires.reached)

pub returns : goal.returns
returns c =
    let old = c.args.self.now in
    let w = world_at old in
    let stands = c.requires.reached.stands in
    let sent = c.packets-sent.ensures w stands in
    let packet = c.draw_recent-packet.result in
    let drawn = c.draw_recent-packet.ensures in
    let kept = recent_is_kept old c.packets-sent.result packet c.requires.reached sent drawn.last in
    let few = few_packets old c.requires.reached in
    let all = packets_are old.world w stands in
    event_played c.play.result old c.play.new.self (event.Damage packet c.draw-bit.result) c.draw-bit.new.self _ c.requires.reached
    (drawn.is_sent.0, omega (arith, drawn.is_sent.1, few, all, sent), omega (arith, c.draw-bit.ensures.below, c.in-Some.ensures.fits)) tt
    (c.play.ensures.step w stands kept) (c.play.ensures.lost w stands) c.play.ensures.keeps c.play.ensures.few
    (damages_bit w.bag packet c.draw_recent-packet.new.draws _ c.in-Some.len c.draw-bit.result c.draw-bit.new.self c.in-Some.ensures.exact refl c.draw-bit.ensures.drawn
    ∙ damage_some w c.args.draws.now c.packets-sent.result packet c.draw_recent-packet.new.draws sent c.if-sent-eq0.false drawn.packet drawn.draws)
