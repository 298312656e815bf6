use Rattle.std.proofs.Common.{◌≡◌, ℕ, ◌+◌, ◌<◌, List, length, Some, ap, sym, subst, refl, ◌∙◌, arith}
use Rattle.std.specs.Option.{option_map}
use Rattle.call_rules.specs.Packet.{Packet}
use Rattle.replay_model.specs.Arrival.{frame_of}
use Rattle.replay_model.specs.World.{packet_at}
use Rattle.replay_packets.specs.Sent.{SentFrame}
use Rattle.replay_world.specs.Kept.{kept_at}
use Rattle.replay_world.specs.Stands.{Stands}
use Rattle.replay_world.specs.Stored.{Stored}
use Rattle.replay_world.specs.contracts.world.World.{the_view}
use Rattle.replay_world.proofs.Standing.{sent_packet, place_at, kept_at-there}
use Rattle.replay_world.proofs.world.World.length.Goals as goal

pub returns : goal.returns
returns c w h =
    let s : Stored = the_view c.self.inside in
    let kept : Stands s w = subst (λ (x : Stored). Stands x w) (sym c.self.view_is) h in
    let n : ℕ = c.args.packet in
    let there = c.in_ok-place.ensures.there in
    let at = place_at c.args.self.now s (Some c.in_ok-place.place) c.in_ok-place.place n (sym c.self.view_is) refl there in
    let found = sent_packet s w n c.in_ok-place.place c.index.result.now kept at.0 at.1 c.index.ensures in
    let bytes : c.frame.result.now ≡ frame_of found.0 = c.frame.ensures ∙ ap (λ (x : SentFrame). x.frame) (sym found.2) in
    let late : kept_at c.args.self.now.forgotten w.bag n ≡ packet_at w.bag n = kept_at-there c.args.self.now.forgotten w.bag n (omega (arith, there.0)) in
    ap (λ (b : List ℕ). Some (length b)) bytes ∙ sym (ap (option_map (λ (p : Packet). length (frame_of p))) (late ∙ found.1))
