use Rattle.std.proofs.Common.{◌≡◌, ℕ, ◌-◌, ◌*◌, ◌≤◌, ◌<◌, List, length, ap, sym, subst, ◌∙◌, arith, Option, Some, None, refl}
use Rattle.std.specs.Prelude.{MatchOption}
use Rattle.std.proofs.lemmas.Result.{on_ok_weaker}
use Rattle.std.proofs.lemmas.Bool.{cond-true, cond-false, le-ltb, lt-ltb}
use Rattle.udp_frames.specs.Damage.{flipped}
use Rattle.call_rules.specs.Packet.{Packet}
use Rattle.replay_model.specs.Record.{Impossible}
use Rattle.replay_model.specs.Arrival.{frame_of}
use Rattle.replay_model.specs.World.{World, packet_at}
use Rattle.replay_model.specs.Step.{Outcome, receives, damage_event, impossible}
use Rattle.replay_packets.specs.Sent.{SentFrame}
use Rattle.replay_lines.specs.Page.{Page}
use Rattle.replay_world.specs.Delivery.{TakenAs}
use Rattle.replay_world.specs.Stored.{Stored, packets_of}
use Rattle.replay_world.specs.Stands.{Stands}
use Rattle.replay_world.specs.contracts.world.World.{the_view}
use Rattle.replay_world.proofs.Standing.{plays_one, plays_as, no_packet, sent_packet, place_at, stands-machines}
use Rattle.replay_world.proofs.Rising.{keeps_all, keeps_since, rose_none, rose_since}
use Rattle.replay_world.proofs.world.World.damage.Goals as goal

damage_event-none : (w : World) (k bit : ℕ) (o : Option Packet) → o ≡ None → damage_event w k bit o ≡ impossible w
unfolding damage_event
damage_event-none w k bit o h = ap (damage_event w k bit) h

damage_event-within : (w : World) (k bit : ℕ) (o : Option Packet) (p : Packet) → o ≡ Some p → bit < 8 * length (frame_of p) → damage_event w k bit o ≡ receives w k p.to (flipped (frame_of p) bit)
unfolding damage_event
damage_event-within w k bit o p h l = ap (damage_event w k bit) h ∙ cond-true _ _ _ (lt-ltb bit (8 * length (frame_of p)) l)

damage_event-past : (w : World) (k bit : ℕ) (o : Option Packet) (p : Packet) → o ≡ Some p → 8 * length (frame_of p) ≤ bit → damage_event w k bit o ≡ impossible w
unfolding damage_event
damage_event-past w k bit o p h l = ap (damage_event w k bit) h ∙ cond-false _ _ _ (le-ltb bit (8 * length (frame_of p)) l)

pub returns-in_default-clause-played : goal.returns-in_default-clause-played
returns-in_default-clause-played c w h named =
    let s : Stored = c.args.self.now in
    let before : Page = c.args.out.now in
    let after : Page = c.put_impossible.new.out in
    let past : packets_of s < c.args.number = omega (arith, c.place_of.ensures.nowhere c.in_default.is (omega arith)) in
    on_ok_weaker c.put_impossible.result (λ e. plays_as before after s w.records _ _
    (damage_event-none w c.args.number c.args.bit _ (no_packet s w c.args.number h past))
    (plays_one before after s w w.records Impossible e h)) c.put_impossible.ensures

pub returns-in_default-2-clause-played : goal.returns-in_default-2-clause-played
returns-in_default-2-clause-played c w h named =
    let s : Stored = the_view c.self.inside in
    let before : Page = c.args.out.now in
    let after : Page = c.put_impossible-in_default-2.new.out in
    let kept : Stands s w = subst (λ (x : Stored). Stands x w) (sym c.self.view_is) h in
    let n : ℕ = c.args.number in
    let bit : ℕ = c.args.bit in
    let sent : SentFrame = c.index-sent.result.now in
    let at = place_at c.args.self.now s c.place_of.result c.in-Some.place c.from.result (sym c.self.view_is) c.in-Some.is c.place_of.ensures.there in
    let found = sent_packet s w n c.in-Some.place sent kept (omega arith) at.1 c.index-sent.ensures in
    let beyond : 8 * length sent.frame ≤ bit = subst (λ o. MatchOption o (8 * length sent.frame ≤ bit) (λ f. (bit < 8 * length sent.frame) × (f.items ≡ flipped sent.frame bit))) c.in_default-2.is c.in_ok-frame.ensures in
    let past : 8 * length (frame_of found.0) ≤ bit = subst (λ (x : SentFrame). 8 * length x.frame ≤ bit) (sym found.2) beyond in
    rw (← c.self.view_is)
    (on_ok_weaker c.put_impossible-in_default-2.result (λ e. plays_as before after s w.records _ _
    (damage_event-past w n bit _ found.0 found.1 past)
    (plays_one before after s w w.records Impossible e kept)) c.put_impossible-in_default-2.ensures)

pub returns-clause-played : goal.returns-clause-played
returns-clause-played c w h named =
    let s : Stored = the_view c.self.inside in
    let kept : Stands s w = subst (λ (x : Stored). Stands x w) (sym c.self.view_is) h in
    let n : ℕ = c.args.number in
    let bit : ℕ = c.args.bit in
    let sent : SentFrame = c.index-sent.result.now in
    let at = place_at c.args.self.now s c.place_of.result c.in-Some.place c.from.result (sym c.self.view_is) c.in-Some.is c.place_of.ensures.there in
    let found = sent_packet s w n c.in-Some.place sent kept (omega arith) at.1 c.index-sent.ensures in
    let hit = subst (λ o. MatchOption o (8 * length sent.frame ≤ bit) (λ f. (bit < 8 * length sent.frame) × (f.items ≡ flipped sent.frame bit))) c.in-Some-2.is c.in_ok-frame.ensures in
    let within : bit < 8 * length (frame_of found.0) = subst (λ (x : SentFrame). bit < 8 * length x.frame) (sym found.2) hit.0 in
    let o : Outcome = damage_event w n bit (packet_at w.bag n) in
    let to = c.to.ensures ∙ ap (λ (x : SentFrame). x.to) (sym found.2) in
    let bytes = c.as_slice.ensures.value ∙ (hit.1 ∙ ap (λ (x : SentFrame). flipped x.frame bit) (sym found.2)) in
    let same : receives w n c.to.result.machine c.as_slice.result.now ≡ o =
    ap (λ (m : ℕ). receives w n m c.as_slice.result.now) to ∙ (ap (receives w n found.0.to) bytes ∙ sym (damage_event-within w n bit (packet_at w.bag n) found.0 found.1 within)) in
    let handed = c.in_ok-taken.ensures w n kept.server kept.clients in
    let w' : World = record w { server = handed.server; clients = handed.clients } in
    c.tell_delivery.ensures.played w' o (subst (TakenAs w' n c.in_ok-taken.taken) same handed.taken)
    (stands-machines s w c.hand_over.new.server handed.server c.hand_over.new.clients.items handed.clients kept handed.is_server handed.are_clients)

pub returns-in_default-clause-keeps : goal.returns-in_default-clause-keeps
returns-in_default-clause-keeps c = keeps_all c.put_impossible.result c.args.self.now c.args.self.now refl

pub returns-in_default-clause-few : goal.returns-in_default-clause-few
returns-in_default-clause-few c = rose_none c.put_impossible.result 1 c.args.self.now c.args.self.now refl

pub returns-clause-keeps : goal.returns-clause-keeps
returns-clause-keeps c = keeps_since c.tell_delivery.result (the_view c.self.inside) c.args.self.now c.tell_delivery.new.self c.self.view_is c.tell_delivery.ensures.keeps

pub returns-clause-few : goal.returns-clause-few
returns-clause-few c = rose_since c.tell_delivery.result 1 (the_view c.self.inside) c.args.self.now c.tell_delivery.new.self c.self.view_is c.tell_delivery.ensures.few
