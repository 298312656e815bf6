use Rattle.std.proofs.Common.{ℕ, ◌-◌, ◌≤◌, ◌<◌, List, ◌++◌, length, ap, sym, subst, ◌∙◌, arith, ◌≡◌, [], ◌∷◌, Option, Some, None}
use Rattle.std.proofs.lemmas.Result.{on_ok_weaker}
use Rattle.call_rules.specs.Packet.{Packet}
use Rattle.replay_model.specs.Record.{Impossible, Shows}
use Rattle.replay_model.specs.Arrival.{frame_of}
use Rattle.replay_packets.specs.Sent.{SentFrame}
use Rattle.replay_lines.specs.Page.{Page, written}
use Rattle.replay_world.specs.Stored.{Stored, packets_of}
use Rattle.replay_world.specs.Stands.{Stands}
use Rattle.replay_world.specs.contracts.world.World.{the_view}
use Rattle.replay_world.proofs.Standing.{plays_one, plays_as, no_packet, sent_packet, place_at}
use Rattle.replay_model.specs.Lines.{lines_of_act}
use Rattle.replay_model.specs.World.{World}
use Rattle.replay_model.specs.Step.{impossible, show_event}
use Rattle.replay_world.proofs.world.World.show.Goals as goal

show_event-none : (w : World) (k : ℕ) (o : Option Packet) → o ≡ None → show_event w k o ≡ impossible w
show_event-none w k o h = ap (show_event w k) h

show_event-some : (w : World) (k : ℕ) (o : Option Packet) (p : Packet) → o ≡ Some p → show_event w k o ≡ record { world = w; acts = Shows k (frame_of p) ∷ [] }
show_event-some w k o p h = ap (show_event w k) h

pub returns-in_default : goal.returns-in_default
returns-in_default c w h named =
    let s : Stored = c.args.self.now in
    let before : Page = c.args.out.now in
    let after : Page = c.put_impossible.new.out in
    let past : packets_of s < c.args.number = omega (arith, c.place_of.ensures.nowhere c.in_default.is (omega arith)) in
    on_ok_weaker c.put_impossible.result (λ e. plays_as before after s w.records _ _
    (show_event-none w c.args.number _ (no_packet s w c.args.number h past))
    (plays_one before after s w w.records Impossible e h)) c.put_impossible.ensures

pub returns : goal.returns
returns c w h named =
    let s : Stored = the_view c.self.inside in
    let kept : Stands s w = subst (λ (x : Stored). Stands x w) (sym c.self.view_is) h in
    let n : ℕ = c.args.number in
    let before : Page = c.args.out.now in
    let after : Page = c.put_frame.new.out in
    let sent : SentFrame = c.index.result.now in
    let at = place_at c.args.self.now s c.place_of.result c.in-Some.place c.from.result (sym c.self.view_is) c.in-Some.is c.place_of.ensures.there in
    let found = sent_packet s w n c.in-Some.place sent kept (omega arith) at.1 c.index.ensures in
    let bytes = c.frame.ensures ∙ ap (λ (x : SentFrame). x.frame) (sym found.2) in
    rw (← c.self.view_is)
    (on_ok_weaker c.put_frame.result (λ e. plays_as before after s w.records _ _ (show_event-some w n _ found.0 found.1)
    (plays_one before after s w w.records (Shows n (frame_of found.0)) (e ∙ ap (λ (t : List ℕ). written before (lines_of_act (Shows n t))) bytes) kept)) c.put_frame.ensures)
