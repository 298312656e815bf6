use Rattle.std.proofs.Common.{◌≡◌, ◌⊎◌, ℕ, ◌+◌, List, [], ◌∷◌, ◌++◌, length, ap, inl, inr, sym, subst, refl, ◌∙◌}
use Rattle.call_rules.specs.Packet.{Packet}
use Rattle.call_rules.specs.Worker as rules
use Rattle.replay_model.specs.Record.{Act, Works, ServerSends, Rejects, Records, recorded}
use Rattle.replay_model.specs.Lines.{lines_of_act, packet_line}
use Rattle.replay_model.specs.World.{World}
use Rattle.replay_model.specs.Step.{adds, with_packet}
use Rattle.replay_packets.specs.Sent.{sent_of}
use Rattle.replay_server.specs.declared.step.Adds.{Adds}
use Rattle.replay_server.specs.Stepped.{StandsFor}
use Rattle.replay_lines.specs.Page.{Page, written}
use Rattle.replay_world.specs.Stored.{Stored}
use Rattle.replay_world.specs.Stands.{Stands}
use Rattle.replay_world.specs.Played.{Plays}
use Rattle.replay_world.proofs.Pages.{written-nothing}
use Rattle.replay_world.proofs.Standing.{plays_one, plays_behind, plays_as, stands-beside, stands-packet, same_count, on_ok_both}
use Rattle.replay_world.proofs.world.World.tell_step.Goals as goal

-- a worker has told its step and sent a packet, which may be a rejection
sends : (before middle after : Page) (s : Stored) (w : World) (r : Records) (told : Act) (p : Packet) (added : rules.Adds)
    → (added ≡ rules.APacket p) ⊎ (added ≡ rules.ARejection p) → middle ≡ written before (lines_of_act told) → recorded r told ≡ r
    → after ≡ written middle (packet_line (length w.bag + 1) p.from p.to p.header (length p.payload)) → Stands s (record (with_packet w p) { records = r })
    → Plays before after s r (adds w told added)
sends before middle after s w r told p added (inl e) f same g h =
    let R : Records → Type 0 = λ x. Plays middle after s x (record { world = with_packet w p; acts = ServerSends (length w.bag + 1) p ∷ [] }) in
    let rest = plays_one middle after s (with_packet w p) r (ServerSends (length w.bag + 1) p) g h in
    plays_as before after s r _ _ (ap (adds w told) e) (plays_behind before middle after s r told _ f (subst R (sym same) rest))
sends before middle after s w r told p added (inr e) f same g h =
    let k : ℕ = length w.bag + 1 in
    let rejects : Act = Rejects k w.server.exports.rows in
    let last = plays_one after after s (with_packet w p) r rejects (sym (written-nothing after)) (stands-beside s (record (with_packet w p) { records = r }) (recorded r rejects) refl refl refl h) in
    let R : Records → Type 0 = λ x. Plays middle after s x (record { world = with_packet w p; acts = ServerSends k p ∷ rejects ∷ [] }) in
    let rest = plays_behind middle after after s r (ServerSends k p) (record { world = with_packet w p; acts = rejects ∷ [] }) g last in
    plays_as before after s r _ _ (ap (adds w told) e) (plays_behind before middle after s r told _ f (subst R (sym same) rest))

-- what is added, by what the program adds
added_is : (x : Adds) (p : Packet) (added : rules.Adds) → (x ≡ Adds.Packet p) ⊎ (x ≡ Adds.Rejection p) → StandsFor x added → (added ≡ rules.APacket p) ⊎ (added ≡ rules.ARejection p)
added_is x p added (inl e) h = let P : Adds → Type 0 = λ y. StandsFor y added in inl (subst P e h)
added_is x p added (inr e) h = let P : Adds → Type 0 = λ y. StandsFor y added in inr (subst P e h)

pub returns-in-Packet-clause-played : goal.returns-in-Packet-clause-played
returns-in-Packet-clause-played c w server r o did h =
    let s : Stored = c.args.self.now in
    let p : Packet = c.in-Packet.packet in
    let before : Page = c.args.out.now in
    let middle : Page = c.put_work.new.out in
    let after : Page = c.send.new.out in
    let told : Act = Works c.args.worker c.args.stepped.number.value c.args.stepped.did in
    let w' : World = record w { server = server } in
    let s' : Stored = record s { bag = s.bag ++ sent_of p ∷ [] } in
    on_ok_both c.send.result (λ q e. subst (λ (x : Stored). Plays before after x r o) (sym q)
    (plays_as before after s' r o _ did.outcome
    (sends before middle after s' w' r told p did.added (added_is c.args.stepped.adds p did.added c.in-Packet.is did.stands) c.in_ok-put_work.ensures refl
    (e ∙ ap (λ (n : ℕ). written middle (packet_line (n + 1) p.from p.to p.header (length p.payload))) (same_count s (record w' { records = r }) h))
    (stands-packet s (record w' { records = r }) p h))))
    c.send.ensures.bag c.send.ensures.printed
