use Rattle.std.proofs.Common.{◌≡◌, true, false, [], ◌∷◌, ◌++◌, length, ap, sym, ◌∙◌, ℕ}
use Rattle.std.specs.Prelude.{nat_lt}
use Rattle.std.proofs.lemmas.Bool.{cond-true, cond-false}
use Rattle.call_rules.specs.Packet.{Packet}
use Rattle.replay_model.specs.declared.limits.TheConstants.{READY_CELLS}
use Rattle.replay_model.specs.World.{Server, World}
use Rattle.replay_model.specs.declared.discard.Discard.TheVariants as why
use Rattle.replay_model.specs.Record.{Readies}
use Rattle.replay_model.specs.Step.{discarded, server_takes}
use Rattle.replay_packets.specs.Packet.{packet_of}
use Rattle.replay_world.proofs.delivery.hand_to_server.Goals as goal

server_takes-room : (w : World) (k : ℕ) (p : Packet) → nat_lt (length w.server.ready) READY_CELLS ≡ true → server_takes w k p ≡ record { world = record w { server = record w.server { ready = w.server.ready ++ p ∷ [] } }; acts = Readies k ∷ [] }
unfolding server_takes
server_takes-room w k p h = cond-true _ _ _ h

server_takes-full : (w : World) (k : ℕ) (p : Packet) → nat_lt (length w.server.ready) READY_CELLS ≡ false → server_takes w k p ≡ discarded w why.NoRoom
unfolding server_takes
server_takes-full w k p h = cond-false _ _ _ h

pub returns-then-branch : goal.returns-then-branch
returns-then-branch c w k is =
    let p : Packet = packet_of c.args.packet.now in
    let room : nat_lt (length w.server.ready) READY_CELLS ≡ true =
    ap (λ (s : Server). nat_lt (length s.ready) READY_CELLS) (sym is) ∙ (sym c.in_ok-take.ensures.room ∙ c.if-branch.true) in
    record {
      server = record w.server { ready = w.server.ready ++ p ∷ [] };
      is_server = c.in_ok-take.ensures.ready ∙ (cond-true _ _ _ c.if-branch.true ∙ ap (λ (s : Server). record s { ready = s.ready ++ p ∷ [] }) is);
      taken = server_takes-room w k p room;
    }

pub returns-else-branch : goal.returns-else-branch
returns-else-branch c w k is =
    let p : Packet = packet_of c.args.packet.now in
    let full : nat_lt (length w.server.ready) READY_CELLS ≡ false =
    ap (λ (s : Server). nat_lt (length s.ready) READY_CELLS) (sym is) ∙ (sym c.in_ok-take.ensures.room ∙ c.if-branch.false) in
    record {
      server = w.server;
      is_server = c.in_ok-take.ensures.ready ∙ (cond-false _ _ _ c.if-branch.false ∙ is);
      taken = server_takes-full w k p full;
    }

pub take-requires : goal.take-requires
take-requires c = c.requires
