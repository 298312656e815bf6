use Rattle.std.proofs.Common.{◌≡◌, ◌≤◌, ◌+◌, ◌*◌, ℕ, Option, refl, ap, sym, subst, ◌∙◌, arith}
use Rattle.std.specs.Option.{option_map}
use Rattle.std.specs.Prelude.{IfSome}
use Rattle.replay_model.specs.declared.limits.TheConstants.{LAST_BIT}
use Rattle.replay_model.specs.World.{packet_at}
use Rattle.commands.specs.Rounds.{frame_length, world_at}
use Rattle.commands.proofs.DrawnRounds.{kept_length}
use Rattle.commands.proofs.PlayedRounds.{lengths_fit}
use Rattle.commands.proofs.rounds.Player.length.Goals as goal

pub returns : goal.returns
returns c =
    let p = c.args.self.now in
    let bag = (world_at p).bag in
    let k = c.args.packet in
    let exact = kept_length p.world.forgotten bag k c.from.result c.length.result c.requires.kept c.from.ensures
    (c.length.ensures (world_at p) c.requires.reached.stands) in
    record {
      exact = exact;
      fits = subst (λ (o : Option ℕ). IfSome o (λ len. (1 ≤ len) × (8 * len ≤ LAST_BIT + 1))) (sym exact)
          (lengths_fit c.a_spelling_is_32_bytes.ensures.count c.packets_survive_any_events.ensures.spelled p c.requires.reached k (omega (arith, c.requires.kept)) (packet_at bag k) refl);
    }
