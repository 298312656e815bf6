use Rattle.std.proofs.Common.{refl, sym, ◌∙◌, subst, ◌<◌, arith}
use Rattle.packet_board.specs.Seats.{view}
use Rattle.packet_pool.specs.Cells.{IsReadyCell, item}
use Rattle.packet_pool.specs.Plain.{plain_with_claimed, claiming}
use Rattle.wire_tests.proofs.races.claim_seen.Goals as goal

pub exchange-requires-clause-law : goal.exchange-requires-clause-law
exchange-requires-clause-law c = λ ws out hs vs found meets. let v = view c.args.seat.now in let y = meets.sort.0 in let known = sym (c.requires.seat.1 ∙ c.requires.layout) in (
  plain_with_claimed (item c.args.order 1 y) v.notes,
  (
    claiming 0 c.args.order y,
    record {
      ready = subst (λ k. IsReadyCell k 1) known (omega arith, omega arith);
      small = subst (λ k. 0 < k.small) known (omega arith);
      before = refl;
      after = refl;
      packet = meets.sort.1;
      notes_after = refl;
    },
  ),
  tt,
)
