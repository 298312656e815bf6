use Rattle.std.proofs.Common.{arith, refl, sym, subst}
use Rattle.packet_board.specs.Rule.{Ready}
use Rattle.packet_board.specs.Views.{told_out}
use Rattle.packet_board.proofs.Brings.{still_ready}
use Rattle.packet_board.proofs.Turns.{counts_seats}
use Rattle.packet_board.proofs.board.Board.alone.Goals as goal

pub load-out-requires : goal.load-out-requires
load-out-requires g c = let seat = c.args.seat.now in let sized = c.args.self.now.sized.0 in (
  c.requires.seat.0,
  (omega (arith, sized)),
  counts_seats g.L.BoardLaw.holds g.L.BoardLaw.counts c.args.self.now.table.shared.key _ seat.token.id seat.token.me seat.ready,
)

pub invariant_of-seat : goal.invariant_of-seat
invariant_of-seat g c = let seat = c.args.seat.now in let m = seat.token.me in
    record { ready = subst (λ z. Ready z.0 z.1) (sym c.load-out.ensures.2.0) (still_ready m.0 (told_out c.load-out.result m.0) m.1 seat.ready refl seat.ready.settled refl refl) }
