use Rattle.std.proofs.Common.{arith, refl, sym, ap, subst, ◌∙◌}
use Rattle.packet_board.specs.Views.{begun, settled}
use Rattle.packet_board.specs.Rule.{Ready}
use Rattle.packet_board.proofs.Brings.{still_ready}
use Rattle.packet_board.proofs.Turns.{begins_split}
use Rattle.packet_board.proofs.Joins.{parts_seat}
use Rattle.packet_board.proofs.board.Board.split.Goals as goal

pub fetch_add-requires : goal.fetch_add-requires
fetch_add-requires g c = let seat = c.args.seat.now in let sized = c.args.self.now.sized.0 in (
  c.requires.seat.0,
  (omega (arith, sized)),
  begins_split g.L.BoardLaw.holds g.L.BoardLaw.splits g.L.BoardLaw.begins g.L.BoardLaw.bounds c.args.self.now.table.shared.key _ seat.token.id seat.token.me seat.ready c.requires.law c.requires.balance,
)

pub split_seat-token-requires : goal.split_seat-token-requires
split_seat-token-requires g c = let seat = c.args.seat.now in let sized = c.args.self.now.sized.0 in (
  c.fetch_add.ensures.0 ∙ c.requires.seat.0,
  (omega (arith, sized)),
  parts_seat g.L.BoardLaw.holds g.L.BoardLaw.splits g.L.BoardLaw.blank g.L.BoardLaw.parts c.args.self.now.table.shared.key c.fetch_add.new.seat.id seat.token.me.0 c.fetch_add.new.seat.me.0 (ap (λ m. m.0) c.fetch_add.ensures.2) seat.ready.live
      seat.ready.settled c.requires.law,
)

pub invariant_of-seat : goal.invariant_of-seat
invariant_of-seat g c = let seat = c.args.seat.now in let m = seat.token.me in let e = c.fetch_add.ensures.2 in let f = c.split_seat-token.ensures.2 in
    record { ready = subst (λ z. Ready z.0 z.1) (sym (f ∙ (λ i. (settled (e i).0, (e i).1)))) (still_ready m.0 (settled (begun m.0)) m.1 seat.ready refl refl refl refl) }
