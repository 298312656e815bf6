use Rattle.std.proofs.Common.{arith, refl, sym, ap, subst, ◌∙◌}
use Rattle.packet_board.specs.Views.{joined, landed}
use Rattle.packet_board.specs.Rule.{Ready}
use Rattle.packet_board.proofs.Slots.{no_slots, no_hands}
use Rattle.packet_board.proofs.Brings.{still_ready}
use Rattle.packet_board.proofs.Turns.{ends_join}
use Rattle.packet_board.proofs.Joins.{merges_seat}
use Rattle.packet_board.proofs.board.Board.join.Goals as goal

pub join_seat-requires : goal.join_seat-requires
join_seat-requires g c = let seat = c.args.seat.now in let other = c.args.other in let sized = c.args.self.now.sized.0 in let none = no_slots other.token.me.1 (λ n. ap (λ h. h n) c.requires.empty) in (
  c.requires.seat.0,
  c.requires.other.0,
  none,
  (omega (arith, sized)),
  merges_seat g.L.BoardLaw.holds g.L.BoardLaw.splits g.L.BoardLaw.both g.L.BoardLaw.blank g.L.BoardLaw.merges c.args.self.now.table.shared.key seat.token.id seat.token.me.0 other.token.id other.token.me.0 seat.ready.live seat.ready.settled
      c.requires.law other.ready.live (λ b. other.ready.tied b ∙ no_hands other.token.me.1 none b) other.ready.settled,
)

pub fetch_sub-requires : goal.fetch_sub-requires
fetch_sub-requires g c = let seat = c.args.seat.now in let sized = c.args.self.now.sized.0 in (
  c.join_seat.ensures.0 ∙ c.requires.seat.0,
  (omega (arith, sized)),
  ends_join g.L.BoardLaw.holds g.L.BoardLaw.splits g.L.BoardLaw.both g.L.BoardLaw.ends c.args.self.now.table.shared.key _ c.join_seat.new.seat.id c.join_seat.new.seat.me seat.token.me.0 c.args.other.token.me.0
      (ap (λ m. m.0) c.join_seat.ensures.2) seat.ready.live seat.ready.settled c.requires.law,
)

pub invariant_of-seat : goal.invariant_of-seat
invariant_of-seat g c = let seat = c.args.seat.now in let m = seat.token.me in let e = c.join_seat.ensures.2 in let f = c.fetch_sub.ensures.2 in
    record { ready = subst (λ z. Ready z.0 z.1) (sym (f ∙ (λ i. (landed (e i).0, (e i).1)))) (still_ready m.0 (landed (joined g.L.BoardLaw.both m.0 c.args.other.token.me.0)) m.1 seat.ready refl refl refl refl) }
