use Rattle.std.proofs.Common.{arith, sym, ap, subst, ◌∙◌}
use mathlib.Core.Option.{some}
use Rattle.packet_board.specs.Rule.{Ready}
use Rattle.packet_board.proofs.Brings.{inside, brings, ready_front}
use Rattle.packet_board.specs.Holding.{counted_key}
use Rattle.packet_board.proofs.board.Board.bring.Goals as goal

pub load-requires : goal.load-requires
load-requires g c = let seat = c.args.seat.now in let ready = seat.ready in let held = c.requires.held in
    let once = counted_key seat.token.me.1 c.args.n held.0 held.1 in let tied = ready.tied c.args.n in let there = ready.numbered c.args.n (omega (arith, tied, once)) in
    let sized = c.args.self.now.sized.0 in let same = c.requires.seat.1 in (
      c.requires.seat.0,
      inside seat.token.me.0.layout c.args.self.now.layout c.args.n c.args.self.now.table.shared.table_id.words there same sized,
      brings g.L.BoardLaw.holds c.args.self.now.table.shared.key _ seat.token.id c.args.n seat.token.me ready held.0 held.1,
    )

pub invariant_of-seat : goal.invariant_of-seat
invariant_of-seat g c = let seat = c.args.seat.now in let e = c.load.ensures.2 in
    record { ready = subst (λ m. Ready m.0 m.1) (sym e.2) (ready_front seat.token.me.0 seat.token.me.1 c.args.n e.0 e.0 seat.ready e.1 (λ x is. seat.ready.bounded c.args.n x (e.1 ∙ ap some is))) }
