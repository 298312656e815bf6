use Rattle.std.proofs.Common.{arith, refl, sym, subst, ◌≡◌, ◌+◌, ◌-◌, ◌<◌, ℕ}
use Rattle.packet_board.specs.Words.{cell_count, unpacked}
use Rattle.packet_board.specs.Laws.{Sees}
use Rattle.packet_board.specs.Rule.{Ready}
use Rattle.packet_board.specs.Views.{looked}
use Rattle.packet_board.proofs.Brings.{still_ready}
use Rattle.packet_board.proofs.Turns.{loads}
use Rattle.packet_board.proofs.board.Board.load.Goals as goal

pub load-found-requires : goal.load-found-requires
load-found-requires g c = let seat = c.args.seat.now in let board = c.args.self.now in let sized = board.sized.0 in let room = c.requires.cell in let cell : ℕ = c.args.cell in let same : cell ≡ (cell + 1) - 1 = omega arith in
    let keyed = sym board.keyed in (
      c.requires.seat.0,
      (omega (arith, sized, room)),
      loads g.L.BoardLaw.holds g.L.BoardLaw.looks board.table.shared.key _ seat.token.id (cell + 1) seat.token.me g.M.Choice.tells (omega arith) (subst (λ z. (cell + 1) - 1 < cell_count z) keyed (omega (arith, room))) seat.ready
          (subst (λ z. Sees g.L.BoardLaw.holds z seat.token.id seat.token.me.0 ((cell + 1) - 1) g.M.Choice.tells) keyed (subst (λ z. Sees g.L.BoardLaw.holds board.layout seat.token.id seat.token.me.0 z g.M.Choice.tells) same c.requires.tells)),
    )

pub invariant_of-seat : goal.invariant_of-seat
invariant_of-seat g c = let seat = c.args.seat.now in let m = seat.token.me in
    record { ready = subst (λ z. Ready z.0 z.1) (sym c.load-found.ensures.2.0.0) (still_ready m.0 (looked m.0 ((c.args.cell + 1) - 1) (unpacked c.load-found.result)) m.1 seat.ready refl seat.ready.settled refl refl) }
