use Rattle.std.proofs.Common.{sym, ap, subst, ◌∙◌, Some}
use Rattle.packet_board.specs.Words.{IsBuffer}
use Rattle.packet_board.specs.Hands.{lookup}
use Rattle.packet_board.specs.Rule.{Ready}
use Rattle.packet_board.specs.Holding.{same_value}
use Rattle.packet_board.proofs.Brings.{ready_front, wrote}
use Rattle.packet_board.proofs.Slots.{front_held}
use Rattle.packet_board.proofs.board.Board.stow.Goals as goal

pub invariant_of-seat : goal.invariant_of-seat
invariant_of-seat g c = let m = c.args.seat.now.token.me in let front = c.bring.ensures.front in let z = Some c.args.buffer in
    let after = wrote m c.bring.new.seat.token.me c.exchange.new.seat.me c.args.n front.0 z front.2 c.exchange.ensures.3 in
    let within = subst (λ l. IsBuffer l c.args.n c.args.buffer) (sym c.requires.seat.1) c.requires.bounds in
    record { ready = subst (λ z. Ready z.0 z.1) (sym after) (ready_front m.0 m.1 c.args.n front.0 z c.args.seat.now.ready front.1 (λ x is. subst (IsBuffer m.0.layout c.args.n) (same_value c.args.buffer x is) within)) }

pub returns-clause-held : goal.returns-clause-held
returns-clause-held g c = let m = c.args.seat.now.token.me in let front = c.bring.ensures.front in let z = Some c.args.buffer in
    let after = wrote m c.bring.new.seat.token.me c.exchange.new.seat.me c.args.n front.0 z front.2 c.exchange.ensures.3 in
    ap (λ z. lookup z.1) after ∙ front_held m.1 c.args.n z
