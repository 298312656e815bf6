use Rattle.std.proofs.Common.{sym, ap, subst, ◌∙◌, ◌<◌, None, arith}
use mathlib.Core.Option.{some}
use Rattle.packet_board.specs.Words.{buffers_of, IsBuffer}
use Rattle.packet_board.specs.Hands.{lookup}
use Rattle.packet_board.specs.Rule.{Ready}
use Rattle.packet_board.specs.Holding.{counted_key, none_not_some}
use Rattle.packet_board.proofs.Brings.{ready_front, wrote, was_front}
use Rattle.packet_board.proofs.Slots.{front_held}
use Rattle.packet_board.proofs.board.Board.unstow.Goals as goal

pub invariant_of-seat : goal.invariant_of-seat
invariant_of-seat g c = let m = c.args.seat.now.token.me in let front = c.bring.ensures.front in
    let after = wrote m c.bring.new.seat.token.me c.exchange.new.seat.me c.args.n front.0 None front.2 c.exchange.ensures.3 in
    record { ready = subst (λ z. Ready z.0 z.1) (sym after) (ready_front m.0 m.1 c.args.n front.0 None c.args.seat.now.ready front.1 (λ x is. absurd (none_not_some x is))) }

pub returns-clause-bounds : goal.returns-clause-bounds
returns-clause-bounds g c = let seat = c.args.seat.now in let m = seat.token.me in let front = c.bring.ensures.front in
    let once = counted_key m.1 c.args.n front.0 front.1 in let tied = seat.ready.tied c.args.n in
    let is = was_front c.bring.new.seat.token.me.1 _ c.args.n front.0 _ (ap (λ z. z.1) front.2) c.exchange.ensures.2 ∙ c.in-Some.is in (
      subst (λ l. c.args.n < buffers_of l) c.requires.seat.1 (seat.ready.numbered c.args.n (omega (arith, tied, once))),
      subst (λ l. IsBuffer l c.args.n c.in-Some.buffer) c.requires.seat.1 (seat.ready.bounded c.args.n c.in-Some.buffer (front.1 ∙ ap some is)),
    )

pub returns-clause-held : goal.returns-clause-held
returns-clause-held g c = let m = c.args.seat.now.token.me in let front = c.bring.ensures.front in
    let after = wrote m c.bring.new.seat.token.me c.exchange.new.seat.me c.args.n front.0 None front.2 c.exchange.ensures.3 in
    ap (λ z. lookup z.1) after ∙ front_held m.1 c.args.n None
