use Rattle.std.proofs.Common.{refl, sym, ap, ◌∙◌, subst, ◌<◌, None, ℕ}
use mathlib.Core.Option.{some, none}
use Rattle.packet_board.specs.Hands.{updated, nothing}
use Rattle.packet_board.specs.Holding.{updated_here, updated_back}
use Rattle.packet_board.specs.Seats.{view}
use Rattle.packet_pool.specs.Packets.{layout_in, number_of, content}
use Rattle.wire_tests.proofs.Posters.{posted_below, below_more, still_below, looked_poster}
use Rattle.wire_tests.proofs.moves.post.Goals as goal

pub post-requires-clause-packet : goal.post-requires-clause-packet
post-requires-clause-packet c = let p = c.requires.packet in let n = number_of c.args.packet in (ap (λ h. h n) p.0 ∙ updated_here n (some None) nothing, p.1)

pub returns-in-Ok-clause-order : goal.returns-in-Ok-clause-order
returns-in-Ok-clause-order c = posted_below (layout_in c.args.pool.now) (number_of c.args.packet) (content c.args.packet) c.args.order (view c.args.seat.now) (view c.post.new.seat) c.in-Ok.ensures.posted.0 c.requires.order.0

pub returns-in-Ok-clause-held : goal.returns-in-Ok-clause-held
returns-in-Ok-clause-held c = let n = number_of c.args.packet in c.in-Ok.ensures.posted.1 ∙ (ap (λ h. updated n none h) c.requires.packet.0 ∙ updated_back n (some None) nothing refl)

pub returns-in-Err-clause-order : goal.returns-in-Err-clause-order
returns-in-Err-clause-order c = let v = view c.args.seat.now in let w = view c.post.new.seat in below_more c.args.order w (still_below c.args.order v w (looked_poster v w c.in-Err.ensures.full.0) c.requires.order.0)

pub returns-in-Err-clause-held : goal.returns-in-Err-clause-held
returns-in-Err-clause-held c = let b = c.in-Err.ensures.back in let small = (layout_in c.args.pool.now).small in
    (b.2 ∙ (c.requires.packet.0 ∙ ap (λ z. updated z (some None) nothing) (sym b.0)), subst (λ (z : ℕ). z < small) (sym b.0) c.requires.packet.1)
