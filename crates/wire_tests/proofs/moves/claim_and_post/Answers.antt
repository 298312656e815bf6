use Rattle.packet_board.specs.Seats.{view}
use Rattle.wire_tests.proofs.Posters.{still_below}
use Rattle.wire_tests.proofs.moves.claim_and_post.Goals as goal

pub posts-requires-clause-order : goal.posts-requires-clause-order
posts-requires-clause-order c = (still_below c.args.order (view c.args.seat.now) (view c.claim.new.seat) c.claim.ensures.notes c.requires.order.0, c.requires.order.1)
