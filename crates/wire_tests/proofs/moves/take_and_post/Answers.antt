use Rattle.packet_board.specs.Seats.{view}
use Rattle.wire_tests.proofs.Posters.{below_more, still_below}
use Rattle.wire_tests.proofs.moves.take_and_post.Goals as goal

pub posts-requires-clause-order : goal.posts-requires-clause-order
posts-requires-clause-order c = (still_below c.args.order (view c.args.seat.now) (view c.take.new.seat) c.take.ensures.notes c.requires.order.0, c.requires.order.1)

pub returns-in-None-clause-order : goal.returns-in-None-clause-order
returns-in-None-clause-order c = let w = view c.take.new.seat in below_more c.args.order w (still_below c.args.order (view c.args.seat.now) w c.take.ensures.notes c.requires.order.0)
