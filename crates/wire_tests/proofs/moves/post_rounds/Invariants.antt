use Rattle.std.proofs.Common.{◌≤◌}
use Rattle.packet_board.specs.Hands.{HoldsNothing}
use Rattle.packet_board.specs.Seats.{view, held, IsSeatOf}
use Rattle.packet_pool.specs.Packets.{board_of}
use Rattle.wire_tests.specs.Moves.{PostsBelow}
use Rattle.wire_tests.proofs.moves.post_rounds.Given as goal

abbrev pub invariant-loop-order : goal.invariant-loop-order
invariant-loop-order l = record {
  seat : IsSeatOf (board_of l.fn.pool) l.seat;
  nothing_held : HoldsNothing (held l.seat);
  below : PostsBelow l.order (view l.seat);
  counted : l.moved ≤ l.order;
}
