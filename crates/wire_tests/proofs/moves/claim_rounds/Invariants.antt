use Rattle.std.proofs.Common.{◌≤◌}
use Rattle.packet_board.specs.Hands.{HoldsNothing}
use Rattle.packet_board.specs.Seats.{held, IsSeatOf}
use Rattle.packet_pool.specs.Packets.{board_of}
use Rattle.wire_tests.proofs.moves.claim_rounds.Given as goal

abbrev pub invariant-loop-round : goal.invariant-loop-round
invariant-loop-round l = record {
  seat : IsSeatOf (board_of l.fn.pool) l.seat;
  nothing_held : HoldsNothing (held l.seat);
  counted : l.moved ≤ l.round;
}
