use Rattle.std.proofs.Common.{◌≡◌, ◌+◌}
use Rattle.packet_board.specs.Seats.{view, held, IsSameSeat}
use Rattle.packet_pool.specs.Packets.{OnlyLooked, AllEmpty}
use Rattle.packet_pool.proofs.pool.Pool.take_from.Given as goal

abbrev pub invariant-loop-number : goal.invariant-loop-number
invariant-loop-number g l = record {
  same : IsSameSeat l.fn.seat l.seat;
  looked : OnlyLooked (view l.fn.seat) (view l.seat);
  held_still : held l.seat ≡ held l.fn.seat;
  empty : AllEmpty (view l.fn.seat).steps (view l.seat) l.first l.number;
  once : (view l.seat).steps + l.first ≡ (view l.fn.seat).steps + l.number;
}
