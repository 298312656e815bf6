use Rattle.std.proofs.Common.{◌≡◌, ◌+◌}
use Rattle.packet_board.specs.Words.{buffers_of}
use Rattle.packet_board.specs.Seats.{view, held, IsSameSeat}
use Rattle.packet_pool.specs.Packets.{layout_in, OnlyLooked}
use Rattle.packet_pool.specs.Waiting.{AllFull}
use Rattle.packet_pool.proofs.pool.Pool.post_stowed.Given as goal

abbrev pub invariant-loop-cell : goal.invariant-loop-cell
invariant-loop-cell g l = record {
  same : IsSameSeat l.fn.seat l.seat;
  looked : OnlyLooked (view l.fn.seat) (view l.seat);
  held_still : held l.seat ≡ held l.fn.seat;
  full : AllFull (layout_in l.self) (view l.fn.seat).steps (view l.seat) l.cell;
  once : (view l.seat).steps + buffers_of (layout_in l.self) ≡ (view l.fn.seat).steps + l.cell;
}
