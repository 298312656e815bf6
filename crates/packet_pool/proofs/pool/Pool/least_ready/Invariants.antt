use Rattle.std.proofs.Common.{◌≡◌, ℕ, ◌+◌, ◌<◌, ◌≤◌, IfSome}
use Rattle.packet_board.specs.Words.{buffers_of}
use Rattle.packet_board.specs.Seats.{view, held, IsSameSeat}
use Rattle.packet_pool.specs.Cells.{IsReadyWord}
use Rattle.packet_pool.specs.Packets.{layout_in, OnlyLooked, IsSeen}
use Rattle.packet_pool.specs.Least.{IsAfter, IsWaiting}
use Rattle.packet_pool.proofs.pool.Pool.least_ready.Given as goal

abbrev pub ghosts-load : goal.ghosts-load
ghosts-load g a = record { chooses = λ v found notes. Unit {0}; tells = λ v word. IsReadyWord v.layout word }

abbrev pub invariant-loop-cell : goal.invariant-loop-cell
invariant-loop-cell g l = record {
  same : IsSameSeat l.fn.seat l.seat;
  looked : OnlyLooked (view l.fn.seat) (view l.seat);
  held_still : held l.seat ≡ held l.fn.seat;
  seen : (cell : ℕ) → buffers_of (layout_in l.self) ≤ cell → cell < l.cell → IsSeen (view l.fn.seat).steps (view l.seat) cell (IsAfter l.least cell);
  once : (view l.seat).steps + buffers_of (layout_in l.self) ≡ (view l.fn.seat).steps + l.cell;
  found : IfSome l.least (IsWaiting (layout_in l.self) (view l.fn.seat).steps (view l.seat) l.cell);
}
