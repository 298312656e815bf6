use Rattle.std.proofs.Common.{◌≡◌, Some}
use Rattle.packet_board.specs.declared.buffer.Buffer.{Buffer}
use Rattle.packet_board.specs.Seats.{number, layout_of}
use Rattle.packet_pool.specs.Cells.{item}
use Rattle.packet_pool.specs.Packets.{HasNow}
use Rattle.packet_pool.proofs.pool.Pool.claim_word.Given as goal

abbrev pub ghosts-exchange : goal.ghosts-exchange
ghosts-exchange g a = record {
  chooses = λ v found notes. (y : Buffer) × (found ≡ Some y) × (notes ≡ g.L.PoolLaw.with_claimed (item a.old.tag a.cell y) v.notes) × g.L.PoolLaw.may_post y;
  tells = λ v word. ¬ (HasNow g.L.BoardLaw.holds (layout_of a.self.now) (number a.seat.now) v a.cell (λ w. w ≡ a.old));
}
