use Rattle.std.proofs.Common.{◌≡◌, Some}
use Rattle.packet_board.specs.declared.buffer.Buffer.{Buffer}
use Rattle.packet_board.specs.Hands.{given_by}
use Rattle.packet_board.specs.Seats.{held}
use Rattle.packet_pool.specs.Cells.{item, HasPacket}
use Rattle.packet_pool.proofs.pool.Pool.try_post.Given as goal

abbrev pub ghosts-exchange : goal.ghosts-exchange
ghosts-exchange g a = record { chooses = λ v found notes. (y : Buffer) × (given_by a.new.buffer (held a.seat.now) ≡ Some y) × (notes ≡ g.L.PoolLaw.with_posted (item a.new.tag a.cell y) v.notes); tells = λ v word. HasPacket v.layout word }
