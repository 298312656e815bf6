use Rattle.std.proofs.Common.{◌≡◌}
use Rattle.packet_board.specs.Words.{empty}
use Rattle.packet_pool.specs.Laws.{after_take}
use Rattle.packet_pool.proofs.pool.Pool.try_take.Given as goal

abbrev pub ghosts-exchange : goal.ghosts-exchange
ghosts-exchange g a = record { chooses = λ v found notes. notes ≡ after_take g.L.PoolLaw.with_taken v.layout a.cell v.notes; tells = λ v word. word ≡ empty }
