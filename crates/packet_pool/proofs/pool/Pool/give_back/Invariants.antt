use Rattle.std.proofs.Common.{◌≡◌}
use Rattle.packet_pool.proofs.pool.Pool.give_back.Given as goal

abbrev pub ghosts-exchange : goal.ghosts-exchange
ghosts-exchange g a = record { chooses = λ v found notes. notes ≡ v.notes; tells = λ v word. ⊥ }
