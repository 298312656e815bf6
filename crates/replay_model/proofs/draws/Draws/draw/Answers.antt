-- A product that is cut to 64 bits before the increment is added is cut as the sum is.
use Rattle.std.proofs.Common.{◌≡◌, ℕ, ◌+◌, ◌*◌, ◌/◌, ◌%◌, ◌^◌, ap}
use Rattle.std.proofs.Math.Nat.{mod-add-mod}
use Rattle.replay_model.specs.Draws.{Drawn, multiplier, increment, draw}
use Rattle.replay_model.proofs.draws.Draws.draw.Goals as goal

abbrev drawn_from : (x n : ℕ) → Drawn
drawn_from x n = record { value = x / 2 ^ 33 % n; x = x }

cut_once : (x n : ℕ) → drawn_from ((x * multiplier % 2 ^ 64 + increment) % 2 ^ 64) n ≡ draw x n
unfolding draw
cut_once x n = ap (λ (y : ℕ). drawn_from y n) (mod-add-mod (x * multiplier) (2 ^ 64) increment)

pub returns-clause-drawn : goal.returns-clause-drawn
returns-clause-drawn c = rw c.self.view_is (cut_once c.args.self.now c.args.n)
