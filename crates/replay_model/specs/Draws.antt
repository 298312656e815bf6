-- The numbers that a storm draws: a linear congruential generator modulo 2^64, after Knuth's MMIX, of whose numbers
-- the upper 31 bits serve.
use Rattle.std.specs.Prelude.{ℕ, ◌+◌, ◌*◌, ◌/◌, ◌%◌, ◌^◌}

-- the multiplier and the increment
abbrev pub multiplier : ℕ
multiplier = 6364136223846793005

abbrev pub increment : ℕ
increment = 1442695040888963407

-- a drawn number, and the generator's state behind it
pub record Drawn : Type 0 where
  pub value : ℕ
  pub x : ℕ

-- the generator's state behind x
abbrev pub next : ℕ → ℕ
next x = (x * multiplier + increment) % 2 ^ 64

-- a number below n
unfoldable pub draw : (x n : ℕ) → Drawn
draw x n = record { value = next x / 2 ^ 33 % n; x = next x }
