-- Counts of faults: 64 bits wide, and standing still at their end.
use Rattle.std.specs.Prelude.{ℕ, ◌+◌, ◌-◌, ◌^◌, ◌<◌, min}

-- where a count stands still
abbrev pub last_count : ℕ
last_count = 2 ^ 64 - 1

-- one more
abbrev pub next_count : ℕ → ℕ
next_count count = min (count + 1) last_count

-- a count rose: it is greater than before, or it stands at its end, where a rise can't be seen
abbrev pub Rose : ℕ → ℕ → Type 0
Rose old new = new < last_count → old < new
