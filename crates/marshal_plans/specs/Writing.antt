-- What functions that write give.
use Rattle.std.specs.Prelude.{◌≡◌, ◌<◌, ◌≤◌, ◌+◌, ℕ, List, ◌++◌, length, take, drop, nat_le, Option, Some, None, Result, Ok, Err, if◌then◌else◌}
use Rattle.marshal_plans.specs.declared.fault.PutFault.{PutFault}
use Rattle.marshal_plans.specs.declared.fault.PutFault.TheVariants.{Shape, Room}

-- The bytes stand from `at` on in the room, and all else is as before, if they fit. The place behind them is told, and lies outside the room
-- where they don't fit.
pub record Wrote (old new : List ℕ) (at next : ℕ) (bytes : List ℕ) : Type 0 where
  pub same_room : length new ≡ length old
  pub fitting : at + length bytes ≤ length old → (next ≡ at + length bytes) × (new ≡ take at old ++ (bytes ++ drop (at + length bytes) old))
  pub too_long : length old < at + length bytes → length old < next

-- values that have an encoding are written, and others are refused
abbrev pub Puts : List ℕ → List ℕ → ℕ → Result ℕ PutFault → Option (List ℕ) → Type 0
Puts old new at (Ok next) encoded = (bytes : List ℕ) × (encoded ≡ Some bytes) × Wrote old new at next bytes
Puts old new at (Err Shape) encoded = encoded ≡ None
Puts old new at (Err Room) encoded = ⊥

-- what is answered: the length of the encoding, if there is one and it fits
abbrev pub put_of : ℕ → Option (List ℕ) → Result ℕ PutFault
put_of room None = Err Shape
put_of room (Some bytes) = if nat_le (length bytes) room then Ok (length bytes) else Err Room
