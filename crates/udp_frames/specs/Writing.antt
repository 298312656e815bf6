-- What bytes are once some were written over them.
use Rattle.std.specs.Prelude.{ℕ, ◌+◌, List, ◌++◌, length, take, drop}

-- the bytes with this part from a place on, in place of what stood there
unfoldable pub with_part : ℕ → List ℕ → List ℕ → List ℕ
with_part place part bytes = take place bytes ++ (part ++ drop (place + length part) bytes)
