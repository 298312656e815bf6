-- The bytes that a source or a sink tells: what is left to read, what was written. It is `None` where they aren't told.
use Rattle.std.specs.Prelude.{◌≡◌, List, ℕ, Option, None, IsSome}
use Rattle.std.specs.Io.KnownBytes.{prepend_known, append_known}

-- no bytes are told
abbrev pub untold : Option (List ℕ)
untold = None

-- a source gave these bytes: what was left are they, and then what is left now; where one was told, both are
abbrev pub Gave : List ℕ → Option (List ℕ) → Option (List ℕ) → Type 0
Gave bytes old new = old ≡ prepend_known bytes new

-- these bytes were appended: where what was written is told now, it was told before, and they stand at its end
abbrev pub Appended : List ℕ → Option (List ℕ) → Option (List ℕ) → Type 0
Appended bytes old new = IsSome new → new ≡ append_known old bytes
