-- A list of bytes: of numbers below 256.
use Rattle.std.specs.Prelude.{ℕ, ◌<◌, List, All}

abbrev pub AreBytes : List ℕ → Type 0
AreBytes bytes = All (λ byte. byte < 256) bytes
