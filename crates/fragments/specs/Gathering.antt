-- What a buffer holds of a text whose pieces are gathered there.
use Rattle.std.specs.Prelude.{ℕ, ◌≡◌, List, take}
use Rattle.fragments.specs.declared.gathered.Gathered.{Gathered}
use Rattle.fragments.specs.Pieces.{front}

-- the first `len` bytes of the buffer are the pieces of the text before the one that is due next
pub record Gathers (text : List ℕ) (gathered : Gathered) (buffer : List ℕ) : Type 0 where
  pub bytes : take gathered.len buffer ≡ front text gathered.next
