-- What is told around a call: what a source has left and a sink has written, where they tell it, and their counts of faults.
use Rattle.std.specs.Prelude.{◌≡◌, ℕ, List, [], ◌++◌, take, Option, IfSome, ◌⊎◌}
use Rattle.ff_io.specs.Count.{Rose}
use Rattle.ff_io.specs.Told.{Appended}

-- of a source
pub record Input : Type 0 where
  pub left : Option (List ℕ)
  pub faults : ℕ

-- of a sink
pub record Output : Type 0 where
  pub written : Option (List ℕ)
  pub faults : ℕ

abbrev pub input : Option (List ℕ) → ℕ → Input
input left faults = record { left = left; faults = faults }

abbrev pub output : Option (List ℕ) → ℕ → Output
output written faults = record { written = written; faults = faults }

abbrev pub ReadFailed : Input → Input → Type 0
ReadFailed from to = Rose from.faults to.faults

abbrev pub WriteFailed : Output → Output → Type 0
WriteFailed old new = Rose old.faults new.faults

-- the input was read to its end
abbrev pub ReadToEnd : Input → Type 0
ReadToEnd to = IfSome to.left (λ left. left ≡ [])

-- these bytes were written, and nothing else
abbrev pub Wrote : List ℕ → Output → Output → Type 0
Wrote bytes old new = Appended bytes old.written new.written

-- of these bytes the first were surely written, and then the others; where a write failed, a part of these
pub data WroteUnlessFailed (sure bytes : List ℕ) (old new : Output) : Type 0 where
  All : Wrote (sure ++ bytes) old new → new.faults ≡ old.faults → WroteUnlessFailed sure bytes old new
  Part : (count : ℕ) → Wrote (sure ++ take count bytes) old new → WriteFailed old new → WroteUnlessFailed sure bytes old new

-- what was kept was written, all of it or nothing
pub record Flushed (before after : List ℕ) (old new : Output) : Type 0 where
  pub front : List ℕ
  pub parts : before ≡ front ++ after
  pub none_or_all : (front ≡ []) ⊎ (after ≡ [])
  pub written : Wrote front old new
