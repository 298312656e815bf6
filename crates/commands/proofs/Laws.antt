-- Laws of the crates below, as the proofs here are given them.
use Rattle.std.proofs.Common.{◌≡◌, ℕ, List, [], ◌++◌, Option, None}
use Rattle.std.specs.Prelude.{All}
use Rattle.ff_io.specs.Told.{Appended}
use Rattle.replay_model.specs.declared.event.Event.{Event}
use Rattle.replay_model.specs.Lines.{EndsLine, lines_of}
use Rattle.replay_model.specs.Record.{Act}
use Rattle.replay_model.specs.World.{first_world}
use Rattle.replay_model.specs.Step.{run}
use Rattle.replay_model.specs.Once.{Once}
use Rattle.replay_model.specs.Forms.{InRange}
use Rattle.replay_model.specs.Script.{Script, IsScript}
use Rattle.replay_model.specs.TextFault.{first_fault}

-- after any events that a script can have Once holds
abbrev pub OnceLaw : Type 0
OnceLaw = (small long : ℕ) (events : List Event) → All InRange events → Once (run (first_world small long) events)

-- no text is two scripts
abbrev pub OneReading : Type 0
OneReading = (text : List ℕ) (a b : Script) → IsScript text a → IsScript text b → a ≡ b

-- a script has no fault
abbrev pub NoFault : Type 0
NoFault = (text : List ℕ) (s : Script) → IsScript text s → first_fault text ≡ None

-- nothing was appended
abbrev pub Nothing : Type 0
Nothing = (told : Option (List ℕ)) → Appended [] told told

-- these bytes were appended, and then those
abbrev pub InTurn : Type 0
InTurn = (these those : List ℕ) (old mid new : Option (List ℕ)) → Appended these old mid → Appended those mid new → Appended (these ++ those) old new

-- all that happens prints whole lines
abbrev pub WholeLines : Type 0
WholeLines = (acts : List Act) → EndsLine (lines_of acts)

-- whole lines, and then whole lines
abbrev pub LinesJoin : Type 0
LinesJoin = (these those : List ℕ) → EndsLine these → EndsLine those → EndsLine (these ++ those)
