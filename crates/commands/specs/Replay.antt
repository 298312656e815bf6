-- What `replay` does, by what its source and its sink tell, and by their counts of faults.
use Rattle.std.specs.Prelude.{◌≡◌, ℕ, ◌≤◌, ◌<◌, List, [], ◌++◌, length, Some, IfSome, ◌⊎◌, Result, Ok, Err}
use Rattle.script_text.specs.declared.script.Script.{Script as Parsed}
use Rattle.script_text.specs.Reading.{script_of}
use Rattle.replay_model.specs.declared.event.Event.{Event}
use Rattle.replay_model.specs.Lines.{EndsLine}
use Rattle.replay_model.specs.Script.{Script, IsScript}
use Rattle.replay_model.specs.TextFault.{FaultAt, first_fault, line_count}
use Rattle.replay_model.specs.World.{World, first_world}
use Rattle.replay_model.specs.Step.{run}
use Rattle.replay_model.specs.Transcript.{lines_from, transcript, last_world}
use Rattle.replay_model.specs.Once.{Once}
use Rattle.commands.specs.declared.replay.TheConstants.{INPUT_LIMIT, LINE_LIMIT}
use Rattle.commands.specs.declared.status.Status.{Status}
use Rattle.commands.specs.declared.status.Status.TheVariants as status
use Rattle.commands.specs.Outside.{Input, Output, ReadFailed, WriteFailed, ReadToEnd, Wrote, WroteUnlessFailed}
use Rattle.commands.specs.Status.{fault_line}

-- the text has more bytes or more lines than the limits
abbrev pub IsLong : List ℕ → Type 0
IsLong text = (INPUT_LIMIT < length text) ⊎ (LINE_LIMIT < line_count text)

pub record IsWithin (text : List ℕ) : Type 0 where
  pub bytes : length text ≤ INPUT_LIMIT
  pub lines : line_count text ≤ LINE_LIMIT

abbrev pub NoScript : List ℕ → Type 0
NoScript text = (s : Script) → IsScript text s → ⊥

-- the world that a script begins with
abbrev pub world_of : Script → World
world_of s = first_world s.small s.long

-- some events of a script were played, whose lines begin with these bytes, and after them Once holds
pub record PlayedInPart (s : Script) (shown : List ℕ) : Type 0 where
  pub played : List Event
  pub later : List Event
  pub parts : s.events ≡ played ++ later
  pub more : List ℕ
  pub printed : lines_from (world_of s) played ≡ shown ++ more
  pub rest : List ℕ
  pub front : transcript s ≡ shown ++ rest
  pub once : Once (run (world_of s) played)

-- a part of the transcript was written
pub record WroteFront (s : Script) (old new : Output) : Type 0 where
  pub shown : List ℕ
  pub of_script : PlayedInPart s shown
  pub written : Wrote shown old new

-- whole lines of the transcript were written, and no write failed
pub record WroteLines (s : Script) (old new : Output) : Type 0 where
  pub shown : List ℕ
  pub whole_lines : EndsLine shown
  pub of_script : PlayedInPart s shown
  pub written : Wrote shown old new
  pub still : new.faults ≡ old.faults

-- why a script was played in part
abbrev pub Stopped : Status → Script → Output → Output → Type 0
Stopped status.WriteFault s old new = WriteFailed old new × WroteFront s old new
Stopped status.NoMemory s old new = WroteLines s old new
Stopped _ s old new = ⊥

-- why no script was read of this text
abbrev pub Unread : Status → List ℕ → Input → Input → Type 0
Unread (status.BadText line number) text from to =
    (first_fault text ≡ Some (record { line = line; number = number })) × IsWithin text × ReadToEnd to
Unread status.ReadFault text from to = ReadFailed from to
Unread status.TooLong text from to = IsLong text
Unread status.NoMemory text from to = Unit {0}
Unread _ text from to = ⊥

-- what was read of this text
abbrev pub Reads : Result Parsed Status → List ℕ → Input → Input → Type 0
Reads (Ok s) text from to = IsScript text (script_of s) × IsWithin text × ReadToEnd to
Reads (Err st) text from to = Unread st text from to

-- the script of the text was played: its transcript was written, and after its events Once holds
pub record Played (text : List ℕ) (old new : Output) : Type 0 where
  pub script : Script
  pub is_script : IsScript text script
  pub within : IsWithin text
  pub written : Wrote (transcript script) old new
  pub once : Once (last_world script)

-- a write failed: a front of the transcript was written
pub record Broke (text : List ℕ) (old new : Output) : Type 0 where
  pub script : Script
  pub is_script : IsScript text script
  pub within : IsWithin text
  pub front : WroteFront script old new

-- memory ran out: whole lines of the transcript were written, or nothing, and then the fault line
pub record RanOut (text : List ℕ) (old new : Output) : Type 0 where
  pub shown : List ℕ
  pub whole_lines : EndsLine shown
  -- of a script, some events were played, also where nothing was written
  pub of_script : (s : Script) → IsScript text s → PlayedInPart s shown
  -- of another text nothing was written, nor of one that is too long
  pub of_no_script : NoScript text → shown ≡ []
  pub of_long : IsLong text → shown ≡ []
  pub written : WroteUnlessFailed shown (fault_line status.NoMemory) old new

-- what a status says of a run over this text
abbrev pub Says : Status → List ℕ → Input → Input → Output → Output → Type 0
Says status.Ok text from to old new = ReadToEnd to × Played text old new
Says (status.BadText line number) text from to old new =
    Unread (status.BadText line number) text from to × WroteUnlessFailed [] (fault_line (status.BadText line number)) old new
Says status.ReadFault text from to old new =
    Unread status.ReadFault text from to × WroteUnlessFailed [] (fault_line status.ReadFault) old new
Says status.WriteFault text from to old new = WriteFailed old new × ReadToEnd to × Broke text old new
Says status.TooLong text from to old new =
    Unread status.TooLong text from to × WroteUnlessFailed [] (fault_line status.TooLong) old new
Says status.NoMemory text from to old new = RanOut text old new
Says _ text from to old new = ⊥

-- a status of `replay`, over what was told before and after: what it says, and when it comes
pub record Replays (st : Status) (from to : Input) (old new : Output) : Type 0 where
  -- the text is what the source had left, where it tells that
  pub text : List ℕ
  pub is_text : IfSome from.left (λ left. left ≡ text)
  pub says : Says st text from to old new
  -- a script within the limits is played, unless a call of the source or the sink fails or memory runs out
  pub plays : (s : Script) → IsScript text s → IsWithin text
      → (ReadFailed from to → ⊥) → (WriteFailed old new → ⊥) → ((st ≡ status.Ok) × Wrote (transcript s) old new) ⊎ (st ≡ status.NoMemory)
  -- a text within the limits that has a fault is refused at the first
  pub refuses : (f : FaultAt) → first_fault text ≡ Some f → IsWithin text → (ReadFailed from to → ⊥)
      → (st ≡ status.BadText f.line f.number) ⊎ (st ≡ status.NoMemory)
  -- a text beyond the limits is too long
  pub stops : IsLong text → (ReadFailed from to → ⊥) → (st ≡ status.TooLong) ⊎ (st ≡ status.NoMemory)
