-- What `storm` does, by what its sink tells, and by its count of faults.
use Rattle.std.specs.Prelude.{◌≡◌, ℕ, ◌<◌, ◌≤◌, List, [], length, take, ◌⊎◌}
use Rattle.replay_model.specs.Once.{Once}
use Rattle.replay_model.specs.declared.options.TheConstants.{MOST_CALLS}
use Rattle.replay_model.specs.Rounds.{after_rounds, rounds_of, storm, world_of}
use Rattle.replay_model.specs.Summary.{IsBalanced, storm_text, summary_of}
use Rattle.commands.specs.declared.status.Status.{Status}
use Rattle.commands.specs.declared.status.Status.TheVariants as status
use Rattle.commands.specs.Outside.{Output, WriteFailed, Wrote, WroteUnlessFailed}
use Rattle.commands.specs.Status.{fault_line}

-- the storm was played: its summary was written, in which each call has one end or is open; after its events Once holds
pub record Stormed (seed calls : ℕ) (old new : Output) : Type 0 where
  pub written : Wrote (storm_text seed calls) old new
  pub balanced : IsBalanced (summary_of seed calls)
  pub once : Once (world_of (storm seed calls))

-- a write failed: a front of the summary was written
pub record StormedInPart (seed calls : ℕ) (old new : Output) : Type 0 where
  pub count : ℕ
  pub part : count < length (storm_text seed calls)
  pub written : Wrote (take count (storm_text seed calls)) old new
  pub once : Once (world_of (storm seed calls))

-- memory ran out: Once holds after each of the storm's rounds, as many as were played, and the fault line was written
pub record RanOut (seed calls : ℕ) (old new : Output) : Type 0 where
  pub once : calls ≤ MOST_CALLS → (rounds : ℕ) → rounds ≤ rounds_of calls → Once (world_of (after_rounds seed calls rounds))
  pub written : WroteUnlessFailed [] (fault_line status.NoMemory) old new

-- what a status says of a storm
abbrev pub Says : Status → (seed calls : ℕ) → Output → Output → Type 0
Says status.Ok seed calls old new = Stormed seed calls old new
Says status.WriteFault seed calls old new = WriteFailed old new × StormedInPart seed calls old new
Says status.NoMemory seed calls old new = RanOut seed calls old new
Says _ seed calls old new = ⊥

-- a status of `storm`, over what was told before and after: what it says, and when it comes
pub record Storms (st : Status) (seed calls : ℕ) (old new : Output) : Type 0 where
  pub says : Says st seed calls old new
  -- the summary is written, unless a call of the sink fails or memory runs out
  pub prints : (WriteFailed old new → ⊥) → ((st ≡ status.Ok) × Wrote (storm_text seed calls) old new) ⊎ (st ≡ status.NoMemory)
