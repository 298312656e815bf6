-- What `stubs` does, by what its source and its sink tell, and by their counts of faults.
use Rattle.std.specs.Prelude.{◌≡◌, ℕ, ◌<◌, ◌||◌, nat_lt, Bool, List, [], ◌∷◌, take, length, Option, Some, None, IfSome, ◌⊎◌, Result, Ok, Err, if◌then◌else◌}
use Rattle.std.specs.declared.alloc.Global.{Global}
use Rattle.std.specs.declared.vec.Vec.{Vec}
use Rattle.interface_text.specs.Faults.{number_of}
use Rattle.interface_text.specs.Interfaces.{DeclaredInterface, DeclaredProcedure}
use Rattle.interface_text.specs.Kinds.{row}
use Rattle.interface_text.specs.Texts.{Declares, read_text}
use Rattle.interface_tokens.specs.Outcome.{Outcome}
use Rattle.marshal_plans.specs.Forms.{forms_of}
use Rattle.marshal_plans.specs.Lengths.{largest_all}
use Rattle.replay_model.specs.TextFault.{FaultAt}
use Rattle.commands.specs.declared.status.Status.{Status}
use Rattle.commands.specs.declared.status.Status.TheVariants as status
use Rattle.commands.specs.Outside.{Input, Output, ReadFailed, WriteFailed, ReadToEnd, Wrote, WroteUnlessFailed}
use Rattle.commands.specs.PlanText.{text_of}
use Rattle.commands.specs.Replay.{IsWithin, IsLong}
use Rattle.commands.specs.Status.{fault_line}

-- the arguments or the reply of a procedure may be longer than a call carries
abbrev pub is_long : DeclaredProcedure → Bool
is_long p = nat_lt 92160 (largest_all (forms_of (row p.arguments))) || nat_lt 92160 (largest_all (forms_of (row p.reply)))

-- the line of the first such procedure
abbrev pub long_line : List DeclaredProcedure → Option ℕ
long_line [] = None
long_line (p ∷ ps) = if is_long p then Some p.line else long_line ps

abbrev pub long_fault : Option ℕ → Option FaultAt
long_fault (Some line) = Some (record { line = line; number = 12 })
long_fault None = None

abbrev pub fault_of : Outcome DeclaredInterface → Option FaultAt
fault_of (Ok i) = long_fault (long_line i.procedures)
fault_of (Err f) = Some (record { line = f.0.line; number = number_of f.1 })

-- the first fault of a text: that of its interface, or, where it declares one, that of a plan that is too long
abbrev pub first_fault : List ℕ → Option FaultAt
first_fault text = fault_of (read_text text)

-- a text without a fault, and its plan text
pub record IsPlanText (text out : List ℕ) : Type 0 where
  pub interface : DeclaredInterface
  pub declared : Declares text interface
  pub short : long_line interface.procedures ≡ None
  pub told : out ≡ text_of interface

-- what was made of a text
abbrev pub PlanTextOf : Result (Vec ℕ Global) Status → List ℕ → Type 0
PlanTextOf (Ok out) text = IsPlanText text out.items
PlanTextOf (Err (status.BadText line number)) text = first_fault text ≡ Some (record { line = line; number = number })
PlanTextOf (Err status.NoMemory) text = Unit {0}
PlanTextOf (Err _) text = ⊥

-- why no plan text was made of this text
abbrev pub Unplanned : Status → List ℕ → Input → Input → Type 0
Unplanned (status.BadText line number) text from to =
    (first_fault text ≡ Some (record { line = line; number = number })) × IsWithin text × ReadToEnd to
Unplanned status.ReadFault text from to = ReadFailed from to
Unplanned status.TooLong text from to = IsLong text
Unplanned status.NoMemory text from to = Unit {0}
Unplanned _ text from to = ⊥

-- what was read and made of this text
abbrev pub ReadsPlans : Result (Vec ℕ Global) Status → List ℕ → Input → Input → Type 0
ReadsPlans (Ok out) text from to = IsPlanText text out.items × IsWithin text × ReadToEnd to
ReadsPlans (Err st) text from to = Unplanned st text from to

-- the plan text of the text was written
pub record Printed (text : List ℕ) (old new : Output) : Type 0 where
  pub out : List ℕ
  pub is_plan_text : IsPlanText text out
  pub within : IsWithin text
  pub written : Wrote out old new

-- a write failed: a front of the plan text was written
pub record PrintedInPart (text : List ℕ) (old new : Output) : Type 0 where
  pub out : List ℕ
  pub is_plan_text : IsPlanText text out
  pub within : IsWithin text
  pub count : ℕ
  pub part : count < length out
  pub written : Wrote (take count out) old new

-- what a status says of a run over this text
abbrev pub Says : Status → List ℕ → Input → Input → Output → Output → Type 0
Says status.Ok text from to old new = ReadToEnd to × Printed text old new
Says (status.BadText line number) text from to old new =
    Unplanned (status.BadText line number) text from to × WroteUnlessFailed [] (fault_line (status.BadText line number)) old new
Says status.ReadFault text from to old new =
    Unplanned status.ReadFault text from to × WroteUnlessFailed [] (fault_line status.ReadFault) old new
Says status.WriteFault text from to old new = WriteFailed old new × ReadToEnd to × PrintedInPart text old new
Says status.TooLong text from to old new =
    Unplanned status.TooLong text from to × WroteUnlessFailed [] (fault_line status.TooLong) old new
Says status.NoMemory text from to old new = WroteUnlessFailed [] (fault_line status.NoMemory) old new
Says _ text from to old new = ⊥

-- a status of `stubs`, over what was told before and after: what it says, and when it comes
pub record Stubs (st : Status) (from to : Input) (old new : Output) : Type 0 where
  -- the text is what the source had left, where it tells that
  pub text : List ℕ
  pub is_text : IfSome from.left (λ left. left ≡ text)
  pub says : Says st text from to old new
  -- the plan text of a text within the limits is written, unless a call of the source or the sink fails or memory runs out
  pub prints : (out : List ℕ) → IsPlanText text out → IsWithin text
      → (ReadFailed from to → ⊥) → (WriteFailed old new → ⊥) → ((st ≡ status.Ok) × Wrote out old new) ⊎ (st ≡ status.NoMemory)
  -- a text within the limits that has a fault is refused at the first
  pub refuses : (f : FaultAt) → first_fault text ≡ Some f → IsWithin text → (ReadFailed from to → ⊥)
      → (st ≡ status.BadText f.line f.number) ⊎ (st ≡ status.NoMemory)
  -- a text beyond the limits is too long
  pub stops : IsLong text → (ReadFailed from to → ⊥) → (st ≡ status.TooLong) ⊎ (st ≡ status.NoMemory)
