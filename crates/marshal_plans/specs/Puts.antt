-- One turn of writing values by a plan.
use Rattle.std.specs.Prelude.{◌≡◌, ◌<◌, ◌≤◌, ◌+◌, ℕ, max, List, Some, None, Option, Result, Ok, Err}
use Rattle.marshal_plans.specs.declared.fault.PutFault.{PutFault}
use Rattle.marshal_plans.specs.declared.fault.PutFault.TheVariants.{Shape, Room}
use Rattle.marshal_plans.specs.declared.putting.Unput.{Unput}
use Rattle.marshal_plans.specs.declared.putting.PutTurn.{PutTurn}
use Rattle.marshal_plans.specs.declared.putting.PutTurn.TheVariants.{Done, Along, Down}
use Rattle.marshal_plans.specs.Cursors.{cursor_data}
use Rattle.marshal_plans.specs.Data.{Datum}
use Rattle.marshal_plans.specs.Encoding.{enc, joined}
use Rattle.marshal_plans.specs.Forms.{Form}
use Rattle.marshal_plans.specs.Lefts.{Todo, IsLeft, todo_groups, enc_todo, left_size, left_bound}
use Rattle.marshal_plans.specs.Plan.{groups}
use Rattle.marshal_plans.specs.Writing.{Wrote}

-- the encoding of what is left of a group
abbrev pub rest_code : Todo → Unput → Option (List ℕ)
rest_code t level = enc_todo t (cursor_data level.values)

-- with the bytes that a turn wrote, what it leaves encodes what there was
abbrev pub Onward : Todo → Unput → List ℕ → PutTurn → Type 0
Onward t level bytes Done = rest_code t level ≡ Some bytes
Onward t level bytes (Along more) =
    (u : Todo) × IsLeft u more.left × (todo_groups u ≤ todo_groups t) × (rest_code t level ≡ joined (Some bytes) (rest_code u more))
Onward t level bytes (Down more inner) =
    (u : Todo) × (w : Todo) × IsLeft u more.left × IsLeft w inner.left × (todo_groups u ≤ todo_groups t) × (todo_groups w + 1 ≤ todo_groups t)
    × (rest_code t level ≡ joined (Some bytes) (joined (rest_code w inner) (rest_code u more)))

-- a turn writes and goes on, or the values aren't of the types
abbrev pub Turned : Todo → Unput → List ℕ → List ℕ → ℕ → Result (PutTurn × ℕ) PutFault → Type 0
Turned t level old new at (Ok r) = (bytes : List ℕ) × Wrote old new at r.1 bytes × Onward t level bytes r.0
Turned t level old new at (Err Shape) = rest_code t level ≡ None
Turned t level old new at (Err Room) = ⊥

-- a turn leaves less than there was, and no number above the limit or those that there were
abbrev pub Falls : ℕ → Unput → PutTurn → Type 0
Falls limit level Done = Unit {0}
Falls limit level (Along more) = (left_size more.left < left_size level.left) × (left_bound more.left ≤ left_bound level.left)
Falls limit level (Down more inner) =
    (left_size more.left < left_size level.left) × (left_bound more.left ≤ left_bound level.left)
    × (left_bound inner.left ≤ max limit (left_bound level.left))

-- A value is written whole, or, where it is a group, what stands before the group's own values is. The group's types nest less than the value's.
abbrev pub Started : Form → Datum → List ℕ → List ℕ → ℕ → Result (Option Unput × ℕ) PutFault → Type 0
Started f d old new at (Ok (None, next)) = (bytes : List ℕ) × (enc f d ≡ Some bytes) × Wrote old new at next bytes
Started f d old new at (Ok (Some inner, next)) =
    (w : Todo) × (bytes : List ℕ) × IsLeft w inner.left × (todo_groups w + 1 ≤ groups f) × (enc f d ≡ joined (Some bytes) (rest_code w inner))
    × Wrote old new at next bytes
Started f d old new at (Err Shape) = enc f d ≡ None
Started f d old new at (Err Room) = ⊥

-- what stands before the elements of an array is written, and their number is told
abbrev pub Headed : ℕ → Option (List ℕ) → List ℕ → List ℕ → ℕ → Result (ℕ × ℕ) PutFault → Type 0
Headed count code old new at (Ok r) = (r.0 ≡ count) × ((bytes : List ℕ) × (code ≡ Some bytes) × Wrote old new at r.1 bytes)
Headed count code old new at (Err Shape) = code ≡ None
Headed count code old new at (Err Room) = ⊥
