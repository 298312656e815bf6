-- One turn of reading values by a plan.
use Rattle.std.specs.Prelude.{◌≡◌, ◌<◌, ◌≤◌, ◌+◌, ℕ, max, List, Result, Ok, Err}
use Rattle.std.specs.Borrow.{Bor}
use Rattle.marshal_plans.specs.declared.fault.GetFault.{GetFault}
use Rattle.marshal_plans.specs.declared.getting.Unread.{Unread}
use Rattle.marshal_plans.specs.declared.getting.Begun.{Begun}
use Rattle.marshal_plans.specs.declared.getting.Begun.TheVariants.{Whole, Group}
use Rattle.marshal_plans.specs.declared.getting.GetTurn.{GetTurn}
use Rattle.marshal_plans.specs.declared.getting.GetTurn.TheVariants.{Done, Along, Down}
use Rattle.marshal_plans.specs.Data.{Data, group, datum_then, datum_of, data_of}
use Rattle.marshal_plans.specs.Forms.{Form}
use Rattle.marshal_plans.specs.Lefts.{Todo, IsLeft, todo_groups, reads_todo, left_size, left_bound}
use Rattle.marshal_plans.specs.Plan.{groups}
use Rattle.marshal_plans.specs.Reading.{Read, ◌>>=◌, reads, with_front}
use Rattle.marshal_plans.specs.Steps.{Fails}

-- a group's values, those that were read and those that are left
abbrev pub rest_read : ℕ → Todo → Unread → List ℕ → Read Data
rest_read total t level rest = with_front (data_of level.values.items) (reads_todo total t rest)

-- the same where the values of a group that has begun come next
abbrev pub behind_group : ℕ → Todo → Unread → Read Data → Read Data
behind_group total t level inner =
    with_front (data_of level.values.items) (inner >>= λ ds rest. reads_todo total t rest >>= λ es end. Ok (datum_then (group ds) es, end))

-- what a turn leaves reads what there was
abbrev pub GoesOn : ℕ → Todo → Unread → List ℕ → List ℕ → GetTurn → Type 0
GoesOn total t level bytes rest (Done values) = rest_read total t level bytes ≡ Ok (data_of values.items, rest)
GoesOn total t level bytes rest (Along more) =
    (u : Todo) × IsLeft u more.left × (todo_groups u ≤ todo_groups t) × (rest_read total t level bytes ≡ rest_read total u more rest)
GoesOn total t level bytes rest (Down more inner) =
    (u : Todo) × (w : Todo) × IsLeft u more.left × IsLeft w inner.left × (todo_groups u ≤ todo_groups t) × (todo_groups w + 1 ≤ todo_groups t)
    × (rest_read total t level bytes ≡ behind_group total u more (rest_read total w inner rest))

-- a turn leaves less than there was, and no number above the limit or those that there were
abbrev pub Lessens : ℕ → Unread → GetTurn → Type 0
Lessens limit level (Done values) = Unit {0}
Lessens limit level (Along more) = (left_size more.left < left_size level.left) × (left_bound more.left ≤ left_bound level.left)
Lessens limit level (Down more inner) =
    (left_size more.left < left_size level.left) × (left_bound more.left ≤ left_bound level.left)
    × (left_bound inner.left ≤ max limit (left_bound level.left))

-- A value is read whole, or, where it is a group, what stands before the group's own values is. The group's types nest less than the value's.
abbrev pub Begins : ℕ → Form → List ℕ → Result (Begun × List ℕ) GetFault → Type 0
Begins total f bytes (Ok (Whole v, rest)) = reads total f bytes ≡ Ok (datum_of v, rest)
Begins total f bytes (Ok (Group left, rest)) =
    (w : Todo) × IsLeft w left × (todo_groups w + 1 ≤ groups f) × (reads total f bytes ≡ (reads_todo total w rest >>= λ ds end. Ok (group ds, end)))
Begins total f bytes (Err e) = Fails e (reads total f bytes)

-- what a turn gave: it goes on, or fails as the reading does
abbrev pub TurnsOut : ℕ → Todo → Unread → List ℕ → Result (GetTurn × List ℕ) GetFault → Type 0
TurnsOut total t level bytes (Ok r) = GoesOn total t level bytes r.1 r.0
TurnsOut total t level bytes (Err e) = Fails e (rest_read total t level bytes)

-- a result with a slice, as it is with the slice's items
abbrev pub read_along : {A X : Type 0} → Result (A × Bor (List X)) GetFault → Result (A × List X) GetFault
read_along (Ok r) = Ok (r.0, r.1.now)
read_along (Err e) = Err e

-- no number of a group that has begun is above the limit
abbrev pub BeginsWithin : ℕ → Begun → Type 0
BeginsWithin limit (Whole v) = Unit {0}
BeginsWithin limit (Group left) = left_bound left ≤ limit
