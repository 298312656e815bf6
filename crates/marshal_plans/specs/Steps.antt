-- What the first instructions of a plan ask for, and what functions that read give.
use Rattle.std.specs.Prelude.{◌≡◌, ℕ, List, length, Option, Some, None, Result, Ok, Err}
use Rattle.std.specs.Borrow.{Bor}
use Rattle.marshal_plans.specs.declared.basic.Basic.TheVariants.{Byte}
use Rattle.marshal_plans.specs.declared.fault.GetFault.{GetFault}
use Rattle.marshal_plans.specs.declared.fault.GetFault.TheVariants.{Short, Range, Left, Memory}
use Rattle.marshal_plans.specs.declared.instruction.Instruction.{Instruction}
use Rattle.marshal_plans.specs.declared.step.Step.{Step}
use Rattle.marshal_plans.specs.declared.step.Step.TheVariants as step
use Rattle.marshal_plans.specs.Plan.{plan, plans}
use Rattle.marshal_plans.specs.Forms.{Form, Forms, number, array, record_of, no_forms, form_then}

-- the step is what the type asks for, with the plan of its parts
abbrev pub IsStep : Form → Step → Type 0
IsStep (number b) (step.Item c) = b ≡ c
IsStep (array extent f) (step.Bytes x) = (extent ≡ x) × (f ≡ number Byte)
IsStep (array extent f) (step.Array x element) = (extent ≡ x) × (element.now ≡ plan f)
IsStep (record_of fs) (step.Record parts) = parts.now ≡ plans fs
IsStep _ _ = ⊥

-- the first step of the types' plan, and the plan behind it
abbrev pub Opens : Forms → Option (Step × Bor (List Instruction)) → Type 0
Opens no_forms None = Unit {0}
Opens no_forms (Some r) = ⊥
Opens (form_then f fs) None = ⊥
Opens (form_then f fs) (Some r) = IsStep f r.0 × (r.1.now ≡ plans fs)

-- the number of instructions of a step's parts
abbrev pub parts_len : Step → ℕ
parts_len (step.Item b) = 0
parts_len (step.Bytes extent) = 0
parts_len (step.Array extent element) = length element.now
parts_len (step.Record parts) = length parts.now

-- a failure is the one that reading has, unless memory ran out
abbrev pub Fails : {Y : Type 0} → GetFault → Result Y GetFault → Type 0
Fails Memory read = Unit {0}
Fails (Short at) read = read ≡ Err (Short at)
Fails (Range at) read = read ≡ Err (Range at)
Fails (Left at) read = read ≡ Err (Left at)

-- what a function returned, seen by view, is what reading gives, unless memory ran out
abbrev pub Gives : {X Y : Type 0} → (X → Y) → Result X GetFault → Result Y GetFault → Type 0
Gives view (Ok x) read = read ≡ Ok (view x)
Gives view (Err e) read = Fails e read
