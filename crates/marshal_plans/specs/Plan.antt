-- The plan of a type: its instructions in a flat list.
use Rattle.std.specs.Prelude.{◌≡◌, ◌≤◌, ◌+◌, ℕ, max, Bool, true, false, List, [], ◌∷◌, ◌++◌, length}
use Rattle.marshal_plans.specs.declared.basic.Basic.TheVariants.{Byte}
use Rattle.marshal_plans.specs.declared.instruction.Extent.{Extent}
use Rattle.marshal_plans.specs.declared.instruction.Instruction.{Instruction}
use Rattle.marshal_plans.specs.declared.instruction.Instruction.TheVariants.{Item, Bytes, Loop, Next, Record, End}
use Rattle.marshal_plans.specs.Forms.{Form, Forms, number, array, record_of, no_forms, form_then}

abbrev pub is_byte : Form → Bool
is_byte (number Byte) = true
is_byte _ = false

-- an array of bytes is one instruction, and any other is a loop over the instructions of an element
abbrev pub array_plan : Bool → Extent → List Instruction → List Instruction
array_plan true extent element = Bytes extent ∷ []
array_plan false extent element = Loop extent (length element) ∷ (element ++ Next ∷ [])

abbrev mutual
  pub plan : Form → List Instruction
  plan (number b) = Item b ∷ []
  plan (array extent f) = array_plan (is_byte f) extent (plan f)
  plan (record_of fs) = Record (length (plans fs)) ∷ (plans fs ++ End ∷ [])

  pub plans : Forms → List Instruction
  plans no_forms = []
  plans (form_then f fs) = plan f ++ plans fs

abbrev mutual
  -- how many groups stand in one another in a value at most
  pub groups : Form → ℕ
  groups (number b) = 0
  groups (array extent f) = groups f + 1
  groups (record_of fs) = groups_all fs + 1

  pub groups_all : Forms → ℕ
  groups_all no_forms = 0
  groups_all (form_then f fs) = max (groups f) (groups_all fs)

-- the instructions are the plan of types in which at most 16 groups stand in one another
pub record IsPlan (instructions : List Instruction) : Type 0 where
  pub forms : Forms
  pub made : instructions ≡ plans forms
  pub shallow : groups_all forms ≤ 16
