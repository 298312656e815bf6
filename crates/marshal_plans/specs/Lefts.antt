-- What is left of the group that a plan's running is in.
use Rattle.std.specs.Prelude.{◌≡◌, ℕ, zero, suc, max, List, length, Option, Some, None}
use Rattle.marshal_plans.specs.declared.levels.Left.{Left}
use Rattle.marshal_plans.specs.declared.levels.Left.TheVariants.{Fields, Elements}
use Rattle.marshal_plans.specs.declared.step.Step.{Step}
use Rattle.marshal_plans.specs.Data.{Data}
use Rattle.marshal_plans.specs.Encoding.{enc, enc_all, each_of}
use Rattle.marshal_plans.specs.Forms.{Form, Forms, no_forms, form_then}
use Rattle.marshal_plans.specs.Plan.{plan, plans, groups, groups_all}
use Rattle.marshal_plans.specs.Reading.{Read, reads, reads_all, times}
use Rattle.marshal_plans.specs.Steps.{IsStep}

-- values that are still to come: one of each type, or so many of one type
pub data Todo : Type 0 where
  all_of : Forms → Todo
  elements : ℕ → Form → Todo

-- the first type, and what is left behind its value
abbrev pub opened : Todo → Option (Form × Todo)
opened (all_of no_forms) = None
opened (all_of (form_then f fs)) = Some (f, all_of fs)
opened (elements zero f) = None
opened (elements (suc n) f) = Some (f, elements n f)

-- the program's form of it
abbrev pub IsLeft : Todo → Left → Type 0
IsLeft (all_of fs) (Fields p) = p.now ≡ plans fs
IsLeft (elements n f) (Elements m element) = (n ≡ m) × (element.now ≡ plan f)
IsLeft _ _ = ⊥

abbrev pub IsTurn : Option (Form × Todo) → Option (Step × Left) → Type 0
IsTurn None None = Unit {0}
IsTurn (Some o) (Some r) = IsStep o.0 r.0 × IsLeft o.1 r.1
IsTurn _ _ = ⊥

abbrev pub todo_groups : Todo → ℕ
todo_groups (all_of fs) = groups_all fs
todo_groups (elements n f) = groups f

abbrev pub reads_todo : ℕ → Todo → List ℕ → Read Data
reads_todo total (all_of fs) rest = reads_all total fs rest
reads_todo total (elements n f) rest = times (reads total f) n rest

abbrev pub enc_todo : Todo → Data → Option (List ℕ)
enc_todo (all_of fs) ds = enc_all fs ds
enc_todo (elements n f) ds = each_of n (enc f) ds

-- how many values or instructions are left, and what no number in it is above
abbrev pub left_size : Left → ℕ
left_size (Fields p) = length p.now
left_size (Elements n element) = n

abbrev pub left_bound : Left → ℕ
left_bound (Fields p) = length p.now
left_bound (Elements n element) = max n (length element.now)
