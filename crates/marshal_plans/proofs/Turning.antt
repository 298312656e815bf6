-- What comes next of a group.
use Rattle.std.proofs.Common.{◌≡◌, ◌≤◌, ◌-◌, ℕ, zero, suc, List, Some, None, sym, ◌∙◌, arith}
use Rattle.std.proofs.lemmas.List.{append-nil}
use Rattle.std.specs.Borrow.{Bor}
use Rattle.marshal_plans.specs.declared.instruction.Instruction.{Instruction}
use Rattle.marshal_plans.specs.declared.levels.Left.TheVariants.{Fields, Elements}
use Rattle.marshal_plans.specs.declared.step.Step.{Step}
use Rattle.marshal_plans.specs.Forms.{Form, Forms, form_then, no_forms}
use Rattle.marshal_plans.specs.Lefts.{Todo, all_of, elements, opened, IsLeft, IsTurn}
use Rattle.marshal_plans.specs.Plan.{plan, plans}
use Rattle.marshal_plans.specs.Steps.{Opens}

alone : (f : Form) (element : List Instruction) → element ≡ plan f → element ≡ plans (form_then f no_forms)
alone f element e = e ∙ sym (append-nil (plan f))

pub none_left : (t : Todo) (n : ℕ) (element : Bor (List Instruction)) → (1 ≤ n → ⊥) → IsLeft t (Elements n element) → IsTurn (opened t) None
none_left (all_of fs) n element none is = absurd is
none_left (elements zero f) n element none is = tt
none_left (elements (suc m) f) n element none is = absurd (none (omega (arith, is.0)))

pub none_next : (t : Todo) (n : ℕ) (element : Bor (List Instruction)) → 1 ≤ n → IsLeft t (Elements n element)
    → ((fs : Forms) → element.now ≡ plans fs → Opens fs None) → IsTurn (opened t) None
none_next (all_of fs) n element some is opens = absurd is
none_next (elements zero f) n element some is opens = tt
none_next (elements (suc m) f) n element some is opens = absurd (opens (form_then f no_forms) (alone f element.now is.1))

pub some_next : (t : Todo) (n m : ℕ) (element behind : Bor (List Instruction)) (step : Step) → (1 ≤ n) × (m ≡ n - 1) → IsLeft t (Elements n element)
    → ((fs : Forms) → element.now ≡ plans fs → Opens fs (Some (step, behind))) → IsTurn (opened t) (Some (step, Elements m element))
some_next (all_of fs) n m element behind step some is opens = absurd is
some_next (elements zero f) n m element behind step some is opens = absurd (omega (arith, is.0, some.0))
some_next (elements (suc k) f) n m element behind step some is opens =
    ((opens (form_then f no_forms) (alone f element.now is.1)).0, (omega (arith, is.0, some.0, some.1), is.1))

-- what comes next of a row of types
pub fields_none : (t : Todo) (plan : Bor (List Instruction)) → ((fs : Forms) → plan.now ≡ plans fs → Opens fs None) → IsLeft t (Fields plan)
    → IsTurn (opened t) None
fields_none (all_of no_forms) plan opens is = tt
fields_none (all_of (form_then f fs)) plan opens is = absurd (opens (form_then f fs) is)
fields_none (elements n f) plan opens is = absurd is

pub fields_some : (t : Todo) (plan behind : Bor (List Instruction)) (s : Step) → ((fs : Forms) → plan.now ≡ plans fs → Opens fs (Some (s, behind)))
    → IsLeft t (Fields plan) → IsTurn (opened t) (Some (s, Fields behind))
fields_some (all_of no_forms) plan behind s opens is = absurd (opens no_forms is)
fields_some (all_of (form_then f fs)) plan behind s opens is = opens (form_then f fs) is
fields_some (elements n f) plan behind s opens is = absurd is
