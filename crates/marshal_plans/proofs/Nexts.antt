-- What comes next of a group.
use Rattle.std.proofs.Common.{◌≡◌, ◌≤◌, zero, suc, Some, refl, arith}
use Rattle.marshal_plans.specs.declared.levels.Left.{Left}
use Rattle.marshal_plans.specs.declared.step.Step.{Step}
use Rattle.marshal_plans.specs.Forms.{Form, no_forms, form_then}
use Rattle.marshal_plans.specs.Lefts.{Todo, all_of, elements, opened, IsLeft, IsTurn, todo_groups}
use Rattle.marshal_plans.specs.Plan.{groups}
use Rattle.marshal_plans.specs.Steps.{IsStep}

-- the type that comes next, and what is left behind its value
pub record Next (t : Todo) (s : Step) (left : Left) : Type 0 where
  pub form : Form
  pub todo : Todo
  pub step : IsStep form s
  pub is : IsLeft todo left
  pub shallower : todo_groups todo ≤ todo_groups t
  pub shallow : groups form ≤ todo_groups t
  pub same : opened t ≡ Some (form, todo)

pub next_of : (t : Todo) (s : Step) (left : Left) → IsTurn (opened t) (Some (s, left)) → Next t s left
next_of (all_of no_forms) s left h = absurd h
next_of (all_of (form_then f fs)) s left h =
    record { form = f; todo = all_of fs; step = h.0; is = h.1; shallower = omega arith; shallow = omega arith; same = refl }
next_of (elements zero f) s left h = absurd h
next_of (elements (suc n) f) s left h =
    record { form = f; todo = elements n f; step = h.0; is = h.1; shallower = omega arith; shallow = omega arith; same = refl }
