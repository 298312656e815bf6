-- The plans of procedures.
use Rattle.std.specs.Prelude.{List}
use Rattle.interface_text.specs.declared.interface.Procedure.{Procedure}
use Rattle.marshal_plans.specs.declared.instruction.Instruction.{Instruction}
use Rattle.marshal_plans.specs.declared.plan.PlanPair.{PlanPair}
use Rattle.marshal_plans.specs.Plan.{plans}
use Rattle.marshal_plans.specs.Forms.{forms_in}

-- the instructions of a procedure's arguments and of its reply
pub record Pair : Type 0 where
  pub arguments : List Instruction
  pub reply : List Instruction

abbrev pub plans_of : Procedure → Pair
plans_of p = record { arguments = plans (forms_in p.arguments); reply = plans (forms_in p.reply) }

abbrev pub pair_of : PlanPair → Pair
pair_of p = record { arguments = p.arguments; reply = p.reply }
