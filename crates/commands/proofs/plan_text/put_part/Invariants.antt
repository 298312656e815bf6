use Rattle.std.proofs.Common.{◌≡◌, ◌++◌, drop}
use Rattle.marshal_plans.specs.Forms.{forms_in}
use Rattle.commands.proofs.PlanLines.{instruction_rest, lengths_line}
use Rattle.commands.proofs.plan_text.put_part.Given as goal

abbrev pub invariant-loop-instruction : goal.invariant-loop-instruction
invariant-loop-instruction l =
    l.out.items ++ instruction_rest 0 (drop l.instruction-index l.plan) ≡ (l.fn.out.items ++ lengths_line (forms_in l.shapes)) ++ instruction_rest 0 l.plan
