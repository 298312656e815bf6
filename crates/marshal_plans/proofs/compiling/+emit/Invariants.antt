use Rattle.std.proofs.Common.{◌≡◌, ◌++◌, drop}
use Rattle.marshal_plans.specs.Plan.{plans}
use Rattle.marshal_plans.specs.Forms.{forms_in}
use Rattle.marshal_plans.proofs.compiling.+emit.Given as goal

abbrev pub invariant-emit_all-loop-shape : goal.invariant-emit_all-loop-shape
invariant-emit_all-loop-shape l = l.code.items ++ plans (forms_in (drop l.shape-index l.shapes)) ≡ l.fn.code.items ++ plans (forms_in l.shapes)
