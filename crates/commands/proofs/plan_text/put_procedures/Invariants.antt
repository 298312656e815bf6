use Rattle.std.proofs.Common.{◌≡◌, ◌++◌, drop}
use Rattle.commands.proofs.PlanLines.{seen_rest}
use Rattle.commands.proofs.plan_text.put_procedures.Given as goal

abbrev pub invariant-loop-index : goal.invariant-loop-index
invariant-loop-index l = l.out.items ++ seen_rest l.index (drop l.index l.procedures) ≡ l.fn.out.items ++ seen_rest 0 l.procedures
