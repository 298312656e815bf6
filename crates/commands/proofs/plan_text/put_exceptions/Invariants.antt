use Rattle.std.proofs.Common.{◌≡◌, ◌+◌, ◌++◌, drop}
use Rattle.commands.proofs.PlanLines.{exception_rest}
use Rattle.commands.proofs.plan_text.put_exceptions.Given as goal

abbrev pub invariant-loop-index : goal.invariant-loop-index
invariant-loop-index l = l.out.items ++ exception_rest (l.index + 1) (drop l.index l.names) ≡ l.fn.out.items ++ exception_rest 1 l.names
