use Rattle.std.proofs.Common.{◌≡◌, ◌++◌, drop}
use Rattle.std.specs.Prelude.{codes}
use Rattle.commands.proofs.PlanLines.{raise_rest}
use Rattle.commands.proofs.plan_text.put_raises.Given as goal

abbrev pub invariant-loop-number : goal.invariant-loop-number
invariant-loop-number l = l.out.items ++ raise_rest 0 (drop l.number-index l.numbers) ≡ (l.fn.out.items ++ codes "raises") ++ raise_rest 0 l.numbers
