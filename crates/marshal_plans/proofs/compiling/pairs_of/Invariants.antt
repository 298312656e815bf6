use Rattle.std.proofs.Common.{◌≡◌, ◌++◌, drop, map}
use Rattle.marshal_plans.specs.Pairs.{pair_of, plans_of}
use Rattle.marshal_plans.proofs.compiling.pairs_of.Given as goal

abbrev pub invariant-loop-procedure : goal.invariant-loop-procedure
invariant-loop-procedure l = map pair_of l.pairs.items ++ map plans_of (drop l.procedure-index l.procedures) ≡ map plans_of l.procedures
