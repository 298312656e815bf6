use Rattle.std.proofs.Common.{◌^◌, ◌++◌, [], ◌∷◌, map}
use Rattle.marshal_plans.proofs.GetStates.{GetState, get_size}
use Rattle.marshal_plans.proofs.Ranks.{rank}
use Rattle.marshal_plans.proofs.getting.run.Given as goal

abbrev pub invariant-loop-outer : goal.invariant-loop-outer
invariant-loop-outer l = GetState l.total l.fn.plan l.bytes l.outer.items l.level l.rest

abbrev pub decreases-loop-outer : goal.decreases-loop-outer
decreases-loop-outer l = rank (2 ^ 65) 16 (map get_size l.outer.items ++ get_size l.level ∷ [])
