use Rattle.std.proofs.Common.{◌^◌, ◌++◌, [], ◌∷◌, map}
use Rattle.marshal_plans.specs.Cursors.{cursor_data}
use Rattle.marshal_plans.proofs.PutStates.{PutState, put_size}
use Rattle.marshal_plans.proofs.Ranks.{rank}
use Rattle.marshal_plans.proofs.putting.run.Given as goal

abbrev pub invariant-loop-turn : goal.invariant-loop-turn
invariant-loop-turn l = PutState l.fn.plan (cursor_data l.fn.values) l.outer.items l.level l.fn.into l.into l.place

abbrev pub decreases-loop-turn : goal.decreases-loop-turn
decreases-loop-turn l = rank (2 ^ 65) 16 (map put_size l.outer.items ++ put_size l.level ∷ [])
