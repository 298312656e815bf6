use Rattle.std.proofs.Common.{drop}
use Rattle.marshal_plans.specs.Data.{data_of, behind_bytes}
use Rattle.marshal_plans.proofs.BytesPut.{BytesPut}
use Rattle.marshal_plans.proofs.putting.put_bytes.Given as goal

abbrev pub invariant-loop-value : goal.invariant-loop-value
invariant-loop-value l = BytesPut (behind_bytes l.bytes (data_of l.others)) (drop l.value-index l.others) l.fn.into l.into l.at l.place
