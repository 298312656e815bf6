use Rattle.std.proofs.Common.{arith}
use Rattle.std.proofs.lemmas.Grind.{common_steps}
use Rattle.marshal_plans.proofs.ByteGroups.{read_many, read_few}
use Rattle.marshal_plans.proofs.reading.bytes_at.Goals as goal

pub returns-then-bytes-count-clause-read : goal.returns-then-bytes-count-clause-read
returns-then-bytes-count-clause-read c = read_few c.args.total c.args.count c.args.bytes.now c.if-bytes-count.true (λ i. omega (arith, c.type_inv.bytes i))

pub returns-clause-read : goal.returns-clause-read
returns-clause-read c =
    let e = read_many c.args.total c.args.count c.args.bytes.now c.if-bytes-count.false (λ i. omega (arith, c.type_inv.bytes i)) in
    grind (arith, common_steps)
