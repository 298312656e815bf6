use Rattle.std.proofs.Common.{◌<◌, length, arith, ap}
use Rattle.std.proofs.lemmas.List.{length-map}
use Rattle.marshal_plans.specs.Pairs.{pair_of, plans_of}
use Rattle.commands.proofs.PlanLines.{same_at}
use Rattle.commands.proofs.plan_text.put_procedures.Goals as goal

pub put_procedure-requires-clause-plans : goal.put_procedure-requires-clause-plans
put_procedure-requires-clause-plans c =
    let below : c.loop-index.index < length c.args.pairs.now =
    omega (arith, c.loop-index-test.true, ap length c.requires.plans, length-map c.args.pairs.now pair_of, length-map c.args.procedures.now plans_of) in
    same_at pair_of plans_of c.args.pairs.now c.args.procedures.now c.loop-index.index c.index-pairs-index.result c.index-procedures-index.result
    c.requires.plans below c.loop-index-test.true c.index-pairs-index.is c.index-procedures-index.is
