use Rattle.std.proofs.Common.{map, sym, subst}
use Rattle.interface_text.specs.Depths.{IsShallow}
use Rattle.marshal_plans.specs.Pairs.{plans_of}
use Rattle.marshal_plans.proofs.Patching.{pairs_more}
use Rattle.marshal_plans.proofs.compiling.pairs_of.Goals as goal

pub loop-procedure-preserved : goal.loop-procedure-preserved
loop-procedure-preserved c =
    pairs_more c.loop-procedure.pairs.items c.push.new.self.items c.args.procedures.now c.loop-procedure.procedure-index c.procedure-item.result c.in_ok-pair.pair
    (map plans_of c.args.procedures.now) c.loop-procedure-test.true c.procedure-item.is c.in_ok-push.ensures.items c.in_ok-pair.ensures c.loop-procedure.invariant

pub pair_of-requires : goal.pair_of-requires
pair_of-requires c =
    subst IsShallow (sym c.procedure-item.is) (c.requires c.loop-procedure.procedure-index c.procedure-item.result c.loop-procedure-test.true)
