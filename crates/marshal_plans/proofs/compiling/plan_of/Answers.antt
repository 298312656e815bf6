use Rattle.std.proofs.Common.{rules}
use Rattle.marshal_plans.proofs.Depths.{is_plan}
use Rattle.marshal_plans.proofs.compiling.plan_of.Goals as goal

pub new-requires-2 : goal.new-requires-2
new-requires-2 c = is_plan c.new.result c.args.shapes.now (search rules) c.requires
