use Rattle.marshal_plans.proofs.LengthsBetween.{length_between}
use Rattle.marshal_plans.proofs.laws.lengths_are_between_least_and_largest.Goals as goal

pub returns : goal.returns
returns c = length_between
