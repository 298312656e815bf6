use Rattle.std.proofs.Common.{◌∙◌, ap}
use Rattle.marshal_plans.specs.declared.value.Value.TheViews.{Group}
use Rattle.marshal_plans.specs.Data.{Datum, group, no_data, datum_then, data_of, followed}
use Rattle.marshal_plans.proofs.GetTurns.{data_more}
use Rattle.marshal_plans.proofs.ValueData.{datum_group}
use Rattle.marshal_plans.proofs.getting.with_group.Goals as goal

pub returns-clause-values : goal.returns-clause-values
returns-clause-values c =
    let front = data_of c.args.level.values.items in
    data_more c.args.level.values.items c.push.new.self.items (Group c.new.result) c.in_ok-push.ensures.items
    ∙ ap (λ (d : Datum). followed front (datum_then d no_data)) (datum_group c.new.result ∙ ap group c.new.ensures.values)
