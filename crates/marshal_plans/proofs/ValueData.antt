-- What numbers and groups are.
use Rattle.std.proofs.Common.{◌≡◌, ◌∙◌, ap, sym, ℤ}
use Rattle.marshal_plans.specs.declared.value.Values.{Values}
use Rattle.marshal_plans.specs.declared.value.Value.TheOpen as value
use Rattle.marshal_plans.specs.declared.value.Value.TheVariants.{Number}
use Rattle.marshal_plans.specs.declared.value.Value.TheViews.{Group, rolls-Number, rolls-Group}
use Rattle.marshal_plans.specs.declared.value.Value.TheFolds.{fold-roll-Value}
use Rattle.marshal_plans.specs.Data.{Datum, Data, plain, group, datum_step, data_step, datum_of, data_in}

pub datum_number : (n : ℤ) → datum_of (Number n) ≡ plain n
datum_number n = ap datum_of (sym (rolls-Number n)) ∙ fold-roll-Value Datum Data datum_step data_step (value.Number n)

pub datum_group : (vs : Values) → datum_of (Group vs) ≡ group (data_in vs)
datum_group vs = ap datum_of (sym (rolls-Group vs)) ∙ fold-roll-Value Datum Data datum_step data_step (value.Group vs)
