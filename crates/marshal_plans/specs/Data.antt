-- Values as plain data.
use Rattle.std.specs.Prelude.{ℕ, ℤ, pos, suc, List, [], ◌∷◌, map}
use Rattle.marshal_plans.specs.declared.value.Value.{Value}
use Rattle.marshal_plans.specs.declared.value.Values.{Values}
use Rattle.marshal_plans.specs.declared.value.Value.TheOpen.{Value-F, Values-F}
use Rattle.marshal_plans.specs.declared.value.Value.TheOpen as value
use Rattle.marshal_plans.specs.declared.value.Value.TheFolds.{fold-Value, fold-Values}

mutual
  -- a value: a number, or a group of values
  pub data Datum : Type 0 where
    plain : ℤ → Datum
    group : Data → Datum

  -- values in a row: none, or a first one and the row behind it
  pub data Data : Type 0 where
    no_data : Data
    datum_then : Datum → Data → Data

abbrev pub row : List Datum → Data
row [] = no_data
row (d ∷ ds) = datum_then d (row ds)

-- bytes, and the values behind them
abbrev pub behind_bytes : List ℕ → Data → Data
behind_bytes [] others = others
behind_bytes (b ∷ bs) others = datum_then (plain (pos b)) (behind_bytes bs others)

abbrev pub datum_step : Value-F Datum Data → Datum
datum_step (value.Number n) = plain n
datum_step (value.Group vs) = group vs

abbrev pub data_step : Values-F Datum Data → Data
data_step vs = behind_bytes vs.bytes.items (row vs.others.items)

-- what a value is
abbrev pub datum_of : Value → Datum
datum_of = fold-Value Datum Data datum_step data_step

-- what a list of values is, as a group has it
abbrev pub data_in : Values → Data
data_in = fold-Values Datum Data datum_step data_step

-- the same of a list of values by themselves
abbrev pub data_of : List Value → Data
data_of vs = row (map datum_of vs)

-- the number of values
abbrev pub count : Data → ℕ
count no_data = 0
count (datum_then d ds) = suc (count ds)

-- values, and others behind them
abbrev pub followed : Data → Data → Data
followed no_data others = others
followed (datum_then d ds) others = datum_then d (followed ds others)

-- the values at the front of a list that stand there as bytes
abbrev pub bytes_in : Values → List ℕ
bytes_in vs = vs.bytes.items
