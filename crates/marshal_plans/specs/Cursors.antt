-- The values from a place on.
use Rattle.std.specs.Prelude.{Option, Some, None}
use Rattle.marshal_plans.specs.declared.cursor.Cursor.{Cursor}
use Rattle.marshal_plans.specs.declared.cursor.Taken.{Taken}
use Rattle.marshal_plans.specs.declared.cursor.Taken.TheVariants.{Number, Group}
use Rattle.marshal_plans.specs.Data.{Datum, Data, plain, group, no_data, datum_then, data_of, behind_bytes}

abbrev pub cursor_data : Cursor → Data
cursor_data c = behind_bytes c.bytes.now (data_of c.others.now)

abbrev pub taken_datum : Taken → Datum
taken_datum (Number n) = plain n
taken_datum (Group c) = group (cursor_data c)

abbrev pub cut_data : Option (Taken × Cursor) → Data
cut_data None = no_data
cut_data (Some r) = datum_then (taken_datum r.0) (cursor_data r.1)
