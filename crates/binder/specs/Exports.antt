-- The exports of a server: sixteen rows and the next identifier, and what each call makes of them.
-- A binding is the index of a row and an identifier, after Birrell and Nelson's RPC.
use Rattle.std.specs.Prelude.{ℕ, ◌+◌, ◌==◌, nat_lt, Bool, false, List, replicate, Option, Some, None, is_some, is_none, unwrap_or, option_and_then, slice_index_or, slice_set, if◌then◌else◌}
use Rattle.std.specs.List.{position}
use Rattle.std.specs.Option.{option_map}
use Rattle.rpc_header.specs.declared.Export.{Export}
use Rattle.binder.specs.declared.interface.InterfaceName.{InterfaceName}
use Rattle.binder.specs.declared.row.ExportRow.{ExportRow}
use Rattle.binder.specs.declared.row.ExportFault.{ExportFault}
use Rattle.binder.specs.declared.row.ExportFault.TheVariants as fault
use Rattle.binder.specs.declared.row.Verdict.{Verdict}
use Rattle.binder.specs.declared.row.Verdict.TheVariants as verdict
use Rattle.binder.specs.Interfaces.{is_same_name}

-- the rows, each free or with an export, and the identifier of the next export
pub record Exports : Type 0 where
  pub rows : List (Option ExportRow)
  pub next : ℕ

abbrev pub row_count : ℕ
row_count = 16

-- a server that boots in a second exports nothing
abbrev pub booted : ℕ → Exports
booted now = record { rows = replicate row_count None; next = now }

-- the export in a row; there is none behind the last row
abbrev pub row_at : List (Option ExportRow) → ℕ → Option ExportRow
row_at rows index = slice_index_or rows index None

abbrev pub is_row_of : InterfaceName → Option ExportRow → Bool
is_row_of name None = false
is_row_of name (Some row) = is_same_name name row.name

-- the index of a name's row
abbrev pub place_of : List (Option ExportRow) → InterfaceName → Option ℕ
place_of rows name = position (is_row_of name) rows

-- the index of the first free row
abbrev pub free_place : List (Option ExportRow) → Option ℕ
free_place rows = position is_none rows

-- the binding to the export in a row
abbrev pub binding_at : List (Option ExportRow) → ℕ → Option Export
binding_at rows index =
    option_map (λ (row : ExportRow). record { identifier = row.identifier; index = index }) (row_at rows index)

-- the binding to the export of a name
unfoldable pub look_up : List (Option ExportRow) → InterfaceName → Option Export
look_up rows name = option_and_then (binding_at rows) (place_of rows name)

-- why a name can't be exported in a second: the first cause that applies
unfoldable pub export_fault : Exports → InterfaceName → ℕ → Option ExportFault
export_fault exports name now =
    if is_some (place_of exports.rows name) then Some fault.Exists
    else if is_none (free_place exports.rows) then Some fault.Full
    else if nat_lt now exports.next then Some (fault.TooFast exports.next now)
    else None

-- the next export: the least free row, and the next identifier
abbrev pub next_export : Exports → Export
next_export exports = record { identifier = exports.next; index = unwrap_or (free_place exports.rows) 0 }

-- the exports with one more, which has a number of procedures
unfoldable pub exported : Exports → InterfaceName → ℕ → Exports
exported exports name procedures =
    let row : ExportRow = record { name = name; identifier = exports.next; procedures = procedures } in
    record {
      rows = slice_set exports.rows (next_export exports).index (Some row);
      next = exports.next + 1;
    }

-- rows of which one is free
abbrev pub freed : List (Option ExportRow) → Option ℕ → List (Option ExportRow)
freed rows None = rows
freed rows (Some index) = slice_set rows index None

-- the exports without that of a name
unfoldable pub withdrawn : Exports → InterfaceName → Exports
withdrawn exports name = record exports { rows = freed exports.rows (place_of exports.rows name) }

-- what a row says to an identifier and a procedure
abbrev pub judged : Option ExportRow → (identifier procedure : ℕ) → Verdict
judged None identifier procedure = verdict.WrongBinding
judged (Some row) identifier procedure =
    if row.identifier == identifier
    then (if nat_lt procedure row.procedures then verdict.Accepted else verdict.NoProcedure)
    else verdict.WrongBinding

-- what the rows say to a binding and a procedure
unfoldable pub accepts : List (Option ExportRow) → Export → ℕ → Verdict
accepts rows export procedure = judged (row_at rows export.index) export.identifier procedure
