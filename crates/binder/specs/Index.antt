-- The index of the names inside the exports: it finds the row of each name.
use Rattle.std.specs.Prelude.{ℕ, ◌≡◌, ◌≤◌, ◌^◌, List, length, Option, option_and_then}
use Rattle.indexmap.specs.IndexMap.{IndexMap, get}
use Rattle.binder.specs.declared.interface.InterfaceName.{InterfaceName}
use Rattle.binder.specs.declared.row.ExportRow.{ExportRow}
use Rattle.binder.specs.Interfaces.{is_same_name}
use Rattle.binder.specs.Exports.{place_of, row_count}
use Rattle.binder.specs.Sound.{NamesDiffer}

-- the place that the index has for a name; before the first export there is no index
unfoldable pub place_in : {S : Type 0} → Option (IndexMap InterfaceName ℕ S) → InterfaceName → Option ℕ
place_in index name = option_and_then (λ places. get is_same_name places name) index

-- what holds of the rows, the next identifier and the index at all times
pub record IsKept {S : Type 0} (rows : List (Option ExportRow)) (next : ℕ) (index : Option (IndexMap InterfaceName ℕ S)) : Type 0 where
  pub size : length rows ≡ row_count
  pub next_fits : next ≤ 2 ^ 32
  pub indexed : (name : InterfaceName) → place_in index name ≡ place_of rows name
  pub names : NamesDiffer rows
