-- What holds of the exports of a server at all times.
use Rattle.std.specs.Prelude.{ℕ, ◌≡◌, ◌≤◌, ◌<◌, IsTrue, List, length, Option, Some}
use Rattle.binder.specs.declared.interface.InterfaceName.{InterfaceName}
use Rattle.binder.specs.declared.row.ExportRow.{ExportRow}
use Rattle.binder.specs.Exports.{Exports, is_row_of, row_at, row_count}

-- no two rows have one name
pub record NamesDiffer (rows : List (Option ExportRow)) : Type 0 where
  pub one : (name : InterfaceName) (i j : ℕ) → IsTrue (is_row_of name (row_at rows i)) → IsTrue (is_row_of name (row_at rows j)) → i ≡ j

-- these are the exports of a server that booted in a second
pub record AreSound (boot : ℕ) (exports : Exports) : Type 0 where
  pub size : length exports.rows ≡ row_count
  pub names : NamesDiffer exports.rows
  -- the identifiers in the rows were given since boot
  pub begun : boot ≤ exports.next
  pub since_boot : (i : ℕ) (row : ExportRow) → row_at exports.rows i ≡ Some row → boot ≤ row.identifier
  pub given : (i : ℕ) (row : ExportRow) → row_at exports.rows i ≡ Some row → row.identifier < exports.next
  -- no two rows have one identifier
  pub identifiers : (i j : ℕ) (a b : ExportRow) → row_at exports.rows i ≡ Some a → row_at exports.rows j ≡ Some b
      → a.identifier ≡ b.identifier → i ≡ j
