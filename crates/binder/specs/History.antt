-- The changes of a server's exports since it booted.
use Rattle.std.specs.Prelude.{ℕ, ◌≤◌, ◌+◌, List, [], ◌∷◌, Option, Some, None}
use Rattle.binder.specs.declared.interface.InterfaceName.{InterfaceName}
use Rattle.binder.specs.declared.row.ExportFault.{ExportFault}
use Rattle.binder.specs.Exports.{Exports, export_fault, exported, withdrawn}

pub data Change : Type 0 where
  Export : (name : InterfaceName) → (procedures now : ℕ) → Change
  Withdraw : (name : InterfaceName) → Change

-- an export that is refused changes nothing
abbrev pub exported_unless : Option ExportFault → Exports → InterfaceName → ℕ → Exports
exported_unless (Some fault) exports name procedures = exports
exported_unless None exports name procedures = exported exports name procedures

abbrev pub changed : Exports → Change → Exports
changed exports (Export name procedures now) = exported_unless (export_fault exports name now) exports name procedures
changed exports (Withdraw name) = withdrawn exports name

abbrev pub after : Exports → List Change → Exports
after exports [] = exports
after exports (change ∷ changes) = after (changed exports change) changes

-- the identifier that an export is given unless it is refused, before others
abbrev pub given_unless : Option ExportFault → ℕ → List ℕ → List ℕ
given_unless (Some fault) identifier others = others
given_unless None identifier others = identifier ∷ others

abbrev pub given_before : Exports → Change → List ℕ → List ℕ
given_before exports (Export name procedures now) others = given_unless (export_fault exports name now) exports.next others
given_before exports (Withdraw name) others = others

-- the identifiers that the changes give, in their order
abbrev pub identifiers : Exports → List Change → List ℕ
identifiers exports [] = []
identifiers exports (change ∷ changes) = given_before exports change (identifiers (changed exports change) changes)

-- each number is at least the first, and greater than those before it
abbrev pub AreRisingFrom : ℕ → List ℕ → Type 0
AreRisingFrom first [] = Unit {0}
AreRisingFrom first (n ∷ ns) = (first ≤ n) × AreRisingFrom (n + 1) ns
