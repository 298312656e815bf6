-- What the calls answer, said by the definitions of the exports.
use Rattle.std.proofs.Common.{◌≡◌, ◌+◌, ℕ, List, set, Option, Some, None, if◌then◌else◌, is_some, unwrap_or, refl, ap, sym, ◌∙◌}
use Rattle.std.specs.Prelude.{option_and_then}
use Rattle.indexmap.specs.IndexMap.{IndexMap}
use Rattle.binder.specs.declared.interface.InterfaceName.{InterfaceName}
use Rattle.binder.specs.declared.row.ExportFault.{ExportFault}
use Rattle.binder.specs.declared.row.ExportRow.{ExportRow}
use Rattle.binder.specs.Exports.{Exports, binding_at, export_fault, exported, free_place, freed, look_up, place_of, withdrawn}
use Rattle.binder.specs.Index.{IsKept, place_in}

-- a name is looked up where the index has it
looked_up : {S : Type 0} (rows : List (Option ExportRow)) (next : ℕ) (index : Option (IndexMap InterfaceName ℕ S)) (name : InterfaceName)
    (place : Option ℕ) → IsKept rows next index → place_in index name ≡ place
    → option_and_then (binding_at rows) place ≡ look_up rows name
unfolding look_up
looked_up rows next index name place h at = ap (option_and_then (binding_at rows)) (sym at ∙ h.indexed name)

pub found : {S : Type 0} (rows : List (Option ExportRow)) (next : ℕ) (index : Option (IndexMap InterfaceName ℕ S)) (name : InterfaceName)
    (i : ℕ) → IsKept rows next index → place_in index name ≡ Some i → binding_at rows i ≡ look_up rows name
found rows next index name i h at = looked_up rows next index name (Some i) h at

pub not_found : {S : Type 0} (rows : List (Option ExportRow)) (next : ℕ) (index : Option (IndexMap InterfaceName ℕ S)) (name : InterfaceName)
    → IsKept rows next index → place_in index name ≡ None → None ≡ look_up rows name
not_found rows next index name h at = looked_up rows next index name None h at

-- the rows after an export
pub exported_is : (e : Exports) (name : InterfaceName) (procedures i : ℕ) → free_place e.rows ≡ Some i
    → record {
      rows = set e.rows i (Some (record { name = name; identifier = e.next; procedures = procedures }));
      next = e.next + 1;
    } ≡ exported e name procedures
unfolding exported
exported_is e name procedures i free =
    let made : Option ℕ → Exports = λ p.
    record {
      rows = set e.rows (unwrap_or p 0) (Some (record { name = name; identifier = e.next; procedures = procedures }));
      next = e.next + 1;
    } in
    ap made (sym free)

-- the rows after a withdrawal
pub withdrawn_is : (e : Exports) (name : InterfaceName) (place : Option ℕ) → place_of e.rows name ≡ place
    → record { rows = freed e.rows place; next = e.next } ≡ withdrawn e name
unfolding withdrawn
withdrawn_is e name place at =
    let made : Option ℕ → Exports = λ p. record { rows = freed e.rows p; next = e.next } in
    ap made (sym at)

absent_if : (p : Option ℕ) (f : ExportFault) (rest : Option ExportFault) → (if is_some p then Some f else rest) ≡ None → p ≡ None
absent_if None f rest h = refl
absent_if (Some i) f rest h = absurd (cc)

-- a name that may be exported has no row
pub absent : (e : Exports) (name : InterfaceName) (now : ℕ) → export_fault e name now ≡ None → place_of e.rows name ≡ None
unfolding export_fault
absent e name now h = absent_if (place_of e.rows name) _ _ h
