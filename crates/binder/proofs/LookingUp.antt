-- What is looked up and accepted after an export and after a withdrawal.
use Rattle.std.proofs.Common.{◌≡◌, ◌≤◌, ◌<◌, ℕ, Bool, true, false, cond, if◌then◌else◌, IsSome, List, length, set, Option, Some, None, is_none, nat_lt, refl, ap, sym, ◌∙◌}
use Rattle.std.specs.Prelude.{option_and_then}
use Rattle.std.specs.Option.{option_map}
use Rattle.std.proofs.lemmas.Bool.{false_from_ne_true, false≢true}
use Rattle.std.proofs.lemmas.List.Quantifiers.{position-Some}
use Rattle.rpc_header.specs.declared.Export.{Export}
use Rattle.binder.specs.declared.interface.InterfaceName.{InterfaceName}
use Rattle.binder.specs.declared.row.ExportRow.{ExportRow}
use Rattle.binder.specs.declared.row.Verdict.TheVariants as verdict
use Rattle.binder.specs.Interfaces.{is_same_name}
use Rattle.binder.specs.Exports.{Exports, accepts, binding_at, export_fault, exported, freed, is_row_of, judged, look_up, next_export, place_of, row_at, withdrawn}
use Rattle.binder.specs.Sound.{AreSound, NamesDiffer}
use Rattle.binder.proofs.Judging.{judged_row, may_export}
use Rattle.binder.proofs.Kept.{both, names-taken, place-freed, place-taken}
use Rattle.binder.proofs.Places.{free-row, free-within, no_place, own_name, place-is, place-none, place-within, row-set_other, row-set_same, same_name}

-- rows that agree where a name is give it the same binding
look-at : (rows after : List (Option ExportRow)) (place : Option ℕ) → ((i : ℕ) → place ≡ Some i → row_at after i ≡ row_at rows i)
    → option_and_then (binding_at after) place ≡ option_and_then (binding_at rows) place
look-at rows after None h = refl
look-at rows after (Some i) h =
    ap (λ (r : Option ExportRow). option_map (λ (row : ExportRow). record { identifier = row.identifier; index = i }) r) (h i refl)

look_up-same : (rows after : List (Option ExportRow)) (name : InterfaceName) → place_of after name ≡ place_of rows name
    → ((i : ℕ) → place_of rows name ≡ Some i → row_at after i ≡ row_at rows i) → look_up after name ≡ look_up rows name
unfolding look_up
look_up-same rows after name same agree =
    ap (option_and_then (binding_at after)) same ∙ look-at rows after (place_of rows name) agree

look_up-none : (rows : List (Option ExportRow)) (name : InterfaceName) → place_of rows name ≡ None → look_up rows name ≡ None
unfolding look_up
look_up-none rows name h = ap (option_and_then (binding_at rows)) h

look_up-some : (rows : List (Option ExportRow)) (name : InterfaceName) (i : ℕ) (row : ExportRow) → place_of rows name ≡ Some i
    → row_at rows i ≡ Some row → look_up rows name ≡ Some (record { identifier = row.identifier; index = i })
unfolding look_up
look_up-some rows name i row at here =
    ap (option_and_then (binding_at rows)) at
    ∙ ap (λ (r : Option ExportRow). option_map (λ (row : ExportRow). record { identifier = row.identifier; index = i }) r) here

-- a row that is free is not that of a name
apart_from_free : (rows : List (Option ExportRow)) (i j : ℕ) (name : InterfaceName) → row_at rows i ≡ None
    → is_row_of name (row_at rows j) ≡ true → j ≡ i → ⊥
apart_from_free rows i j name free here same =
    false≢true (sym (ap (is_row_of name) free) ∙ sym (ap (λ (k : ℕ). is_row_of name (row_at rows k)) same) ∙ here)

pub found_exported : (boot : ℕ) (e : Exports) (name : InterfaceName) (procedures now : ℕ) → AreSound boot e → export_fault e name now ≡ None
    → look_up (exported e name procedures).rows name ≡ Some (next_export e)
unfolding exported
found_exported boot e name procedures now h no_fault =
    let may = may_export e name now no_fault in
    let i = (next_export e).index in
    let row : ExportRow = record { name = name; identifier = e.next; procedures = procedures } in
    let inside : i < length e.rows = free-within e.rows i may.free in
    let apart = names-taken e.rows i row inside may.absent h.names in
    look_up-some (set e.rows i (Some row)) name i row
    (place-taken e.rows i row name (free-row e.rows i may.free) inside apart
    ∙ ap (λ (b : Bool). cond b (Some i) (place_of e.rows name)) (own_name name))
    (row-set_same e.rows i i (Some row) inside refl)

pub accepted_exported : (boot : ℕ) (e : Exports) (name : InterfaceName) (procedures now procedure : ℕ) → AreSound boot e → export_fault e name now ≡ None
    → accepts (exported e name procedures).rows (next_export e) procedure
    ≡ (if nat_lt procedure procedures then verdict.Accepted else verdict.NoProcedure)
unfolding exported accepts
accepted_exported boot e name procedures now procedure h no_fault =
    let may = may_export e name now no_fault in
    let i = (next_export e).index in
    let row : ExportRow = record { name = name; identifier = e.next; procedures = procedures } in
    judged_row (row_at (set e.rows i (Some row)) i) row e.next procedure
    (row-set_same e.rows i i (Some row) (free-within e.rows i may.free) refl) refl

pub others_exported : (boot : ℕ) (e : Exports) (name other : InterfaceName) (procedures now : ℕ) → AreSound boot e → export_fault e name now ≡ None
    → is_same_name name other ≡ false → look_up (exported e name procedures).rows other ≡ look_up e.rows other
unfolding exported
others_exported boot e name other procedures now h no_fault differ =
    let may = may_export e name now no_fault in
    let i = (next_export e).index in
    let row : ExportRow = record { name = name; identifier = e.next; procedures = procedures } in
    let inside : i < length e.rows = free-within e.rows i may.free in
    let apart = names-taken e.rows i row inside may.absent h.names in
    let free = free-row e.rows i may.free in
    look_up-same e.rows (set e.rows i (Some row)) other
    (place-taken e.rows i row other free inside apart ∙ ap (λ (b : Bool). cond b (Some i) (place_of e.rows other)) differ)
    (λ j at. row-set_other e.rows i j (Some row) (apart_from_free e.rows i j other free (place-is e.rows other j at)))

pub free_exported : (e : Exports) (name : InterfaceName) (now : ℕ) → export_fault e name now ≡ None → row_at e.rows (next_export e).index ≡ None
free_exported e name now no_fault = free-row e.rows (next_export e).index (may_export e name now no_fault).free

is_used : (r : Option ExportRow) → is_none r ≡ false → IsSome r
is_used None h = absurd (false≢true (sym h))
is_used (Some row) h = refl

pub least_exported : (e : Exports) (name : InterfaceName) (now i : ℕ) → export_fault e name now ≡ None → i < (next_export e).index → IsSome (row_at e.rows i)
least_exported e name now i no_fault below =
    is_used (row_at e.rows i)
    ((position-Some is_none e.rows (next_export e).index None (may_export e name now no_fault).free).2 i below)

pub time_exported : (e : Exports) (name : InterfaceName) (now : ℕ) → export_fault e name now ≡ None → e.next ≤ now
time_exported e name now no_fault = (may_export e name now no_fault).in_time

gone_freed : (rows : List (Option ExportRow)) (name : InterfaceName) (place : Option ℕ) → NamesDiffer rows → place_of rows name ≡ place
    → place_of (freed rows place) name ≡ None
gone_freed rows name None apart at = at
gone_freed rows name (Some i) apart at =
    place-freed rows i name name apart at ∙ ap (λ (b : Bool). cond b None (place_of rows name)) (own_name name)

pub gone_withdrawn : (boot : ℕ) (e : Exports) (name : InterfaceName) → AreSound boot e → look_up (withdrawn e name).rows name ≡ None
unfolding withdrawn
gone_withdrawn boot e name h =
    look_up-none (freed e.rows (place_of e.rows name)) name (gone_freed e.rows name (place_of e.rows name) h.names refl)

binding-index : (r : Option ExportRow) (i : ℕ) (export : Export)
    → option_map (λ (row : ExportRow). record { identifier = row.identifier; index = i }) r ≡ Some export → export.index ≡ i
binding-index None i export e = absurd (cc)
binding-index (Some row) i export e =
    let made : Export = record { identifier = row.identifier; index = i } in
    let same : made ≡ export = cc in
    sym (ap (λ (x : Export). x.index) same)

refused_freed : (rows : List (Option ExportRow)) (name : InterfaceName) (place : Option ℕ) (export : Export) (procedure : ℕ)
    → place_of rows name ≡ place → option_and_then (binding_at rows) place ≡ Some export
    → judged (row_at (freed rows place) export.index) export.identifier procedure ≡ verdict.WrongBinding
refused_freed rows name None export procedure at e = absurd (cc)
refused_freed rows name (Some i) export procedure at e =
    ap (λ (r : Option ExportRow). judged r export.identifier procedure)
    (row-set_same rows i export.index None (place-within rows name i at) (binding-index (row_at rows i) i export e))

pub refused_withdrawn : (boot : ℕ) (e : Exports) (name : InterfaceName) (export : Export) (procedure : ℕ) → AreSound boot e
    → look_up e.rows name ≡ Some export → accepts (withdrawn e name).rows export procedure ≡ verdict.WrongBinding
unfolding withdrawn accepts look_up
refused_withdrawn boot e name export procedure h found = refused_freed e.rows name (place_of e.rows name) export procedure refl found

others_freed : (rows : List (Option ExportRow)) (name other : InterfaceName) (place : Option ℕ) → NamesDiffer rows → place_of rows name ≡ place
    → is_same_name name other ≡ false → look_up (freed rows place) other ≡ look_up rows other
others_freed rows name other None apart at differ = refl
others_freed rows name other (Some i) apart at differ =
    look_up-same rows (set rows i None) other
    (place-freed rows i name other apart at ∙ ap (λ (b : Bool). cond b None (place_of rows other)) differ)
    (λ j there. row-set_other rows i j None
    (λ same.
    let mine : is_row_of other (row_at rows i) ≡ true = sym (ap (λ (k : ℕ). is_row_of other (row_at rows k)) same) ∙ place-is rows other j there in
    false≢true (sym differ ∙ both (row_at rows i) name other (place-is rows name i at) mine)))

pub others_withdrawn : (boot : ℕ) (e : Exports) (name other : InterfaceName) → AreSound boot e → is_same_name name other ≡ false
    → look_up (withdrawn e name).rows other ≡ look_up e.rows other
unfolding withdrawn
others_withdrawn boot e name other h differ = others_freed e.rows name other (place_of e.rows name) h.names refl differ

-- the binding to a row is that of its export
bound : (r : Option ExportRow) (i : ℕ) (name : InterfaceName) (export : Export) → is_row_of name r ≡ true
    → option_map (λ (row : ExportRow). record { identifier = row.identifier; index = i }) r ≡ Some export
    → (row : ExportRow) × (r ≡ Some row) × (row.name ≡ name) × (row.identifier ≡ export.identifier)
bound None i name export mine e = absurd (cc)
bound (Some row) i name export mine e =
    let made : Export = record { identifier = row.identifier; index = i } in
    let same : made ≡ export = cc in
    (row, refl, sym (same_name name row.name mine), ap (λ (x : Export). x.identifier) same)

found_at : (rows : List (Option ExportRow)) (name : InterfaceName) (export : Export) (place : Option ℕ) → place_of rows name ≡ place
    → option_and_then (binding_at rows) place ≡ Some export
    → (row : ExportRow) × (row_at rows export.index ≡ Some row) × (row.name ≡ name) × (row.identifier ≡ export.identifier)
found_at rows name export None at e = absurd (cc)
found_at rows name export (Some i) at e =
    let w = bound (row_at rows i) i name export (place-is rows name i at) e in
    let index : export.index ≡ i = binding-index (row_at rows i) i export e in
    (w.0, ap (row_at rows) index ∙ w.1, w.2, w.3)

pub found_in_row : (rows : List (Option ExportRow)) (name : InterfaceName) (export : Export) → look_up rows name ≡ Some export
    → (row : ExportRow) × (row_at rows export.index ≡ Some row) × (row.name ≡ name) × (row.identifier ≡ export.identifier)
unfolding look_up
found_in_row rows name export e = found_at rows name export (place_of rows name) refl e

used_row : (rows : List (Option ExportRow)) (i : ℕ) (name : InterfaceName) (r : Option ExportRow) → row_at rows i ≡ r → is_row_of name r ≡ true
    → binding_at rows i ≡ None → ⊥
used_row rows i name None at mine e = false≢true mine
used_row rows i name (Some row) at mine e =
    let made : Option ExportRow → Option Export = λ r. option_map (λ (row : ExportRow). record { identifier = row.identifier; index = i }) r in
    let some : made (Some row) ≡ None = sym (ap made at) ∙ e in
    absurd (cc)

absent_at : (rows : List (Option ExportRow)) (name : InterfaceName) (place : Option ℕ) → place_of rows name ≡ place
    → option_and_then (binding_at rows) place ≡ None → (i : ℕ) (row : ExportRow) → row_at rows i ≡ Some row → row.name ≡ name → ⊥
absent_at rows name None at e i row here same =
    let mine : is_row_of name (row_at rows i) ≡ true =
    ap (is_row_of name) here ∙ ap (is_same_name name) same ∙ own_name name in
    false≢true (sym (place-none rows name i at) ∙ mine)
absent_at rows name (Some j) at e i row here same = absurd (used_row rows j name (row_at rows j) refl (place-is rows name j at) e)

not_row : (r : Option ExportRow) (name : InterfaceName) → ((row : ExportRow) → r ≡ Some row → row.name ≡ name → ⊥) → is_row_of name r ≡ false
not_row None name h = refl
not_row (Some row) name h = false_from_ne_true (is_same_name name row.name) (λ e. h row refl (sym (same_name name row.name e)))

pub not_in_rows : (rows : List (Option ExportRow)) (name : InterfaceName)
    → (look_up rows name ≡ None → (i : ℕ) (row : ExportRow) → row_at rows i ≡ Some row → row.name ≡ name → ⊥)
    × (((i : ℕ) (row : ExportRow) → row_at rows i ≡ Some row → row.name ≡ name → ⊥) → look_up rows name ≡ None)
unfolding look_up
not_in_rows rows name = (
  λ e. absent_at rows name (place_of rows name) refl e,
  λ h. look_up-none rows name (no_place rows name (λ i. not_row (row_at rows i) name (h i))),
)
