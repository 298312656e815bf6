-- What the answers of the exports mean: of `accepts`, and of the faults of an export.
use Rattle.std.proofs.Common.{◌≡◌, ◌≤◌, ◌<◌, ◌==◌, ℕ, Bool, true, false, if◌then◌else◌, Option, Some, None, is_some, is_none, unwrap_or, nat_lt, refl, ap, ◌∙◌}
use Rattle.std.proofs.lemmas.Bool.{eq-eqb, eqb-true, le-ltb, lt-ltb, ltb-false, ltb-true}
use Rattle.binder.specs.declared.interface.InterfaceName.{InterfaceName}
use Rattle.binder.specs.declared.row.ExportRow.{ExportRow}
use Rattle.binder.specs.declared.row.ExportFault.{ExportFault}
use Rattle.binder.specs.declared.row.Verdict.TheVariants as verdict
use Rattle.binder.specs.Exports.{Exports, export_fault, free_place, judged, next_export, place_of}

-- what a verdict needs
accepted_if : (a b : Bool) → (if a then (if b then verdict.Accepted else verdict.NoProcedure) else verdict.WrongBinding) ≡ verdict.Accepted
    → (a ≡ true) × (b ≡ true)
accepted_if true true e = (refl, refl)
accepted_if true false e = absurd (cc)
accepted_if false b e = absurd (cc)

no_procedure_if : (a b : Bool) → (if a then (if b then verdict.Accepted else verdict.NoProcedure) else verdict.WrongBinding) ≡ verdict.NoProcedure
    → (a ≡ true) × (b ≡ false)
no_procedure_if true true e = absurd (cc)
no_procedure_if true false e = (refl, refl)
no_procedure_if false b e = absurd (cc)

judged_if : (a b : Bool) → a ≡ true
    → (if a then (if b then verdict.Accepted else verdict.NoProcedure) else verdict.WrongBinding) ≡ (if b then verdict.Accepted else verdict.NoProcedure)
judged_if true b e = refl
judged_if false b e = absurd (cc)

pub accepted_row : (r : Option ExportRow) (identifier procedure : ℕ) → judged r identifier procedure ≡ verdict.Accepted
    → (row : ExportRow) × (r ≡ Some row) × (row.identifier ≡ identifier) × (procedure < row.procedures)
accepted_row None identifier procedure e = absurd (cc)
accepted_row (Some row) identifier procedure e =
    let w = accepted_if (row.identifier == identifier) (nat_lt procedure row.procedures) e in
    (row, refl, eqb-true row.identifier identifier w.0, ltb-true procedure row.procedures w.1)

pub no_procedure_row : (r : Option ExportRow) (identifier procedure : ℕ) → judged r identifier procedure ≡ verdict.NoProcedure
    → (row : ExportRow) × (r ≡ Some row) × (row.identifier ≡ identifier) × (row.procedures ≤ procedure)
no_procedure_row None identifier procedure e = absurd (cc)
no_procedure_row (Some row) identifier procedure e =
    let w = no_procedure_if (row.identifier == identifier) (nat_lt procedure row.procedures) e in
    (row, refl, eqb-true row.identifier identifier w.0, ltb-false procedure row.procedures w.1)

-- what a row of that identifier says
pub judged_row : (r : Option ExportRow) (row : ExportRow) (identifier procedure : ℕ) → r ≡ Some row → row.identifier ≡ identifier
    → judged r identifier procedure ≡ (if nat_lt procedure row.procedures then verdict.Accepted else verdict.NoProcedure)
judged_row r row identifier procedure e same =
    ap (λ (o : Option ExportRow). judged o identifier procedure) e
    ∙ judged_if (row.identifier == identifier) (nat_lt procedure row.procedures) (eq-eqb row.identifier identifier same)

pub row_accepted : (r : Option ExportRow) (row : ExportRow) (identifier procedure : ℕ) → r ≡ Some row → row.identifier ≡ identifier
    → procedure < row.procedures → judged r identifier procedure ≡ verdict.Accepted
row_accepted r row identifier procedure e same below =
    judged_row r row identifier procedure e same
    ∙ ap (λ (b : Bool). if b then verdict.Accepted else verdict.NoProcedure) (lt-ltb procedure row.procedures below)

pub row_no_procedure : (r : Option ExportRow) (row : ExportRow) (identifier procedure : ℕ) → r ≡ Some row → row.identifier ≡ identifier
    → row.procedures ≤ procedure → judged r identifier procedure ≡ verdict.NoProcedure
row_no_procedure r row identifier procedure e same above =
    judged_row r row identifier procedure e same
    ∙ ap (λ (b : Bool). if b then verdict.Accepted else verdict.NoProcedure) (le-ltb procedure row.procedures above)

allowed_if : (p f : Option ℕ) (late : Bool) (a b c : ExportFault)
    → (if is_some p then Some a else if is_none f then Some b else if late then Some c else None) ≡ None
    → (p ≡ None) × (f ≡ Some (unwrap_or f 0)) × (late ≡ false)
allowed_if (Some i) f late a b c e = absurd (cc)
allowed_if None None late a b c e = absurd (cc)
allowed_if None (Some i) true a b c e = absurd (cc)
allowed_if None (Some i) false a b c e = (refl, refl, refl)

-- a name may be exported: it has no row, a row is free, and the identifier is in time
pub record MayExport (e : Exports) (name : InterfaceName) (now : ℕ) : Type 0 where
  pub absent : place_of e.rows name ≡ None
  pub free : free_place e.rows ≡ Some (next_export e).index
  pub in_time : e.next ≤ now

pub may_export : (e : Exports) (name : InterfaceName) (now : ℕ) → export_fault e name now ≡ None → MayExport e name now
unfolding export_fault
may_export e name now h =
    let w = allowed_if (place_of e.rows name) (free_place e.rows) (nat_lt now e.next) _ _ _ h in
    record { absent = w.0; free = w.1; in_time = ltb-false now e.next w.2 }
