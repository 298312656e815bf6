-- What a server's exports stand for, as outcomes of the model.
use Rattle.std.proofs.Common.{◌≡◌, ℕ, List, [], ◌∷◌, get_or, Option, Some, None, Result, Ok, Err, true, refl, ap, sym, subst, ◌∙◌}
use Rattle.std.specs.Prelude.{option_and_then}
use Rattle.std.specs.Option.{option_map}
use Rattle.std.proofs.lemmas.Bool.{false≢true}
use Rattle.std.proofs.lemmas.List.Quantifiers.{position-Some}
use Rattle.rpc_header.specs.declared.Export.{Export}
use Rattle.binder.specs.declared.interface.InterfaceName.{InterfaceName}
use Rattle.binder.specs.declared.row.ExportFault.{ExportFault}
use Rattle.binder.specs.declared.row.ExportRow.{ExportRow}
use Rattle.binder.specs.Exports.{binding_at, export_fault, exported, freed, is_row_of, next_export, look_up, place_of, withdrawn}
use Rattle.binder.specs.Exports as binder
use Rattle.replay_model.specs.Record.{Exports, NoExport}
use Rattle.replay_model.specs.World.{World, Server, test_name}
use Rattle.replay_model.specs.Step.{exports_unless, export_event, withdraws_if, withdraw_event}
use Rattle.replay_server.specs.Lives.{Exporting, ExportsAs, WithdrawsAs}

-- the server that has read a second, with other exports
abbrev with_exports : Server → (second : ℕ) → binder.Exports → Server
with_exports s second e = record s { read = second; exports = e }

-- a name was exported in a second, or not: s is the server before it, and e its exports after it
pub exports_as : (w : World) (s : Server) (text : List ℕ) (name : InterfaceName) (second : ℕ) (e : binder.Exports) (r : Result Export ExportFault) → name ≡ test_name text → Exporting s.exports e name second r → ExportsAs (record w { server = s; second = second }) (with_exports s second e) r (export_event (record w { server = s; second = second }) text)
unfolding export_event
exports_as w s text name second e (Ok export) named h =
    let w' : World = record w { server = s; second = second } in
    ap (λ (x : InterfaceName). exports_unless (export_fault s.exports x second) w' x) (sym named)
    ∙ (ap (λ (o : Option ExportFault). exports_unless o w' name) h.0
    ∙ (ap (λ (x : binder.Exports). record { world = record w' { server = with_exports s second x }; acts = Exports (next_export s.exports) ∷ [] }) (sym h.2)
    ∙ ap (λ (x : Export). record { world = record w' { server = with_exports s second e }; acts = Exports x ∷ [] }) (sym h.1)))
exports_as w s text name second e (Err fault) named h =
    let w' : World = record w { server = s; second = second } in
    ap (λ (x : InterfaceName). exports_unless (export_fault s.exports x second) w' x) (sym named)
    ∙ (ap (λ (o : Option ExportFault). exports_unless o w' name) h.0
    ∙ ap (λ (x : binder.Exports). record { world = record w' { server = with_exports s second x }; acts = NoExport fault ∷ [] }) (sym h.1))

-- a row of a name has a binding
has_binding : (name : InterfaceName) (i : ℕ) (o : Option ExportRow) → is_row_of name o ≡ true → option_map {U = Export} (λ (row : ExportRow). record { identifier = row.identifier; index = i }) o ≡ None → ⊥
has_binding name i None row none = false≢true row
has_binding name i (Some r) row none = cc

-- rows without a name, by where it would be
none_freed : (rows : List (Option ExportRow)) (name : InterfaceName) (place : Option ℕ) → place_of rows name ≡ place → option_and_then (binding_at rows) place ≡ None → freed rows place ≡ rows
none_freed rows name None is none = refl
none_freed rows name (Some i) is none =
    absurd (has_binding name i (get_or rows i None) (position-Some (is_row_of name) rows i None is).1 none)

-- exports that have no such name stay as they are
pub withdrawn_none : (exports : binder.Exports) (name : InterfaceName) → look_up exports.rows name ≡ None → withdrawn exports name ≡ exports
unfolding look_up withdrawn
withdrawn_none exports name none =
    ap (λ (rows : List (Option ExportRow)). record exports { rows = rows }) (none_freed exports.rows name (place_of exports.rows name) refl none)

-- what was found of a name was taken back
taken_back : (w : World) (s : Server) (name : InterfaceName) (found : Option Export) → look_up s.exports.rows name ≡ found → WithdrawsAs (record w { server = s }) (record s { exports = withdrawn s.exports name }) (option_map (λ (export : Export). export.index) found) (withdraws_if found (record w { server = s }) name)
taken_back w s name None is =
    (refl, ap (λ (x : binder.Exports). record s { exports = x }) (sym (withdrawn_none s.exports name is)))
taken_back w s name (Some export) is = refl

-- a name was taken back, or not: s is the server before it, and e its exports after it
pub withdraws_as : (w : World) (s : Server) (text : List ℕ) (name : InterfaceName) (e : binder.Exports) (r : Option ℕ) → name ≡ test_name text → r ≡ option_map (λ (export : Export). export.index) (look_up s.exports.rows name) → e ≡ withdrawn s.exports name → WithdrawsAs (record w { server = s }) (record s { exports = e }) r (withdraw_event (record w { server = s }) text)
unfolding withdraw_event
withdraws_as w s text name e r named found taken =
    let w' : World = record w { server = s } in
    let h = taken_back w s name (look_up s.exports.rows name) refl in
    let h1 = subst (λ (x : Option ℕ). WithdrawsAs w' (record s { exports = withdrawn s.exports name }) x (withdraws_if (look_up s.exports.rows name) w' name)) (sym found) h in
    let h2 = subst (λ (x : binder.Exports). WithdrawsAs w' (record s { exports = x }) r (withdraws_if (look_up s.exports.rows name) w' name)) (sym taken) h1 in
    subst (λ (x : InterfaceName). WithdrawsAs w' (record s { exports = e }) r (withdraws_if (look_up s.exports.rows x) w' x)) named h2
