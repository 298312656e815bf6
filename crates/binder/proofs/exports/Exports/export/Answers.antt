use Rattle.std.proofs.Common.{◌<◌, ◌^◌, ap, ◌∙◌, arith}
use Rattle.binder.specs.declared.row.ExportRow.{ExportRow}
use Rattle.binder.specs.Exports.{Exports, exported}
use Rattle.binder.proofs.Calls.{absent, exported_is}
use Rattle.binder.proofs.Kept.{kept_exported}
use Rattle.binder.proofs.exports.Exports.export.Goals as goal

pub invariant_of-self-2 : goal.invariant_of-self-2
invariant_of-self-2 c =
    let s = c.self.inside in
    let fits : s.next < 2 ^ 32 = omega (arith, c.in_ok-index.ensures.in_time) in
    let row : ExportRow = record { name = c.args.name; identifier = s.next; procedures = c.args.procedures } in
    kept_exported s.rows s.next s.places c.note.new.places c.in_ok-index.index row c.self.invariant fits
    c.in_ok-index.ensures.row (absent _ c.args.name c.args.now c.in_ok-index.ensures.no_fault) c.in_ok-note.ensures.noted

pub returns-clause-exports : goal.returns-clause-exports
returns-clause-exports c =
    exported_is (record { rows = c.self.inside.rows; next = c.self.inside.next }) c.args.name c.args.procedures c.in_ok-index.index
    c.in_ok-index.ensures.row
    ∙ ap (λ (e : Exports). exported e c.args.name c.args.procedures) c.self.view_is
