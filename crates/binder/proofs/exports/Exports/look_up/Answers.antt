use Rattle.std.proofs.Common.{sym, ap, ◌∙◌}
use Rattle.binder.specs.Exports.{Exports, look_up}
use Rattle.binder.proofs.Calls.{found, not_found}
use Rattle.binder.proofs.exports.Exports.look_up.Goals as goal

pub returns-in_err-index : goal.returns-in_err-index
returns-in_err-index c =
    c.from_residual.ensures
    ∙ not_found c.self.inside.rows c.self.inside.next c.self.inside.places c.args.name.now c.self.invariant (sym c.place_of.ensures ∙ c.in_err-index.was)
    ∙ ap (λ (e : Exports). look_up e.rows c.args.name.now) c.self.view_is

pub returns : goal.returns
returns c =
    c.binding_at.ensures
    ∙ found c.self.inside.rows c.self.inside.next c.self.inside.places c.args.name.now c.in_ok-index.index c.self.invariant
    (sym c.place_of.ensures ∙ c.in_ok-index.was)
    ∙ ap (λ (e : Exports). look_up e.rows c.args.name.now) c.self.view_is
