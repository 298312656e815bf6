use Rattle.std.proofs.Common.{Some, None, sym, ap, ◌∙◌}
use Rattle.binder.specs.Exports.{Exports, look_up, withdrawn}
use Rattle.binder.proofs.Calls.{found, not_found, withdrawn_is}
use Rattle.binder.proofs.Kept.{kept_withdrawn}
use Rattle.binder.proofs.exports.Exports.withdraw.Goals as goal

pub returns-in_err-index-clause-export : goal.returns-in_err-index-clause-export
returns-in_err-index-clause-export c =
    c.from_residual.ensures
    ∙ not_found c.self.inside.rows c.self.inside.next c.self.inside.places c.args.name.now c.self.invariant (sym c.forget.ensures.place ∙ c.in_err-index.was)
    ∙ ap (λ (e : Exports). look_up e.rows c.args.name.now) c.self.view_is

pub returns-in_err-index-clause-exports : goal.returns-in_err-index-clause-exports
returns-in_err-index-clause-exports c =
    withdrawn_is (record { rows = c.self.inside.rows; next = c.self.inside.next }) c.args.name.now None
    (sym (c.self.invariant.indexed c.args.name.now) ∙ sym c.forget.ensures.place ∙ c.in_err-index.was)
    ∙ ap (λ (e : Exports). withdrawn e c.args.name.now) c.self.view_is

pub invariant_of-self-2 : goal.invariant_of-self-2
invariant_of-self-2 c =
    kept_withdrawn c.self.inside.rows c.self.inside.next c.self.inside.places c.forget.new.places c.from.result c.args.name.now c.self.invariant
    (sym (c.self.invariant.indexed c.args.name.now) ∙ sym c.forget.ensures.place ∙ c.in_ok-index.was ∙ ap Some (sym c.from.ensures))
    c.forget.ensures.forgotten

pub returns-clause-export : goal.returns-clause-export
returns-clause-export c =
    c.binding_at-export.ensures
    ∙ found c.self.inside.rows c.self.inside.next c.self.inside.places c.args.name.now c.in_ok-index.index c.self.invariant
    (sym c.forget.ensures.place ∙ c.in_ok-index.was)
    ∙ ap (λ (e : Exports). look_up e.rows c.args.name.now) c.self.view_is

pub returns-clause-exports : goal.returns-clause-exports
returns-clause-exports c =
    withdrawn_is (record { rows = c.self.inside.rows; next = c.self.inside.next }) c.args.name.now (Some c.from.result)
    (sym (c.self.invariant.indexed c.args.name.now) ∙ sym c.forget.ensures.place ∙ c.in_ok-index.was ∙ ap Some (sym c.from.ensures))
    ∙ ap (λ (e : Exports). withdrawn e c.args.name.now) c.self.view_is
