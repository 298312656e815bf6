use Rattle.std.proofs.Common.{◌≡◌, ◌==◌, List, ℕ, IfNone, None, Option, Bor, length, subst, sym, ap, ◌∙◌}
use Rattle.std.proofs.lemmas.Bool.{false≢true}
use Rattle.binder.proofs.Data.{more_than_two_parts, not_two_parts}
use Rattle.binder.proofs.interface.split_data.Goals as goal

at_none : (r : Option (Bor (List ℕ) × Bor (List ℕ))) (P : Type 0) → r ≡ None → P → IfNone r P
at_none r P e h =
    let Q : Option (Bor (List ℕ) × Bor (List ℕ)) → Type 0 = λ o. IfNone o P in
    subst Q (sym e) h

pub returns-in_err-instance-clause-none : goal.returns-in_err-instance-clause-none
returns-in_err-instance-clause-none c =
    at_none _ _ c.from_residual-in_err-instance.ensures
    (not_two_parts c.args.bytes.now c.in_ok-kind.kind.now c.in_ok-kind.rest.now c.in_ok-kind.ensures.split c.in_err-instance.ensures.none)

pub returns-else-is_empty-clause-none : goal.returns-else-is_empty-clause-none
returns-else-is_empty-clause-none c =
    more_than_two_parts c.args.bytes.now c.in_ok-kind.kind.now c.in_ok-kind.rest.now c.in_ok-instance.instance.now c.in_ok-instance.rest.now
    c.in_ok-kind.ensures.split c.in_ok-instance.ensures.split
    (λ e. false≢true (sym c.if-is_empty.false ∙ c.is_empty.ensures ∙ ap (λ (xs : List ℕ). length xs == 0) e))
