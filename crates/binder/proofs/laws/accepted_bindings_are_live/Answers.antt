use Rattle.binder.specs.Exports.{accepts, row_at}
use Rattle.binder.proofs.Judging.{accepted_row, no_procedure_row, row_accepted, row_no_procedure}
use Rattle.binder.proofs.laws.accepted_bindings_are_live.Goals as goal

pub returns-clause-accepted : goal.returns-clause-accepted
unfolding accepts
returns-clause-accepted c = λ e x p.
    (accepted_row (row_at e.rows x.index) x.identifier p, λ w. row_accepted (row_at e.rows x.index) w.0 x.identifier p w.1 w.2 w.3)

pub returns-clause-no_procedure : goal.returns-clause-no_procedure
unfolding accepts
returns-clause-no_procedure c = λ e x p.
    (no_procedure_row (row_at e.rows x.index) x.identifier p, λ w. row_no_procedure (row_at e.rows x.index) w.0 x.identifier p w.1 w.2 w.3)
