use Rattle.std.proofs.Common.{sym, ◌∙◌}
use Rattle.binder.proofs.Data.{data_is, name_is, no_instance, no_kind, no_parts}
use Rattle.binder.proofs.interface.read_bind_data.Goals as goal

pub returns-in_err-kind-clause-name : goal.returns-in_err-kind-clause-name
returns-in_err-kind-clause-name c = c.from_residual.ensures ∙ no_parts c.args.bytes.now c.in_err-kind.ensures.none

pub returns-in_err-read_name-clause-name : goal.returns-in_err-read_name-clause-name
returns-in_err-read_name-clause-name c =
    c.from_residual-in_err-read_name.ensures
    ∙ no_kind c.args.bytes.now c.in_ok-kind.kind.now c.in_ok-kind.instance.now c.in_ok-kind.ensures.split (sym c.read_name.ensures ∙ c.in_err-read_name.was)

pub returns-in_err-read_name-2-clause-name : goal.returns-in_err-read_name-2-clause-name
returns-in_err-read_name-2-clause-name c =
    c.from_residual-in_err-read_name-2.ensures
    ∙ no_instance c.args.bytes.now c.in_ok-kind.kind.now c.in_ok-kind.instance.now c.in_ok-kind.ensures.split (sym c.read_name-2.ensures ∙ c.in_err-read_name-2.was)

pub returns-clause-name : goal.returns-clause-name
returns-clause-name c =
    name_is c.args.bytes.now c.in_ok-kind.kind.now c.in_ok-kind.instance.now _ _ c.in_ok-kind.ensures.split
    (sym c.read_name.ensures ∙ c.in_ok-read_name.was) (sym c.read_name-2.ensures ∙ c.in_ok-read_name-2.was)

pub returns-clause-one_form : goal.returns-clause-one_form
returns-clause-one_form c =
    data_is c.args.bytes.now c.in_ok-kind.kind.now c.in_ok-kind.instance.now _ _ c.in_ok-kind.ensures.split
    (sym c.read_name.ensures ∙ c.in_ok-read_name.was) (sym c.read_name-2.ensures ∙ c.in_ok-read_name-2.was)
