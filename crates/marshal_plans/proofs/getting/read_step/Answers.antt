use Rattle.std.proofs.Common.{◌∙◌, ap, sym, subst, Ok}
use Rattle.std.proofs.lemmas.Result.{err_from_is_err_and}
use Rattle.marshal_plans.specs.Data.{Datum, group, no_data, behind_bytes}
use Rattle.marshal_plans.specs.Steps.{IsStep}
use Rattle.marshal_plans.proofs.Beginnings.{begin_record, begin_array, begin_bytes, wrong_number, wrong_array, wrong_bytes, wrong_text}
use Rattle.marshal_plans.proofs.ValueData.{datum_group}
use Rattle.marshal_plans.proofs.getting.read_step.Goals as goal

pub returns-in_ok-text-in-Bytes-clause-begins : goal.returns-in_ok-text-in-Bytes-clause-begins
returns-in_ok-text-in-Bytes-clause-begins c = λ f is.
    let head = c.in_ok-count-in-Bytes in
    let text = c.in_ok-text-in-Bytes in
    begin_bytes c.args.total c.args.bytes.now c.in-Bytes.extent head.count head.rest.now head.ensures f (behind_bytes text.text.items no_data) text.rest.now
    (subst (IsStep f) c.in-Bytes.is is) text.ensures.read
    ∙ ap (λ (d : Datum). Ok (d, text.rest.now)) (ap group (sym c.of_bytes.ensures.values) ∙ sym (datum_group c.of_bytes.result))

pub returns-in_ok-count-in-Array-clause-begins : goal.returns-in_ok-count-in-Array-clause-begins
returns-in_ok-count-in-Array-clause-begins c = λ f is.
    let head = c.in_ok-count-in-Array in
    begin_array c.args.total c.args.bytes.now c.in-Array.extent head.count head.rest.now head.ensures f c.in-Array.element
    (subst (IsStep f) c.in-Array.is is)

pub returns-in-Record-clause-begins : goal.returns-in-Record-clause-begins
returns-in-Record-clause-begins c = λ f is. begin_record c.args.total c.args.bytes.now f c.in-Record.parts (subst (IsStep f) c.in-Record.is is)

pub returns-in_err-value-in-Item-clause-begins : goal.returns-in_err-value-in-Item-clause-begins
returns-in_err-value-in-Item-clause-begins c = λ f is.
    let p = err_from_is_err_and c.from_residual.result c.from_residual.ensures.1 in
    rw (p.1, p.2) (wrong_number c.args.total c.args.bytes.now f c.in-Item.basic c.in_err-value-in-Item.field-0.0 (subst (IsStep f) c.in-Item.is is) c.in_err-value-in-Item.ensures)

pub returns-in_err-count-in-Bytes-clause-begins : goal.returns-in_err-count-in-Bytes-clause-begins
returns-in_err-count-in-Bytes-clause-begins c = λ f is.
    let back = c.from_residual-in_err-count-in-Bytes in
    let p = err_from_is_err_and back.result back.ensures.1 in
    rw (p.1, p.2) (wrong_bytes c.args.total c.args.bytes.now f c.in-Bytes.extent c.in_err-count-in-Bytes.field-0.0 (subst (IsStep f) c.in-Bytes.is is) c.in_err-count-in-Bytes.ensures)

pub returns-in_err-text-in-Bytes-clause-begins : goal.returns-in_err-text-in-Bytes-clause-begins
returns-in_err-text-in-Bytes-clause-begins c = λ f is.
    let head = c.in_ok-count-in-Bytes in
    let back = c.from_residual-in_err-text-in-Bytes in
    let p = err_from_is_err_and back.result back.ensures.1 in
    rw (p.1, p.2) (wrong_text c.args.total c.args.bytes.now c.in-Bytes.extent head.count head.rest.now head.ensures f c.in_err-text-in-Bytes.field-0.0
    (subst (IsStep f) c.in-Bytes.is is) c.in_err-text-in-Bytes.ensures.read)

pub returns-in_err-count-in-Array-clause-begins : goal.returns-in_err-count-in-Array-clause-begins
returns-in_err-count-in-Array-clause-begins c = λ f is.
    let back = c.from_residual-in_err-count-in-Array in
    let p = err_from_is_err_and back.result back.ensures.1 in
    rw (p.1, p.2) (wrong_array c.args.total c.args.bytes.now f c.in-Array.extent c.in-Array.element c.in_err-count-in-Array.field-0.0 (subst (IsStep f) c.in-Array.is is) c.in_err-count-in-Array.ensures)
