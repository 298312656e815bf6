use Rattle.std.proofs.Common.{Some, None, Ok, Err, sym, subst, refl}
use Rattle.std.proofs.lemmas.Result.{err_from_is_err_and}
use Rattle.marshal_plans.specs.declared.cursor.Taken.{Taken}
use Rattle.marshal_plans.specs.declared.levels.Left.TheVariants.{Fields, Elements}
use Rattle.marshal_plans.specs.declared.putting.Unput.{Unput}
use Rattle.marshal_plans.specs.Cursors.{cursor_data, taken_datum}
use Rattle.marshal_plans.specs.Puts.{Started}
use Rattle.marshal_plans.specs.Steps.{IsStep}
use Rattle.marshal_plans.proofs.Starting.{start_bytes, start_array, start_record, bytes_refused, array_refused, byte_count_refused}
use Rattle.marshal_plans.proofs.putting.put_step.Goals as goal

pub returns-in_err-put_bytes-in-Bytes-Group-clause-started : goal.returns-in_err-put_bytes-in-Bytes-Group-clause-started
returns-in_err-put_bytes-in-Bytes-Group-clause-started c = λ f is.
    let p = err_from_is_err_and c.from_residual-in_err-put_bytes-in-Bytes-Group.result c.from_residual-in_err-put_bytes-in-Bytes-Group.ensures.1 in
    let old = c.args.into.now in
    let new = c.put_bytes.new.into in
    let e = c.in_err-put_bytes-in-Bytes-Group.field-0.0 in
    rw (p.1, p.2) (subst (λ (v : Taken). Started f (taken_datum v) old new c.args.at (Err e)) (sym c.in-Bytes-Group.is-1)
    (bytes_refused f c.in-Bytes-Group.extent (cursor_data c.in-Bytes-Group.values) old c.put_head.new.into new c.args.at c.in_ok-next-in-Bytes-Group.next e
    (subst (IsStep f) c.in-Bytes-Group.is-0 is) c.in_err-put_bytes-in-Bytes-Group.ensures))

pub returns-in_ok-put_bytes-in-Bytes-Group-clause-started : goal.returns-in_ok-put_bytes-in-Bytes-Group-clause-started
returns-in_ok-put_bytes-in-Bytes-Group-clause-started c = λ f is.
    let old = c.args.into.now in
    let new = c.put_bytes.new.into in
    let end = c.in_ok-put_bytes-in-Bytes-Group.field-0 in
    subst (λ (v : Taken). Started f (taken_datum v) old new c.args.at (Ok (None, end))) (sym c.in-Bytes-Group.is-1)
    (start_bytes f old c.put_head.new.into new c.args.at c.in_ok-next-in-Bytes-Group.next c.in-Bytes-Group.extent c.in_ok-next-in-Bytes-Group.field-0-0 (cursor_data c.in-Bytes-Group.values) end
    (subst (IsStep f) c.in-Bytes-Group.is-0 is) c.in_ok-next-in-Bytes-Group.ensures c.in_ok-put_bytes-in-Bytes-Group.ensures)

pub returns-in_ok-count-in-Array-Group-clause-started : goal.returns-in_ok-count-in-Array-Group-clause-started
returns-in_ok-count-in-Array-Group-clause-started c = λ f is.
    let old = c.args.into.now in
    let new = c.put_head-in-Array-Group.new.into in
    let n = c.in_ok-count-in-Array-Group.count in
    let next = c.in_ok-count-in-Array-Group.next in
    let inner : Unput = record { left = Elements n c.in-Array-Group.element; values = c.in-Array-Group.values } in
    subst (λ (v : Taken). Started f (taken_datum v) old new c.args.at (Ok (Some inner, next))) (sym c.in-Array-Group.is-1)
    (start_array f old old new c.args.at next c.in-Array-Group.extent c.in-Array-Group.element n inner (cursor_data c.in-Array-Group.values)
    (subst (IsStep f) c.in-Array-Group.is-0 is) refl refl c.in_ok-count-in-Array-Group.ensures)

pub returns-in-Record-Group-clause-started : goal.returns-in-Record-Group-clause-started
returns-in-Record-Group-clause-started c = λ f is.
    let old = c.args.into.now in
    let inner : Unput = record { left = Fields c.in-Record-Group.parts; values = c.in-Record-Group.values } in
    subst (λ (v : Taken). Started f (taken_datum v) old old c.args.at (Ok (Some inner, c.args.at))) (sym c.in-Record-Group.is-1)
    (start_record f old old old c.args.at c.args.at c.in-Record-Group.parts inner (cursor_data c.in-Record-Group.values)
    (subst (IsStep f) c.in-Record-Group.is-0 is) refl refl)

pub returns-in_err-next-in-Bytes-Group-clause-started : goal.returns-in_err-next-in-Bytes-Group-clause-started
returns-in_err-next-in-Bytes-Group-clause-started c = λ f is.
    let back = c.from_residual-in_err-next-in-Bytes-Group in
    let p = err_from_is_err_and back.result back.ensures.1 in
    let e = c.in_err-next-in-Bytes-Group.field-0.0 in
    rw (p.1, p.2) (subst (λ (v : Taken). Started f (taken_datum v) c.args.into.now c.put_head.new.into c.args.at (Err e)) (sym c.in-Bytes-Group.is-1)
    (byte_count_refused f c.in-Bytes-Group.extent (cursor_data c.in-Bytes-Group.values) c.args.into.now c.put_head.new.into c.args.at e
    (subst (IsStep f) c.in-Bytes-Group.is-0 is) c.in_err-next-in-Bytes-Group.ensures))

pub returns-in_err-count-in-Array-Group-clause-started : goal.returns-in_err-count-in-Array-Group-clause-started
returns-in_err-count-in-Array-Group-clause-started c = λ f is.
    let back = c.from_residual-in_err-count-in-Array-Group in
    let p = err_from_is_err_and back.result back.ensures.1 in
    let e = c.in_err-count-in-Array-Group.field-0.0 in
    let new = c.put_head-in-Array-Group.new.into in
    rw (p.1, p.2) (subst (λ (v : Taken). Started f (taken_datum v) c.args.into.now new c.args.at (Err e)) (sym c.in-Array-Group.is-1)
    (array_refused f c.in-Array-Group.extent c.in-Array-Group.element (cursor_data c.in-Array-Group.values) c.args.into.now new c.args.at e
    (subst (IsStep f) c.in-Array-Group.is-0 is) c.in_err-count-in-Array-Group.ensures))
