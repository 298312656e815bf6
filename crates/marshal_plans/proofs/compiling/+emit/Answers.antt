use Rattle.std.proofs.Common.{◌≡◌, ◌-◌, ◌++◌, ℕ, Bool, false, List, [], ◌∷◌, length, refl, ap, sym, ◌∙◌, arith, slice_set}
use Rattle.interface_text.specs.declared.shape.Shape.{Shape}
use Rattle.interface_text.specs.declared.shape.Shape.TheViews as view
use Rattle.marshal_plans.specs.declared.instruction.Instruction.{Instruction}
use Rattle.marshal_plans.specs.declared.instruction.Instruction.TheVariants.{Loop, Next, Record, End}
use Rattle.marshal_plans.specs.declared.instruction.Extent.TheVariants.{Exactly, UpTo}
use Rattle.marshal_plans.specs.Plan.{plan, plans, array_plan, is_byte}
use Rattle.marshal_plans.specs.Forms.{Form, array, form_in, forms_in}
use Rattle.marshal_plans.proofs.Patching.{patched, room_for, on_ok_along, emitted, shapes_more}
use Rattle.marshal_plans.proofs.Shapes.{form_array, form_open, form_fields}
use Rattle.marshal_plans.proofs.compiling.+emit.Goals as goal

pub emit-returns-in_ok-emit_all-in-Fields : goal.emit-returns-in_ok-emit_all-in-Fields
emit-returns-in_ok-emit_all-in-Fields t c =
    let start = c.args.code.now.items in
    let begun = c.append-in-Fields.new.code.items in
    let whole = c.emit_all.new.code.items in
    let changed = c.replace.new.code.items in
    let body = plans (forms_in c.in-Fields.parts.items) in
    let b : begun ≡ start ++ Record 0 ∷ [] = c.in_ok-append-in-Fields.ensures in
    let w : whole ≡ begun ++ body = c.in_ok-emit_all-in-Fields.ensures ∙ ap (λ (ss : List Shape). begun ++ plans (forms_in ss)) c.deref-in-Fields.ensures.value in
    let at : c.len-start.result ≡ length start = c.len-start.ensures ∙ c.args.code.now.ok.0 in
    let all : c.len.result ≡ length whole = c.len.ensures ∙ c.emit_all.new.code.ok.0 in
    let long = room_for start begun whole body (Record 0) b w in
    let len : c.len.result - c.len-start.result - 1 ≡ length body = omega arith in
    let set : changed ≡ slice_set whole (length start) (Record (length body)) =
    c.replace.ensures ∙ ap (λ (n : ℕ). slice_set whole n (Record (c.len.result - c.len-start.result - 1))) at
    ∙ ap (λ (n : ℕ). slice_set whole (length start) (Record n)) len in
    let done = patched start begun whole changed (changed ++ End ∷ []) body (Record 0) (Record (length body)) End b w set refl in
    let is : plan (form_in c.args.shape.now) ≡ Record (length body) ∷ (body ++ End ∷ []) = ap (λ (k : Form). plan k) (ap form_in c.in-Fields.is ∙ form_fields c.in-Fields.parts) in
    on_ok_along c.append-in-Fields-2.result c.append-in-Fields-2.new.code.items (changed ++ End ∷ []) (start ++ plan (form_in c.args.shape.now)) c.append-in-Fields-2.ensures
    (done ∙ ap (λ (l : List Instruction). start ++ l) (sym is))

pub emit_array-returns : goal.emit_array-returns
emit_array-returns t c =
    let start = c.args.code.now.items in
    let begun = c.append-2.new.code.items in
    let whole = c.emit.new.code.items in
    let changed = c.replace.new.code.items in
    let extent = c.args.extent in
    let body = plan (form_in c.args.element.now) in
    let b : begun ≡ start ++ Loop extent 0 ∷ [] = c.in_ok-append.ensures in
    let w : whole ≡ begun ++ body = c.in_ok-emit.ensures in
    let at : c.len-start.result ≡ length start = c.len-start.ensures ∙ c.args.code.now.ok.0 in
    let all : c.len.result ≡ length whole = c.len.ensures ∙ c.emit.new.code.ok.0 in
    let long = room_for start begun whole body (Loop extent 0) b w in
    let len : c.len.result - c.len-start.result - 1 ≡ length body = omega arith in
    let set : changed ≡ slice_set whole (length start) (Loop extent (length body)) =
    c.replace.ensures ∙ ap (λ (n : ℕ). slice_set whole n (Loop extent (c.len.result - c.len-start.result - 1))) at
    ∙ ap (λ (n : ℕ). slice_set whole (length start) (Loop extent n)) len in
    let done = patched start begun whole changed (changed ++ Next ∷ []) body (Loop extent 0) (Loop extent (length body)) Next b w set refl in
    let other : is_byte (form_in c.args.element.now) ≡ false = sym c.is_byte.ensures ∙ c.if-is_byte.false in
    on_ok_along c.append-3.result c.append-3.new.code.items (changed ++ Next ∷ []) (start ++ array_plan (is_byte (form_in c.args.element.now)) extent body) c.append-3.ensures
    (done ∙ ap (λ (t : Bool). start ++ array_plan t extent body) (sym other))

pub emit-returns-in-Array : goal.emit-returns-in-Array
emit-returns-in-Array t c =
    let extent = Exactly c.in-Array.count in
    let element = form_in c.deref.result.now in
    emitted c.emit_array.result c.emit_array.new.code.items c.args.code.now.items (array_plan (is_byte element) extent (plan element)) c.args.shape.now
    (view.Array c.in-Array.count c.in-Array.part) c.emit_array.ensures c.in-Array.is
    (ap plan (form_array c.in-Array.count c.in-Array.part) ∙ ap (λ (s : Shape). plan (array extent (form_in s))) (sym c.deref.ensures))

pub emit-returns-in-Open : goal.emit-returns-in-Open
emit-returns-in-Open t c =
    let extent = UpTo c.in-Open.most in
    let element = form_in c.deref-in-Open.result.now in
    emitted c.emit_array-in-Open.result c.emit_array-in-Open.new.code.items c.args.code.now.items (array_plan (is_byte element) extent (plan element)) c.args.shape.now
    (view.Open c.in-Open.most c.in-Open.part) c.emit_array-in-Open.ensures c.in-Open.is
    (ap plan (form_open c.in-Open.most c.in-Open.part) ∙ ap (λ (s : Shape). plan (array extent (form_in s))) (sym c.deref-in-Open.ensures))

pub emit_all-loop-shape-preserved : goal.emit_all-loop-shape-preserved
emit_all-loop-shape-preserved t c =
    shapes_more (c.args.code.now.items ++ plans (forms_in c.args.shapes.now)) c.loop-shape.code.items c.emit.new.code.items c.args.shapes.now c.loop-shape.shape-index
    c.shape-item.result c.loop-shape-test.true c.shape-item.is c.in_ok-emit.ensures c.loop-shape.invariant
