use Rattle.std.proofs.Common.{◌≡◌, ◌+◌, ◌*◌, ◌-◌, ◌^◌, min, ℕ, List, [], drop, refl, ap, sym, ◌∙◌, arith}
use Rattle.std.proofs.lemmas.List.{drop_all}
use Rattle.interface_text.specs.declared.shape.Shape.{Shape}
use Rattle.marshal_plans.specs.Lengths.{largest, largest_all, clipped}
use Rattle.marshal_plans.specs.Forms.{Form, form_in, forms_in}
use Rattle.marshal_plans.proofs.Clipping.{clip_mul, clip_count, clip_more}
use Rattle.marshal_plans.proofs.Shapes.{form_array, form_open}
use Rattle.marshal_plans.proofs.lengths.+largest.Goals as goal

pub largest_len-loop-shape-preserved : goal.largest_len-loop-shape-preserved
largest_len-loop-shape-preserved t c = (
  omega (arith, c.saturating_add-sum.ensures),
  clip_more largest largest_all (λ f fs. refl) c.args.shapes.now c.loop-shape.shape-index c.shape-item.result c.loop-shape.sum c.largest_of.result c.saturating_add-sum.result c.loop-shape-test.true c.shape-item.is
      c.largest_of.ensures c.saturating_add-sum.ensures c.loop-shape.invariant.1,
)

pub largest_len-returns : goal.largest_len-returns
largest_len-returns t c =
    let shapes = c.args.shapes.now in
    let gone : drop c.loop-shape.shape-index shapes ≡ [] = drop_all c.loop-shape.shape-index shapes c.loop-shape-test.false in
    let none : largest_all (forms_in (drop c.loop-shape.shape-index shapes)) ≡ 0 = ap (λ (l : List Shape). largest_all (forms_in l)) gone in
    let same = c.loop-shape.invariant.1 in
    let small = c.loop-shape.invariant.0 in
    omega arith

pub largest_of-returns-in-Array : goal.largest_of-returns-in-Array
largest_of-returns-in-Array t c =
    let a = largest (form_in c.in-Array.part.value) in
    let one : c.largest_of.result ≡ clipped a = c.largest_of.ensures ∙ ap (λ (s : Shape). clipped (largest (form_in s))) c.deref.ensures in
    c.saturating_mul.ensures ∙ ap (λ (r : ℕ). min (r * c.in-Array.count) (2 ^ 32 - 1)) one ∙ clip_mul a c.in-Array.count (2 ^ 32 - 1)
    ∙ sym (ap (λ (k : Form). clipped (largest k)) (ap form_in c.in-Array.is ∙ form_array c.in-Array.count c.in-Array.part))

pub largest_of-returns-in-Open : goal.largest_of-returns-in-Open
largest_of-returns-in-Open t c =
    let a = largest (form_in c.in-Open.part.value) in
    let one : c.largest_of-in-Open.result ≡ clipped a = c.largest_of-in-Open.ensures ∙ ap (λ (s : Shape). clipped (largest (form_in s))) c.deref-in-Open.ensures in
    let times : c.saturating_mul-in-Open.result ≡ clipped (c.in-Open.most * a) =
    c.saturating_mul-in-Open.ensures ∙ ap (λ (r : ℕ). min (r * c.in-Open.most) (2 ^ 32 - 1)) one ∙ clip_mul a c.in-Open.most (2 ^ 32 - 1) in
    c.saturating_add.ensures ∙ ap (λ (r : ℕ). min (r + 4) (2 ^ 32 - 1)) times ∙ clip_count (c.in-Open.most * a) 0 (2 ^ 32 - 1) (omega arith)
    ∙ sym (ap (λ (k : Form). clipped (largest k)) (ap form_in c.in-Open.is ∙ form_open c.in-Open.most c.in-Open.part))
