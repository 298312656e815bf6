use Rattle.std.proofs.Common.{◌≡◌, ◌*◌, ◌-◌, ◌^◌, min, ℕ, List, [], drop, refl, ap, sym, ◌∙◌, arith}
use Rattle.std.proofs.lemmas.List.{drop_all}
use Rattle.interface_text.specs.declared.shape.Shape.{Shape}
use Rattle.marshal_plans.specs.Lengths.{least, least_all, clipped}
use Rattle.marshal_plans.specs.Forms.{Form, form_in, forms_in}
use Rattle.marshal_plans.proofs.Clipping.{clip_mul, clip_more}
use Rattle.marshal_plans.proofs.Shapes.{form_array}
use Rattle.marshal_plans.proofs.lengths.+least.Goals as goal

pub least_len-loop-shape-preserved : goal.least_len-loop-shape-preserved
least_len-loop-shape-preserved t c = (
  omega (arith, c.saturating_add-sum.ensures),
  clip_more least least_all (λ f fs. refl) c.args.shapes.now c.loop-shape.shape-index c.shape-item.result c.loop-shape.sum c.least_of.result c.saturating_add-sum.result c.loop-shape-test.true c.shape-item.is
      c.least_of.ensures c.saturating_add-sum.ensures c.loop-shape.invariant.1,
)

pub least_len-returns : goal.least_len-returns
least_len-returns t c =
    let shapes = c.args.shapes.now in
    let gone : drop c.loop-shape.shape-index shapes ≡ [] = drop_all c.loop-shape.shape-index shapes c.loop-shape-test.false in
    let none : least_all (forms_in (drop c.loop-shape.shape-index shapes)) ≡ 0 = ap (λ (l : List Shape). least_all (forms_in l)) gone in
    let same = c.loop-shape.invariant.1 in
    let small = c.loop-shape.invariant.0 in
    omega arith

pub least_of-returns-in-Array : goal.least_of-returns-in-Array
least_of-returns-in-Array t c =
    let a = least (form_in c.in-Array.part.value) in
    let one : c.least_of.result ≡ clipped a = c.least_of.ensures ∙ ap (λ (s : Shape). clipped (least (form_in s))) c.deref.ensures in
    c.saturating_mul.ensures ∙ ap (λ (r : ℕ). min (r * c.in-Array.count) (2 ^ 32 - 1)) one ∙ clip_mul a c.in-Array.count (2 ^ 32 - 1)
    ∙ sym (ap (λ (k : Form). clipped (least k)) (ap form_in c.in-Array.is ∙ form_array c.in-Array.count c.in-Array.part))
