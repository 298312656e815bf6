use Rattle.std.proofs.Common.{◌∙◌, ◌+◌, List, ap, map, sym}
use Rattle.interface_text.specs.declared.shape.Shape.{Shape}
use Rattle.interface_text.specs.Depths.{depth, deepest}
use Rattle.interface_text.specs.Kinds.{kind_of, row}
use Rattle.marshal_plans.proofs.Depths.{within_group, part_depth, fields_depth}
use Rattle.marshal_plans.proofs.limits.+depths.Goals as goal

pub is_within-returns-in-Array : goal.is_within-returns-in-Array
is_within-returns-in-Array t c =
    within_group c.args.levels c.in-Some.inner c.is_within.result (depth (kind_of c.deref-in-Array.result.now)) (depth (kind_of c.args.shape.now))
    c.in-Some.ensures.0 c.in-Some.ensures.1
    (part_depth c.args.shape.now c.in-Array.part c.in-Array.is ∙ ap (λ (s : Shape). depth (kind_of s) + 1) (sym c.deref-in-Array.ensures)) c.is_within.ensures

pub is_within-returns-in-Fields : goal.is_within-returns-in-Fields
is_within-returns-in-Fields t c =
    within_group c.args.levels c.in-Some.inner c.are_within.result (deepest (row (map kind_of c.deref.result.now))) (depth (kind_of c.args.shape.now))
    c.in-Some.ensures.0 c.in-Some.ensures.1
    (fields_depth c.args.shape.now c.in-Fields.parts c.in-Fields.is ∙ ap (λ (l : List Shape). deepest (row (map kind_of l)) + 1) (sym c.deref.ensures.value)) c.are_within.ensures
