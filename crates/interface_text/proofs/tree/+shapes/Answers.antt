use Rattle.std.proofs.Common.{List, map, ap, sym, ◌∙◌}
use Rattle.interface_text.specs.Kinds.{Kind, kind_of, array, open_array, fields, row}
use Rattle.interface_text.specs.Trees.{kind_of_tree, part_kind}
use Rattle.interface_text.proofs.Shaping.{kind_array, kind_open, kind_fields, tree_array, tree_open, tree_fields}
use Rattle.interface_text.proofs.tree.+shapes.Goals as goal

pub shape_of-returns-in_ok-new-in-Array : goal.shape_of-returns-in_ok-new-in-Array
shape_of-returns-in_ok-new-in-Array t c =
    kind_array c.in-Array.n c.in_ok-new-in-Array.field-0
    ∙ ap (array c.in-Array.n) (ap kind_of c.in_ok-new-in-Array.ensures.ok ∙ c.in_ok-shape-in-Array.ensures ∙ ap kind_of_tree c.deref.ensures)
    ∙ sym (tree_array c.in-Array.n c.in-Array.part) ∙ sym (ap kind_of_tree c.in-Array.is)

pub shape_of-returns-in_ok-new-in-Open : goal.shape_of-returns-in_ok-new-in-Open
shape_of-returns-in_ok-new-in-Open t c =
    kind_open c.in-Open.n c.in_ok-new-in-Open.field-0
    ∙ ap (open_array c.in-Open.n) (ap kind_of c.in_ok-new-in-Open.ensures.ok ∙ c.in_ok-shape-in-Open.ensures ∙ ap kind_of_tree c.deref-in-Open.ensures)
    ∙ sym (tree_open c.in-Open.n c.in-Open.part) ∙ sym (ap kind_of_tree c.in-Open.is)

pub shape_of-returns-in_ok-shapes-in-Fields : goal.shape_of-returns-in_ok-shapes-in-Fields
shape_of-returns-in_ok-shapes-in-Fields t c =
    kind_fields c.in_ok-shapes-in-Fields.shapes
    ∙ ap (λ (kinds : List Kind). fields (row kinds)) (c.in_ok-shapes-in-Fields.ensures ∙ ap (map part_kind) c.as_slice.ensures.value)
    ∙ sym (tree_fields c.in-Fields.parts) ∙ sym (ap kind_of_tree c.in-Fields.is)
