use Rattle.std.proofs.Common.{◌≡◌, ◌∙◌, ◌∷◌, List, ap, sym}
use Rattle.interface_text.specs.Kinds.{Kind}
use Rattle.interface_text.specs.Trees.{kind_of_tree, part_kind}
use Rattle.interface_text.specs.TypeRules.{Form, settled_in}
use Rattle.interface_text.specs.Views.{form_of, forms_of, typing_of}
use Rattle.interface_text.specs.declared.frames.Frame.{Frame}
use Rattle.interface_text.specs.declared.frames.Frame.TheVariants.{Array, Fields}
use Rattle.interface_text.proofs.Settling.{settled_array}
use Rattle.interface_text.proofs.Shaping.{tree_array}
use Rattle.interface_text.proofs.types.Types.+settle.Goals as goal

pub returns-in_ok-settled-in-Some-Array : goal.returns-in_ok-settled-in-Some-Array
returns-in_ok-settled-in-Some-Array t c =
    let old = typing_of c.args.self.now in
    let forms = forms_of c.pop.new.self in
    let kind = ap kind_of_tree c.in_ok-array-in-Some-Array.ensures.ok ∙ tree_array c.in-Some-Array.number c.args.tree in
    let taken : c.in-Some-Array.field-0 ≡ Array c.in-Some-Array.number = cc in
    c.in_ok-settled-in-Some-Array.ensures
    ∙ ap (λ (k : Kind). settled_in (record old { forms = forms }) forms k) kind
    ∙ sym (settled_array old old.forms forms (part_kind c.args.tree) c.in-Some-Array.number
    (c.in-Some-Array.ensures ∙ ap (λ (f : Frame). form_of f ∷ forms) taken))

pub returns-in_ok-settle_in-in-Some-Fields : goal.returns-in_ok-settle_in-in-Some-Fields
unfolding settled_in
returns-in_ok-settle_in-in-Some-Fields t c =
    let old = typing_of c.args.self.now in
    let forms = forms_of c.pop.new.self in
    let taken : c.in-Some-Fields.field-0 ≡ Fields c.in-Some-Fields.fields = cc in
    c.in_ok-settle_in-in-Some-Fields.ensures
    ∙ sym (ap (λ (fs : List Form). settled_in old fs (part_kind c.args.tree))
    (c.in-Some-Fields.ensures ∙ ap (λ (f : Frame). form_of f ∷ forms) taken))
