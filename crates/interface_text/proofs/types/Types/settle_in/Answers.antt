use Rattle.std.proofs.Common.{◌∷◌, refl, sym}
use Rattle.std.specs.Prelude.{map}
use Rattle.interface_text.specs.Trees.{part_kind}
use Rattle.interface_text.specs.TypeRules.{fields_form}
use Rattle.interface_text.specs.Views.{forms_of, group_of, typing_of}
use Rattle.interface_text.proofs.Settling.{settled_group}
use Rattle.interface_text.proofs.types.Types.settle_in.Goals as goal

pub returns : goal.returns
returns c =
    let forms = forms_of c.args.self.now.frames in
    sym (settled_group (typing_of c.args.self.now) (fields_form (group_of c.args.fields) ∷ forms) forms (forms_of c.push.new.self)
    (part_kind c.args.tree.now) (group_of c.args.fields) (map part_kind c.push_shared.new.parts.items) refl
    c.in_ok-push_shared.ensures c.in_ok-push.ensures)
