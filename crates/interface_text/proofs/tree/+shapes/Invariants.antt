use Rattle.std.proofs.Common.{◌≡◌, take}
use Rattle.std.specs.Prelude.{map}
use Rattle.interface_text.specs.Kinds.{kind_of}
use Rattle.interface_text.specs.Trees.{part_kind}
use Rattle.interface_text.proofs.tree.+shapes.Given as goal

abbrev pub invariant-shapes_of-loop-tree : goal.invariant-shapes_of-loop-tree
invariant-shapes_of-loop-tree l = map kind_of l.shapes.items ≡ map part_kind (take l.tree-index l.trees)
