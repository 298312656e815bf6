use Rattle.std.proofs.Common.{◌≡◌, ◌++◌}
use Rattle.std.specs.Prelude.{map, replicate}
use Rattle.interface_text.specs.Kinds.{kind_of}
use Rattle.interface_text.specs.Trees.{kind_of_tree}
use Rattle.interface_text.proofs.heading.push_shapes.Given as goal

abbrev pub invariant-copies : goal.invariant-copies
invariant-copies l = map kind_of l.shapes.items ≡ map kind_of l.initial.shapes.items ++ replicate l.counter (kind_of_tree l.tree)
