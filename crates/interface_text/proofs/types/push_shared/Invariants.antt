use Rattle.std.proofs.Common.{◌≡◌, ◌++◌}
use Rattle.std.specs.Prelude.{map, replicate}
use Rattle.interface_text.specs.Trees.{part_kind}
use Rattle.interface_text.proofs.types.push_shared.Given as goal

abbrev pub invariant-copies : goal.invariant-copies
invariant-copies l = map part_kind l.parts.items ≡ map part_kind l.initial.parts.items ++ replicate l.counter (part_kind l.tree)
