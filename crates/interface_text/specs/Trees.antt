-- The types that the trees of the reader are.
use Rattle.std.specs.Prelude.{map}
use Rattle.std.specs.declared.alloc.Global.{Global}
use Rattle.std.specs.declared.rc.Rc.{Rc}
use Rattle.interface_tokens.specs.declared.expect.Basic.{Basic}
use Rattle.interface_tokens.specs.declared.expect.Basic.TheVariants as basic
use Rattle.interface_text.specs.declared.tree.Tree.{Tree}
use Rattle.interface_text.specs.declared.tree.Tree.TheOpen.{Tree-F}
use Rattle.interface_text.specs.declared.tree.Tree.TheOpen as tree
use Rattle.interface_text.specs.declared.tree.Tree.TheFolds.{fold-Tree}
use Rattle.interface_text.specs.Kinds.{Kind, boolean, byte, cardinal, integer, longcard, choice, array, open_array, fields, row}

abbrev pub tree_step : Tree-F Kind → Kind
tree_step tree.Bool = boolean
tree_step tree.Byte = byte
tree_step tree.Cardinal = cardinal
tree_step tree.Integer = integer
tree_step tree.LongCard = longcard
tree_step (tree.Choice count) = choice count
tree_step (tree.Array n part) = array n part.value
tree_step (tree.Open n part) = open_array n part.value
tree_step (tree.Fields parts) = fields (row (map (λ part. part.value) parts.items))

abbrev pub kind_of_tree : Tree → Kind
kind_of_tree = fold-Tree Kind tree_step

abbrev pub part_kind : Rc Tree Global → Kind
part_kind part = kind_of_tree part.value

abbrev pub kind_of_basic : Basic → Kind
kind_of_basic basic.Boolean = boolean
kind_of_basic basic.Byte = byte
kind_of_basic basic.Cardinal = cardinal
kind_of_basic basic.Integer = integer
kind_of_basic basic.Longcard = longcard
