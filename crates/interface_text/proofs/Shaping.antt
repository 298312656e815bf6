-- The types that records are.
use Rattle.std.proofs.Common.{◌≡◌, ◌∙◌, ap, sym, refl, ℕ, List, [], ◌∷◌, Box, Vec, Global}
use Rattle.std.specs.Prelude.{map}
use Rattle.std.specs.declared.rc.Rc.{Rc}
use Rattle.interface_text.specs.declared.shape.Shape.{Shape}
use Rattle.interface_text.specs.declared.shape.Shape.TheOpen as shape
use Rattle.interface_text.specs.declared.shape.Shape.TheViews as shape_view
use Rattle.interface_text.specs.declared.shape.Shape.TheFolds.{fold-roll-Shape}
use Rattle.interface_text.specs.declared.tree.Tree.{Tree}
use Rattle.interface_text.specs.declared.tree.Tree.TheOpen as tree
use Rattle.interface_text.specs.declared.tree.Tree.TheViews as tree_view
use Rattle.interface_text.specs.declared.tree.Tree.TheFolds.{fold-roll-Tree}
use Rattle.interface_text.specs.Kinds.{Kind, array, open_array, fields, row, kind_step, kind_of}
use Rattle.interface_text.specs.Trees.{tree_step, kind_of_tree, part_kind}

pub kind_fields : (parts : Vec Shape Global) → kind_of (shape_view.Fields parts) ≡ fields (row (map kind_of parts.items))
kind_fields parts = ap kind_of (sym (shape_view.rolls-Fields parts)) ∙ fold-roll-Shape Kind kind_step (shape.Fields parts)

pub kind_array : (n : ℕ) (part : Box Shape Global) → kind_of (shape_view.Array n part) ≡ array n (kind_of part.value)
kind_array n part = ap kind_of (sym (shape_view.rolls-Array n part)) ∙ fold-roll-Shape Kind kind_step (shape.Array n part)

pub kind_open : (n : ℕ) (part : Box Shape Global) → kind_of (shape_view.Open n part) ≡ open_array n (kind_of part.value)
kind_open n part = ap kind_of (sym (shape_view.rolls-Open n part)) ∙ fold-roll-Shape Kind kind_step (shape.Open n part)

map_map : {A B C : Type 0} (f : B → C) (g : A → B) (xs : List A) → map f (map g xs) ≡ map (λ (x : A). f (g x)) xs
map_map f g [] = refl
map_map {A} {B} {C} f g (x ∷ xs) = ap (λ (ys : List C). f (g x) ∷ ys) (map_map f g xs)

pub tree_fields : (parts : Vec (Rc Tree Global) Global) → kind_of_tree (tree_view.Fields parts) ≡ fields (row (map part_kind parts.items))
tree_fields parts =
    ap kind_of_tree (sym (tree_view.rolls-Fields parts)) ∙ fold-roll-Tree Kind tree_step (tree.Fields parts)
    ∙ ap (λ (kinds : List Kind). fields (row kinds)) (map_map (λ (part : Rc Kind Global). part.value) _ parts.items)

pub tree_array : (n : ℕ) (part : Rc Tree Global) → kind_of_tree (tree_view.Array n part) ≡ array n (part_kind part)
tree_array n part = ap kind_of_tree (sym (tree_view.rolls-Array n part)) ∙ fold-roll-Tree Kind tree_step (tree.Array n part)

pub tree_open : (n : ℕ) (part : Rc Tree Global) → kind_of_tree (tree_view.Open n part) ≡ open_array n (part_kind part)
tree_open n part = ap kind_of_tree (sym (tree_view.rolls-Open n part)) ∙ fold-roll-Tree Kind tree_step (tree.Open n part)
