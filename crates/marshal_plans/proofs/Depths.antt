-- Groups stand in one another at most as deep as types go.
use Rattle.std.proofs.Common.{◌-◌, ◌⊎◌, inl, inr, Bool, Box, Vec, Global, IsTrue, ◌↔◌, ◌≡◌, ◌<◌, ◌≤◌, ◌+◌, ◌∙◌, ℕ, suc, max, List, ◌∷◌, length, map, drop, drop-cons, get_or, add-one, ap, sym, arith}
use Rattle.interface_text.specs.declared.shape.Shape.{Shape}
use Rattle.interface_text.specs.declared.shape.Shape.TheViews.{Array, Open, Fields}
use Rattle.interface_text.specs.Kinds as kind
use Rattle.interface_text.specs.Kinds.{Kind, Kinds, kind_of, row}
use Rattle.marshal_plans.specs.declared.instruction.Instruction.{Instruction}
use Rattle.marshal_plans.proofs.Shapes.{kind_array, kind_open, kind_fields}
use Rattle.marshal_plans.specs.Forms.{form_of, forms_of, forms_in}
use Rattle.interface_text.specs.Depths.{depth, deepest, AreShallow}
use Rattle.marshal_plans.specs.Plan.{plans, groups, groups_all, IsPlan}

mutual
  groups_within : (k : Kind) → groups (form_of k) ≤ depth k
  groups_within kind.boolean = omega arith
  groups_within kind.byte = omega arith
  groups_within kind.cardinal = omega arith
  groups_within kind.integer = omega arith
  groups_within kind.longcard = omega arith
  groups_within (kind.choice n) = omega arith
  groups_within (kind.array n k) = omega (arith, groups_within k)
  groups_within (kind.open_array n k) = omega (arith, groups_within k)
  groups_within (kind.fields ks) = omega (arith, all_within ks)

  all_within : (ks : Kinds) → groups_all (forms_of ks) ≤ deepest ks
  all_within kind.none = omega arith
  all_within (kind.first_then k ks) = omega (arith, groups_within k, all_within ks)

pub is_plan : (instructions : List Instruction) (shapes : List Shape) → instructions ≡ plans (forms_in shapes) → AreShallow shapes → IsPlan instructions
is_plan instructions shapes e h = record {
  forms = forms_in shapes;
  made = e;
  shallow = omega (arith, all_within (row (map kind_of shapes)));
}

-- so many levels are enough for the shapes from an index on exactly where they are for all
pub record Enough (levels : ℕ) (shapes : List Shape) (i : ℕ) : Type 0 where
  pub most : deepest (row (map kind_of (drop i shapes))) ≤ deepest (row (map kind_of shapes))
  pub enough : deepest (row (map kind_of (drop i shapes))) ≤ levels → deepest (row (map kind_of shapes)) ≤ levels

pub cut_depth : (shapes : List Shape) (i : ℕ) (s : Shape) → i < length shapes → s ≡ get_or shapes i s
    → deepest (row (map kind_of (drop i shapes))) ≡ max (depth (kind_of s)) (deepest (row (map kind_of (drop (i + 1) shapes))))
cut_depth shapes i s within is =
    let cut : drop i shapes ≡ s ∷ drop (suc i) shapes = drop-cons shapes i s within ∙ ap (λ (w : Shape). w ∷ drop (suc i) shapes) (sym is) in
    ap (λ (l : List Shape). deepest (row (map kind_of l))) cut
    ∙ ap (λ (k : ℕ). max (depth (kind_of s)) (deepest (row (map kind_of (drop k shapes))))) (sym (add-one i))

pub enough_more : (levels : ℕ) (shapes : List Shape) (i : ℕ) (s : Shape) → i < length shapes → s ≡ get_or shapes i s → depth (kind_of s) ≤ levels
    → Enough levels shapes i → Enough levels shapes (i + 1)
enough_more levels shapes i s within is fits e =
    let cut = cut_depth shapes i s within is in
    record { most = omega (arith, e.most); enough = λ h. e.enough (omega arith) }

pub too_deep : (levels : ℕ) (shapes : List Shape) (i : ℕ) (s : Shape) → i < length shapes → s ≡ get_or shapes i s → levels < depth (kind_of s)
    → Enough levels shapes i → levels < deepest (row (map kind_of shapes))
too_deep levels shapes i s within is deep e = let cut = cut_depth shapes i s within is in omega (arith, e.most)

-- a group is one deeper than its parts
pub within_group : (levels inner : ℕ) (r : Bool) (d e : ℕ) → 1 ≤ levels → inner ≡ levels - 1 → e ≡ d + 1 → IsTrue r ↔ (d ≤ inner)
    → IsTrue r ↔ (e ≤ levels)
within_group levels inner r d e some is one h = (λ t. omega (arith, h.0 t), λ k. h.1 (omega arith))

pub part_depth : (s : Shape) (part : Box Shape Global) → ((n : ℕ) × (s ≡ Array n part)) ⊎ ((n : ℕ) × (s ≡ Open n part))
    → depth (kind_of s) ≡ depth (kind_of part.value) + 1
part_depth s part (inl (n, is)) = ap (λ (t : Shape). depth (kind_of t)) is ∙ ap (λ (k : Kind). depth k) (kind_array n part)
part_depth s part (inr (n, is)) = ap (λ (t : Shape). depth (kind_of t)) is ∙ ap (λ (k : Kind). depth k) (kind_open n part)

pub fields_depth : (s : Shape) (parts : Vec Shape Global) → s ≡ Fields parts → depth (kind_of s) ≡ deepest (row (map kind_of parts.items)) + 1
fields_depth s parts is = ap (λ (t : Shape). depth (kind_of t)) is ∙ ap (λ (k : Kind). depth k) (kind_fields parts)
