-- An instruction that is written once its body's length is known.
use Rattle.std.proofs.Common.{◌≡◌, ◌+◌, ◌<◌, ℕ, suc, List, [], ◌∷◌, ◌++◌, length, map, drop, get_or, drop-cons, add-one, Result, ap, sym, ◌∙◌, subst, append_assoc, length-append, slice_set}
use Rattle.std.proofs.Math.Seq.{set-append_seam}
use Rattle.std.specs.Result.{OnOk}
use Rattle.std.proofs.lemmas.List.{map-append}
use Rattle.interface_text.specs.declared.interface.Procedure.{Procedure}
use Rattle.interface_text.specs.declared.shape.Shape.{Shape}
use Rattle.marshal_plans.specs.Forms.{form_in, forms_in}
use Rattle.marshal_plans.specs.Plan.{plan, plans}
use Rattle.marshal_plans.specs.declared.plan.PlanPair.{PlanPair}
use Rattle.marshal_plans.specs.Pairs.{Pair, pair_of, plans_of}
use Rattle.marshal_plans.specs.declared.instruction.Instruction.{Instruction}

pub patched : (start begun whole changed done body : List Instruction) (hole begin end : Instruction)
    → begun ≡ start ++ hole ∷ [] → whole ≡ begun ++ body → changed ≡ slice_set whole (length start) begin → done ≡ changed ++ end ∷ []
    → done ≡ start ++ (begin ∷ (body ++ end ∷ []))
patched start begun whole changed done body hole begin end b w c d =
    let all : whole ≡ start ++ (hole ∷ body) = w ∙ ap (λ (l : List Instruction). l ++ body) b ∙ append_assoc start (hole ∷ []) body in
    let set_in : changed ≡ start ++ (begin ∷ body) =
    c ∙ ap (λ (l : List Instruction). slice_set l (length start) begin) all ∙ set-append_seam start hole body begin in
    d ∙ ap (λ (l : List Instruction). l ++ end ∷ []) set_in ∙ append_assoc start (begin ∷ body) (end ∷ [])

pub room_for : (start begun whole body : List Instruction) (hole : Instruction) → begun ≡ start ++ hole ∷ [] → whole ≡ begun ++ body
    → length whole ≡ length start + 1 + length body
room_for start begun whole body hole b w =
    ap (λ (l : List Instruction). length l) w ∙ length-append begun body
    ∙ ap (λ (n : ℕ). n + length body) (ap (λ (l : List Instruction). length l) b ∙ length-append start (hole ∷ []))

pub on_ok_along : {T E : Type 0} (r : Result T E) (a b c : List Instruction) → OnOk r (a ≡ b) → b ≡ c → OnOk r (a ≡ c)
on_ok_along r a b c h e = subst (λ (l : List Instruction). OnOk r (a ≡ l)) e h

pub pairs_more : (made newer : List PlanPair) (procedures : List Procedure) (i : ℕ) (p : Procedure) (pair : PlanPair) (all : List Pair)
    → i < length procedures → p ≡ get_or procedures i p → newer ≡ made ++ pair ∷ [] → pair_of pair ≡ plans_of p
    → map pair_of made ++ map plans_of (drop i procedures) ≡ all → map pair_of newer ++ map plans_of (drop (i + 1) procedures) ≡ all
pairs_more made newer procedures i p pair all within is more same before =
    let rest : List Pair = map plans_of (drop (suc i) procedures) in
    let cut : drop i procedures ≡ p ∷ drop (suc i) procedures = drop-cons procedures i p within ∙ ap (λ (w : Procedure). w ∷ drop (suc i) procedures) (sym is) in
    ap (λ (k : ℕ). map pair_of newer ++ map plans_of (drop k procedures)) (add-one i)
    ∙ ap (λ (l : List PlanPair). map pair_of l ++ rest) more
    ∙ ap (λ (l : List Pair). l ++ rest) (map-append pair_of made (pair ∷ []))
    ∙ append_assoc (map pair_of made) (pair_of pair ∷ []) rest
    ∙ ap (λ (x : Pair). map pair_of made ++ (x ∷ rest)) same
    ∙ sym (ap (λ (l : List Procedure). map pair_of made ++ map plans_of l) cut)
    ∙ before

-- what one shape adds, and one more of several
pub emitted : {T E : Type 0} (r : Result T E) (new start instructions : List Instruction) (s u : Shape) → OnOk r (new ≡ start ++ instructions) → s ≡ u
    → plan (form_in u) ≡ instructions → OnOk r (new ≡ start ++ plan (form_in s))
emitted r new start instructions s u h is adds =
    on_ok_along r new (start ++ instructions) (start ++ plan (form_in s)) h (ap (λ (l : List Instruction). start ++ l) (sym (ap (λ (v : Shape). plan (form_in v)) is ∙ adds)))

pub shapes_more : (all code newer : List Instruction) (shapes : List Shape) (i : ℕ) (s : Shape) → i < length shapes → s ≡ get_or shapes i s
    → newer ≡ code ++ plan (form_in s) → code ++ plans (forms_in (drop i shapes)) ≡ all → newer ++ plans (forms_in (drop (i + 1) shapes)) ≡ all
shapes_more all code newer shapes i s within is more before =
    let rest : List Instruction = plans (forms_in (drop (suc i) shapes)) in
    let cut : drop i shapes ≡ s ∷ drop (suc i) shapes = drop-cons shapes i s within ∙ ap (λ (w : Shape). w ∷ drop (suc i) shapes) (sym is) in
    ap (λ (k : ℕ). newer ++ plans (forms_in (drop k shapes))) (add-one i) ∙ ap (λ (l : List Instruction). l ++ rest) more
    ∙ append_assoc code (plan (form_in s)) rest ∙ ap (λ (l : List Shape). code ++ plans (forms_in l)) (sym cut) ∙ before
