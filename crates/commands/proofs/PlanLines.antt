-- A plan text as it grows, piece by piece.
use Rattle.std.proofs.Common.{◌≡◌, ◌<◌, ◌+◌, ℕ, zero, suc, true, false, cond, List, [], ◌∷◌, ◌++◌, length, map, drop, get_or, drop-cons, add-one, ap, sym, ◌∙◌, refl, append_assoc, arith}
use Rattle.std.specs.Prelude.{filter, codes}
use Rattle.std.specs.Fmt.{decimal}
use Rattle.std.specs.List.{flat_map}
use Rattle.std.proofs.lemmas.List.Concat.{flat_map-append}
use Rattle.interface_text.specs.Interfaces.{DeclaredProcedure}
use Rattle.interface_text.specs.States.{procedure_view}
use Rattle.interface_text.specs.declared.interface.Procedure.{Procedure}
use Rattle.marshal_plans.specs.Forms.{Forms}
use Rattle.marshal_plans.specs.Lengths.{least_all, largest_all}
use Rattle.marshal_plans.specs.Text.{exceptions_lines, procedure_lines, procedures_lines, part_lines, instruction_text, has_line}
use Rattle.marshal_plans.specs.declared.instruction.Instruction.{Instruction}
use Rattle.commands.specs.PlanText.{lines_text, part_text, told_of}

-- a line with its end
abbrev pub ended : List ℕ → List ℕ
ended line = line ++ 10 ∷ []

pub lines_append : (xs ys : List (List ℕ)) → lines_text (xs ++ ys) ≡ lines_text xs ++ lines_text ys
lines_append xs ys = flat_map-append ended xs ys

-- pieces one behind the other
pub two : (a b c o p : List ℕ) → o ≡ a ++ b → p ≡ o ++ c → p ≡ a ++ (b ++ c)
two a b c o p h i = i ∙ ap (λ (x : List ℕ). x ++ c) h ∙ append_assoc a b c

-- a loop over a list, of which each item adds its piece; the item at i has the number k
pub further : {X : Type 0} (piece : ℕ → X → List ℕ) (rest : ℕ → List X → List ℕ)
    → ((k : ℕ) (x : X) (xs : List X) → rest k (x ∷ xs) ≡ piece k x ++ rest (k + 1) xs)
    → (out newer all : List ℕ) (xs : List X) (k i : ℕ) (x : X) → i < length xs → x ≡ get_or xs i x → newer ≡ out ++ piece k x
    → out ++ rest k (drop i xs) ≡ all → newer ++ rest (k + 1) (drop (i + 1) xs) ≡ all
further {X} piece rest unrolls out newer all xs k i x within is more before =
    let cut : drop i xs ≡ x ∷ drop (suc i) xs = drop-cons xs i x within ∙ ap (λ (w : X). w ∷ drop (suc i) xs) (sym is) in
    ap (λ (m : ℕ). newer ++ rest (k + 1) (drop m xs)) (add-one i)
    ∙ ap (λ (l : List ℕ). l ++ rest (k + 1) (drop (suc i) xs)) more
    ∙ append_assoc out (piece k x) (rest (k + 1) (drop (suc i) xs))
    ∙ sym (ap (λ (l : List ℕ). out ++ l) (ap (λ (l : List X). rest k l) cut ∙ unrolls k x (drop (suc i) xs)))
    ∙ before

-- the items at one place of lists that are told alike
pub same_at : {X Y Z : Type 0} (f : X → Z) (g : Y → Z) (xs : List X) (ys : List Y) (i : ℕ) (x : X) (y : Y) → map f xs ≡ map g ys
    → i < length xs → i < length ys → x ≡ get_or xs i x → y ≡ get_or ys i y → f x ≡ g y
same_at f g [] ys i x y e lt below is at = absurd (omega (arith, lt))
same_at f g (a ∷ xs) [] i x y e lt below is at = absurd (omega (arith, below))
same_at {X} {Y} {Z} f g (a ∷ xs) (b ∷ ys) zero x y e lt below is at =
    ap f is ∙ ap (λ (l : List Z). get_or l 0 (f x)) e ∙ sym (ap g at)
same_at {X} {Y} {Z} f g (a ∷ xs) (b ∷ ys) (suc i) x y e lt below is at =
    same_at f g xs ys i x y (ap (λ (l : List Z). drop 1 l) e) (omega (arith, lt)) (omega (arith, below)) is at

-- the line of an exception
abbrev pub exception_piece : ℕ → List ℕ → List ℕ
exception_piece k name = codes "exception " ++ (decimal k ++ (codes " " ++ ended name))

abbrev pub exception_rest : ℕ → List (List ℕ) → List ℕ
exception_rest k names = lines_text (exceptions_lines k names)

pub exception_unrolls : (k : ℕ) (x : List ℕ) (xs : List (List ℕ)) → exception_rest k (x ∷ xs) ≡ exception_piece k x ++ exception_rest (k + 1) xs
exception_unrolls k x xs = ap (λ (l : List ℕ). l ++ exception_rest (k + 1) xs) line
  where
    line : (codes "exception " ++ decimal k ++ codes " " ++ x) ++ 10 ∷ [] ≡ exception_piece k x
    line = simp append_assoc

-- the lines of a procedure
abbrev pub procedure_piece : ℕ → DeclaredProcedure → List ℕ
procedure_piece k p = lines_text (procedure_lines k (told_of p))

abbrev pub procedure_rest : ℕ → List DeclaredProcedure → List ℕ
procedure_rest k ps = lines_text (procedures_lines k (map told_of ps))

pub procedure_unrolls : (k : ℕ) (x : DeclaredProcedure) (xs : List DeclaredProcedure)
    → procedure_rest k (x ∷ xs) ≡ procedure_piece k x ++ procedure_rest (k + 1) xs
procedure_unrolls k x xs = lines_append (procedure_lines k (told_of x)) (procedures_lines (k + 1) (map told_of xs))

-- a number behind a space
abbrev pub raise_piece : ℕ → ℕ → List ℕ
raise_piece k n = codes " " ++ decimal n

abbrev pub raise_rest : ℕ → List ℕ → List ℕ
raise_rest k ns = flat_map (λ m. codes " " ++ decimal m) ns

-- an instruction that has a line
abbrev pub instruction_piece : ℕ → Instruction → List ℕ
instruction_piece k i = cond (has_line i) (ended (instruction_text i)) []

abbrev pub instruction_rest : ℕ → List Instruction → List ℕ
instruction_rest k is = lines_text (map instruction_text (filter has_line is))

pub instruction_unrolls : (k : ℕ) (x : Instruction) (xs : List Instruction)
    → instruction_rest k (x ∷ xs) ≡ instruction_piece k x ++ instruction_rest (k + 1) xs
instruction_unrolls k x xs = elim (has_line x) as (λ b. lines_text (map instruction_text (cond b (x ∷ filter has_line xs) (filter has_line xs)))
    ≡ cond b (ended (instruction_text x)) [] ++ instruction_rest (k + 1) xs)
    [ true ↦ refl | false ↦ refl ]

-- the lengths of what is carried, and the end of their line
abbrev pub lengths_line : Forms → List ℕ
lengths_line fs = decimal (least_all fs) ++ (codes " " ++ ended (decimal (largest_all fs)))

-- the whole text of a part
pub whole_part : (word : List ℕ) (fs : Forms) → word ++ (codes " " ++ part_text fs) ≡ lines_text (part_lines word fs)
whole_part word fs = simp append_assoc

-- the same of procedures as they are in memory
abbrev pub seen_piece : ℕ → Procedure → List ℕ
seen_piece k p = procedure_piece k (procedure_view p)

abbrev pub seen_rest : ℕ → List Procedure → List ℕ
seen_rest k ps = procedure_rest k (map procedure_view ps)

pub seen_unrolls : (k : ℕ) (x : Procedure) (xs : List Procedure) → seen_rest k (x ∷ xs) ≡ seen_piece k x ++ seen_rest (k + 1) xs
seen_unrolls k x xs = procedure_unrolls k (procedure_view x) (map procedure_view xs)

pub raise_unrolls : (k : ℕ) (x : ℕ) (xs : List ℕ) → raise_rest k (x ∷ xs) ≡ raise_piece k x ++ raise_rest (k + 1) xs
raise_unrolls k x xs = refl
