-- The plan text of what a text declares, and what must hold of an interface that has one.
use Rattle.std.specs.Prelude.{ℕ, ◌≤◌, List, [], ◌∷◌, ◌++◌, map, filter, codes, All}
use Rattle.std.specs.List.{flat_map}
use Rattle.std.specs.Fmt.{decimal}
use Rattle.interface_text.specs.Interfaces.{DeclaredInterface, DeclaredProcedure}
use Rattle.interface_text.specs.declared.interface.Procedure.{Procedure}
use Rattle.marshal_plans.specs.Forms.{Forms, forms_in}
use Rattle.marshal_plans.specs.Lengths.{least_all, largest_all}
use Rattle.marshal_plans.specs.Plan.{plans}
use Rattle.marshal_plans.specs.Text.{Told, plan_text, instruction_text, has_line}

-- lines, each ended by a newline
abbrev pub lines_text : List (List ℕ) → List ℕ
lines_text lines = flat_map (λ line. line ++ 10 ∷ []) lines

-- the lengths of what is carried, and then its plan
abbrev pub part_text : Forms → List ℕ
part_text fs =
    decimal (least_all fs) ++ (codes " " ++ (decimal (largest_all fs) ++ 10 ∷ [])) ++ lines_text (map instruction_text (filter has_line (plans fs)))

-- what is told of a procedure
abbrev pub told_of : DeclaredProcedure → Told
told_of p = record { name = p.name; raises = p.raises; arguments = p.arguments; reply = p.reply }

abbrev pub text_of : DeclaredInterface → List ℕ
text_of i = plan_text i.name i.exceptions (map told_of i.procedures)

-- neither the arguments nor the reply may be longer than a call carries
pub record IsShort (p : Procedure) : Type 0 where
  pub arguments : largest_all (forms_in p.arguments) ≤ 92160
  pub reply : largest_all (forms_in p.reply) ≤ 92160

abbrev pub AreShort : List Procedure → Type 0
AreShort procedures = All IsShort procedures
