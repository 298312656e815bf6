-- The text of plans: what each line says, and their order. Contracts of the printing cite it.
use Rattle.std.specs.Prelude.{ℕ, ◌+◌, List, [], ◌∷◌, ◌++◌, Bool, true, false, map, filter, codes}
use Rattle.std.specs.List.{flat_map}
use Rattle.std.specs.Fmt.{decimal}
use Rattle.interface_text.specs.Kinds.{Kind, row}
use Rattle.marshal_plans.specs.declared.basic.Basic.{Basic}
use Rattle.marshal_plans.specs.declared.basic.Basic.TheVariants as basic
use Rattle.marshal_plans.specs.declared.instruction.Extent.TheVariants.{Exactly, UpTo}
use Rattle.marshal_plans.specs.declared.instruction.Instruction.{Instruction}
use Rattle.marshal_plans.specs.declared.instruction.Instruction.TheVariants.{Item, Bytes, Loop, Next, Record, End}
use Rattle.marshal_plans.specs.Forms.{Forms, forms_of}
use Rattle.marshal_plans.specs.Lengths.{least_all, largest_all}
use Rattle.marshal_plans.specs.Plan.{plans}

abbrev pub basic_text : Basic → List ℕ
basic_text basic.Bool = codes "bool"
basic_text basic.Byte = codes "u8"
basic_text basic.Cardinal = codes "u32"
basic_text basic.Integer = codes "i32"
basic_text basic.LongCard = codes "u64"
basic_text (basic.Choice count) = codes "enum " ++ decimal count

-- the marks of a record have no line
abbrev pub instruction_text : Instruction → List ℕ
instruction_text (Item b) = basic_text b
instruction_text (Bytes (Exactly n)) = codes "bytes " ++ decimal n
instruction_text (Bytes (UpTo n)) = codes "openbytes " ++ decimal n
instruction_text (Loop (Exactly n) len) = codes "loop " ++ decimal n
instruction_text (Loop (UpTo n) len) = codes "open " ++ decimal n
instruction_text Next = codes "next"
instruction_text (Record len) = []
instruction_text End = []

abbrev pub has_line : Instruction → Bool
has_line (Record len) = false
has_line End = false
has_line _ = true

-- the lengths of what is carried, and then how it is read
abbrev pub part_lines : List ℕ → Forms → List (List ℕ)
part_lines word fs =
    (word ++ codes " " ++ decimal (least_all fs) ++ codes " " ++ decimal (largest_all fs)) ∷ map instruction_text (filter has_line (plans fs))

-- what a plan text tells of a procedure
pub record Told : Type 0 where
  pub name : List ℕ
  pub raises : List ℕ
  pub arguments : List Kind
  pub reply : List Kind

abbrev pub raises_lines : List ℕ → List (List ℕ)
raises_lines [] = []
raises_lines (n ∷ ns) = (codes "raises" ++ flat_map (λ k. codes " " ++ decimal k) (n ∷ ns)) ∷ []

abbrev pub procedure_lines : ℕ → Told → List (List ℕ)
procedure_lines number p =
    (codes "procedure " ++ decimal number ++ codes " " ++ p.name) ∷ raises_lines p.raises
    ++ part_lines (codes "arguments") (forms_of (row p.arguments)) ++ part_lines (codes "reply") (forms_of (row p.reply))

-- numbered from the first number on
abbrev pub procedures_lines : ℕ → List Told → List (List ℕ)
procedures_lines number [] = []
procedures_lines number (p ∷ ps) = procedure_lines number p ++ procedures_lines (number + 1) ps

abbrev pub exceptions_lines : ℕ → List (List ℕ) → List (List ℕ)
exceptions_lines number [] = []
exceptions_lines number (name ∷ names) = (codes "exception " ++ decimal number ++ codes " " ++ name) ∷ exceptions_lines (number + 1) names

-- exceptions are numbered from 1, procedures from 0, and each line ends with a newline
abbrev pub plan_text : List ℕ → List (List ℕ) → List Told → List ℕ
plan_text name exceptions procedures =
    flat_map (λ line. line ++ 10 ∷ [])
    ((codes "interface " ++ name) ∷ exceptions_lines 1 exceptions ++ procedures_lines 0 procedures ++ codes "end" ∷ [])
