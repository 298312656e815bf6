-- The lines of a text of plain bytes have only bytes that a line may have.
use Rattle.std.proofs.Common.{◌≡◌, ℕ, ◌==◌, true, false, cond, List, [], ◌∷◌, inl, inr, sym, refl, subst}
use Rattle.std.specs.List.{slice_split, onto_first, list_all}
use Rattle.std.proofs.lemmas.Bool.{and_parts, and_from, both_ways, or_cases}
use Rattle.replay_model.specs.Script.{is_newline, lines_of_parts, lines_of_text, without_return}
use Rattle.replay_model.specs.TextFault.{is_byte_of_line}
use Rattle.script_text.specs.Lines.{is_plain, is_plain_byte}
use Rattle.script_text.proofs.FirstLine.{split_has_a_part}
use Rattle.script_text.proofs.LineBytes.{fine}

byte_of_line : (b : ℕ) → is_plain_byte b ≡ true → is_newline b ≡ false → is_byte_of_line b ≡ true
byte_of_line b plain other = elim (or_cases (is_byte_of_line b) (is_newline b) plain) [
  | inl e ↦ e
  | inr e ↦ absurd (both_ways _ other e)
]

split_fine : (text : List ℕ) → is_plain text ≡ true → list_all fine (slice_split is_newline text) ≡ true
split_fine [] e = refl
split_fine (b ∷ bs) e =
    let both = and_parts (is_plain_byte b) (is_plain bs) e in
    elim (is_newline b) as (λ t. is_newline b ≡ t → list_all fine (cond t ([] ∷ slice_split is_newline bs) (onto_first b (slice_split is_newline bs))) ≡ true) [
      | true ↦ λ newline. split_fine bs both.1
      | false ↦ λ other.
          let split = split_has_a_part is_newline bs in
          let Q : List (List ℕ) → Type 0 = λ parts. list_all fine parts ≡ true in
          let P : List (List ℕ) → Type 0 = λ parts. list_all fine (onto_first b parts) ≡ true in
          let rest = and_parts (fine split.0) (list_all fine split.1) (subst Q split.2 (split_fine bs both.1)) in
          subst P (sym split.2) (and_from _ _ (and_from _ _ (byte_of_line b both.0 other) rest.0) rest.1)
    ] refl

return_fine : (line : List ℕ) → fine line ≡ true → fine (without_return line) ≡ true
return_fine [] e = refl
return_fine (b ∷ []) e = elim (b == 13) as (λ t. fine (cond t [] (b ∷ [])) ≡ true) [
  | true ↦ refl
  | false ↦ e
]
return_fine (b ∷ c ∷ more) e =
    let both = and_parts (is_byte_of_line b) (fine (c ∷ more)) e in
    and_from _ _ both.0 (return_fine (c ∷ more) both.1)

parts_fine : (parts : List (List ℕ)) → list_all fine parts ≡ true → list_all fine (lines_of_parts parts) ≡ true
parts_fine [] e = refl
parts_fine (x ∷ []) e = e
parts_fine (x ∷ y ∷ more) e =
    let both = and_parts (fine x) (list_all fine (y ∷ more)) e in
    and_from _ _ (return_fine x both.0) (parts_fine (y ∷ more) both.1)

pub plain_lines : (text : List ℕ) → is_plain text ≡ true → list_all fine (lines_of_text text) ≡ true
plain_lines text e = parts_fine (slice_split is_newline text) (split_fine text e)

pub fine_first : (lines : List (List ℕ)) (line : List ℕ) (more : List (List ℕ)) → lines ≡ line ∷ more → list_all fine lines ≡ true → (fine line ≡ true) × (list_all fine more ≡ true)
fine_first lines line more is e = let P : List (List ℕ) → Type 0 = λ ls. list_all fine ls ≡ true in and_parts (fine line) (list_all fine more) (subst P is e)
