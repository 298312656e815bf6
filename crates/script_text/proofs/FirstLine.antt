-- The lines of a text, one at a time.
use Rattle.std.proofs.Common.{◌≡◌, ◌≢◌, ◌++◌, ℕ, ◌<◌, ◌≤◌, ◌+◌, ◌-◌, ◌==◌, Bool, true, false, not, cond, List, [], ◌∷◌, length, take, drop, Some, None, ap, arith, refl, ◌∙◌}
use Rattle.std.specs.List.{slice_split, onto_first, position, position_or_len}
use Rattle.std.proofs.lemmas.Bool.{ne_eqb}
use Rattle.std.proofs.lemmas.List.{take_rest}
use Rattle.std.proofs.lemmas.List.Splits.{slice_split_first}
use Rattle.script_text.proofs.Positions.{found_at, found_nowhere}
use Rattle.replay_model.specs.Script.{lines_of_parts, without_return, lines_of_text, is_newline}

-- a split has a part
pub split_has_a_part : (p : ℕ → Bool) (text : List ℕ) → (part : List ℕ) × (parts : List (List ℕ)) × (slice_split p text ≡ part ∷ parts)
split_has_a_part p [] = ([], [], refl)
split_has_a_part p (b ∷ bs) =
    elim (p b) as (λ t. (part : List ℕ) × (parts : List (List ℕ)) × (cond t ([] ∷ slice_split p bs) (onto_first b (slice_split p bs)) ≡ part ∷ parts)) [
      | true ↦ ([], slice_split p bs, refl)
      | false ↦ let h = split_has_a_part p bs in (b ∷ h.0, h.1, ap (onto_first b) h.2)
    ]

-- where no element is cut at, the list is the one part
pub split_whole : (p : ℕ → Bool) (xs : List ℕ) → length xs ≤ position_or_len p xs → slice_split p xs ≡ xs ∷ []
split_whole p [] h = refl
split_whole p (x ∷ xs) h =
    elim (p x) as (λ t. length (x ∷ xs) ≤ cond (not t) (1 + position_or_len p xs) 0 → cond t ([] ∷ slice_split p xs) (onto_first x (slice_split p xs)) ≡ (x ∷ xs) ∷ []) [
      | true ↦ λ k. absurd (omega arith)
      | false ↦ λ k. ap (onto_first x) (split_whole p xs (omega arith))
    ] h

more_lines : (line part : List ℕ) (parts all : List (List ℕ)) → all ≡ part ∷ parts → lines_of_parts (line ∷ all) ≡ without_return line ∷ lines_of_parts all
more_lines line part parts all e = rw e refl

-- the first line ends at the first newline
pub line_at : (text : List ℕ) (end : ℕ) → position is_newline text ≡ Some end →
    lines_of_text text ≡ without_return (take end text) ∷ lines_of_text (take (length text - (end + 1)) (drop (end + 1) text))
line_at text end e =
    let found = found_at is_newline text end e in
    let within : position_or_len is_newline text < length text = rw found.0 found.1 in
    let cut = slice_split_first is_newline text 0 within in
    let cut_at_end = rw found.0 at cut in
    let h = split_has_a_part is_newline (drop (end + 1) text) in
    rw take_rest (ap lines_of_parts cut_at_end ∙ more_lines (take end text) h.0 h.1 _ h.2)

-- a text with no newline is one line
pub last_line : (text : List ℕ) → position is_newline text ≡ None → lines_of_text text ≡ text ∷ []
last_line text e = ap lines_of_parts (split_whole is_newline text (found_nowhere is_newline text e))

-- a line with no carriage return at its end is whole, and one with it loses it
pub whole_line : (line : List ℕ) → ((front : List ℕ) → line ≢ front ++ (13 ∷ [])) → without_return line ≡ line
whole_line [] h = refl
whole_line (b ∷ []) h = let e : (b == 13) ≡ false = ne_eqb _ _ (λ z. h [] (ap (λ (x : ℕ). x ∷ []) z)) in rw e refl
whole_line (b ∷ c ∷ more) h = ap (λ (l : List ℕ). b ∷ l) (whole_line (c ∷ more) (λ front e. h (b ∷ front) (ap (λ (l : List ℕ). b ∷ l) e)))

pub shorter_line : (front : List ℕ) → without_return (front ++ (13 ∷ [])) ≡ front
shorter_line [] = refl
shorter_line (b ∷ []) = refl
shorter_line (b ∷ c ∷ more) = ap (λ (l : List ℕ). b ∷ l) (shorter_line (c ∷ more))
