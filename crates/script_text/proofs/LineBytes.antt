-- The bytes of a line: those of its words, and blanks.
use Rattle.std.proofs.Common.{◌≡◌, ℕ, ◌&&◌, ◌||◌, Bool, true, false, cond, List, [], ◌∷◌, length, IsTrue, ap, arith, sym, refl, subst, ◌∙◌}
use Rattle.std.specs.Prelude.{filter, nat_le}
use Rattle.std.specs.Char.{is_ascii_digit}
use Rattle.std.specs.List.{slice_split, onto_first, list_all, Contains}
use Rattle.std.proofs.lemmas.Bool.{and_parts, and_from, ltb-true, ne_eqb, not_from_false}
use Rattle.std.proofs.lemmas.Bool.Decides.{nat_tests}
use Rattle.binder.specs.Names.{is_letter, is_digit, is_name, begins_with_letter, name_limit}
use Rattle.replay_model.specs.Forms.{Place, The, Number, Name, Value, Numeral, Text, Form, forms}
use Rattle.replay_model.specs.Script.{AllSay, is_blank, words_of}
use Rattle.replay_model.specs.TextFault.{is_byte_of_line, is_numeral, begins_plainly}
use Rattle.script_text.proofs.FirstLine.{split_has_a_part}
use Rattle.script_text.proofs.FirstWord.{some_byte}
use Rattle.script_text.proofs.Numbers.{spelled_number, without_fault}
use Rattle.script_text.proofs.Rows.{is_small, row_passes}

abbrev pub fine : List ℕ → Bool
fine w = list_all is_byte_of_line w

all_more : (p q : ℕ → Bool) → ((b : ℕ) → p b ≡ true → q b ≡ true) → (w : List ℕ) → list_all p w ≡ true → list_all q w ≡ true
all_more p q more [] e = refl
all_more p q more (b ∷ bs) e =
    let both = and_parts (p b) (list_all p bs) e in
    and_from _ _ (more b both.0) (all_more p q more bs both.1)

digit_is_fine : (b : ℕ) → is_ascii_digit b ≡ true → is_byte_of_line b ≡ true
digit_is_fine b e = grind (arith, nat_tests)

letter_or_digit_is_fine : (b : ℕ) → is_letter b || is_digit b ≡ true → is_byte_of_line b ≡ true
letter_or_digit_is_fine b e = grind (arith, nat_tests)

numeral_is_fine : (w : List ℕ) → is_numeral w ≡ true → fine w ≡ true
numeral_is_fine w e = all_more is_ascii_digit is_byte_of_line digit_is_fine w (and_parts (list_all is_ascii_digit w) (begins_plainly w) e).0

name_is_fine : (w : List ℕ) → IsTrue (is_name w) → fine w ≡ true
name_is_fine w e =
    let letters_or_digits : ℕ → Bool = λ b. is_letter b || is_digit b in
    let parts = and_parts (begins_with_letter w && list_all letters_or_digits w) (nat_le (length w) name_limit) e in
    let both = and_parts (begins_with_letter w) (list_all letters_or_digits w) parts.0 in
    all_more letters_or_digits is_byte_of_line letter_or_digit_is_fine w both.1

abbrev is_fine_place : Place → Bool
is_fine_place (The text) = fine text
is_fine_place (Number low high) = true
is_fine_place Name = true

-- the words of a line that spells an event have fine bytes
said_is_fine : (ps : List Place) (ws : List (List ℕ)) (vs : List Value) → list_all is_small ps ≡ true → list_all is_fine_place ps ≡ true → AllSay ps ws vs → list_all fine ws ≡ true
said_is_fine [] [] vs small e h = refl
said_is_fine [] (w ∷ ws) vs small e h = absurd h
said_is_fine (p ∷ ps) [] vs small e h = refl
said_is_fine (p ∷ ps) (w ∷ ws) [] small e h = absurd h
said_is_fine (The text ∷ ps) (w ∷ ws) (Numeral n ∷ vs) small e h = absurd h.0
said_is_fine (The text ∷ ps) (w ∷ ws) (Text t ∷ vs) small e h =
    let both = and_parts (fine text) (list_all is_fine_place ps) e in
    and_from _ _ (ap fine h.0.1 ∙ both.0) (said_is_fine ps ws vs small both.1 h.1)
said_is_fine (Number low high ∷ ps) (w ∷ ws) (Numeral n ∷ vs) small e h =
    let bits = and_parts (is_small (Number low high)) (list_all is_small ps) small in
    let no_fault = (spelled_number w low high n (ltb-true _ _ bits.0) h.0).0 in
    and_from _ _ (numeral_is_fine w (without_fault low high w no_fault).0) (said_is_fine ps ws vs bits.1 e h.1)
said_is_fine (Number low high ∷ ps) (w ∷ ws) (Text t ∷ vs) small e h = absurd h.0
said_is_fine (Name ∷ ps) (w ∷ ws) (Numeral n ∷ vs) small e h = absurd h.0
said_is_fine (Name ∷ ps) (w ∷ ws) (Text t ∷ vs) small e h = and_from _ _ (name_is_fine w h.0.1) (said_is_fine ps ws vs small e h.1)

abbrev has_fine_places : Form → Bool
has_fine_places f = list_all is_fine_place f.places

all_fine : list_all has_fine_places forms ≡ true
all_fine = refl

pub words_are_fine : (f : Form) (ws : List (List ℕ)) (vs : List Value) → Contains forms f → list_all is_small f.places ≡ true → AllSay f.places ws vs → list_all fine ws ≡ true
words_are_fine f ws vs at small h = said_is_fine f.places ws vs small (row_passes has_fine_places all_fine f at) h

some_length : (b : ℕ) (bs : List ℕ) → some_byte (b ∷ bs) ≡ true
some_length b bs = not_from_false _ (ne_eqb _ _ (λ z. omega arith))

-- a part that is left out is empty
kept_fine : (parts : List (List ℕ)) → list_all fine (filter some_byte parts) ≡ true → list_all fine parts ≡ true
kept_fine [] e = refl
kept_fine ([] ∷ parts) e = kept_fine parts e
kept_fine ((b ∷ bs) ∷ parts) e =
    let both = and_parts (fine (b ∷ bs)) (list_all fine (filter some_byte parts)) (rw (some_length b bs) at e) in
    and_from _ _ both.0 (kept_fine parts both.1)

blank_is_fine : (b : ℕ) (t : Bool) → is_blank b ≡ true → (is_blank b || t) ≡ true
blank_is_fine b t e = rw e refl

parts_fine : (line : List ℕ) → list_all fine (slice_split is_blank line) ≡ true → fine line ≡ true
parts_fine [] e = refl
parts_fine (b ∷ bs) e =
    elim (is_blank b) as (λ t. is_blank b ≡ t → list_all fine (cond t ([] ∷ slice_split is_blank bs) (onto_first b (slice_split is_blank bs))) ≡ true → fine (b ∷ bs) ≡ true) [
      | true ↦ λ blank h. and_from _ _ (blank_is_fine b _ blank) (parts_fine bs h)
      | false ↦ λ plain h.
          let split = split_has_a_part is_blank bs in
          let Q : List (List ℕ) → Type 0 = λ parts. list_all fine (onto_first b parts) ≡ true in
          let cut = subst Q split.2 h in
          let first = and_parts (fine (b ∷ split.0)) (list_all fine split.1) cut in
          let byte = and_parts (is_byte_of_line b) (fine split.0) first.0 in
          let P : List (List ℕ) → Type 0 = λ parts. list_all fine parts ≡ true in
          and_from _ _ byte.0 (parts_fine bs (subst P (sym split.2) (and_from _ _ byte.1 first.1)))
    ] refl e

pub line_is_fine : (line : List ℕ) → list_all fine (words_of line) ≡ true → fine line ≡ true
line_is_fine line e = parts_fine line (kept_fine (slice_split is_blank line) e)
