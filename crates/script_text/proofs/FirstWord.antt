-- The words of a line, one at a time.
use Rattle.std.proofs.Common.{◌≡◌, ℕ, zero, suc, ◌<◌, ◌+◌, ◌-◌, ◌==◌, Bool, true, false, not, cond, List, [], ◌∷◌, length, take, drop, get_or, Some, None, ap, arith, refl, sym, ◌∙◌, add-one, add-zero, drop-cons, length-take, subst}
use Rattle.std.specs.Prelude.{filter}
use Rattle.std.specs.List.{slice_split, position, position_or_len}
use Rattle.std.proofs.lemmas.Bool.{both_ways, ne_eqb, not-true}
use Rattle.std.proofs.lemmas.List.{take_rest, drop_all, get_or-drop}
use Rattle.std.proofs.lemmas.List.Quantifiers.{position-Some}
use Rattle.std.proofs.lemmas.List.Splits.{slice_split_first}
use Rattle.replay_model.specs.Script.{is_blank, words_of}
use Rattle.script_text.specs.Words.{BeginsWithNoBlank}
use Rattle.script_text.proofs.FirstLine.{split_whole}
use Rattle.script_text.proofs.Positions.{found_at, found_nowhere}

abbrev pub no_blank : ℕ → Bool
no_blank b = not (is_blank b)

abbrev pub some_byte : List ℕ → Bool
some_byte w = not (length w == 0)

blank_first : (b : ℕ) (bs : List ℕ) → is_blank b ≡ true → words_of (b ∷ bs) ≡ words_of bs
blank_first b bs e = rw e refl

one_more : (n : ℕ) → 1 + n ≡ suc n
one_more n = omega arith

-- the blanks that a line begins with are between no words
skipped : (line : List ℕ) → words_of (drop (position_or_len no_blank line) line) ≡ words_of line
skipped [] = refl
skipped (b ∷ bs) =
    elim (is_blank b) as (λ t. is_blank b ≡ t → words_of (drop (cond (not (not t)) (1 + position_or_len no_blank bs) 0) (b ∷ bs)) ≡ words_of (b ∷ bs)) [
      | true ↦ λ e. rw (one_more (position_or_len no_blank bs)) (skipped bs ∙ sym (blank_first b bs e))
      | false ↦ λ e. refl
    ] refl

pub words_from : (line : List ℕ) (start : ℕ) → position no_blank line ≡ Some start → words_of (take (length line - start) (drop start line)) ≡ words_of line
words_from line start e = rw take_rest (
    let found = found_at no_blank line start e in
    let P : ℕ → Type 0 = λ n. words_of (drop n line) ≡ words_of line in
    subst P found.0 (skipped line))

pub begins_there : (line : List ℕ) (start : ℕ) → position no_blank line ≡ Some start → BeginsWithNoBlank (take (length line - start) (drop start line))
begins_there line start e = rw take_rest (λ some.
    let at = position-Some no_blank line start 0 e in
    rw (get_or-drop, add-zero) (not-true _ at.1))

pub no_word : (line : List ℕ) → position no_blank line ≡ None → words_of [] ≡ words_of line
no_word line e = let none : drop (position_or_len no_blank line) line ≡ [] = drop_all _ _ (found_nowhere no_blank line e) in
    let P : List ℕ → Type 0 = λ l. words_of l ≡ words_of line in
    subst P none (skipped line)

first_part : (l : List ℕ) (end : ℕ) → 0 < end → end < length l → (ws : List (List ℕ)) → filter some_byte (take end l ∷ ws) ≡ take end l ∷ filter some_byte ws
first_part l end some within ws = let e : (length (take end l) == 0) ≡ false = ne_eqb _ _ (λ z. omega (arith, length-take end l)) in rw e refl

not_first : (l : List ℕ) (end : ℕ) → BeginsWithNoBlank l → end < length l → is_blank (get_or l end 0) ≡ true → 0 < end
not_first l zero begins within blank = absurd (both_ways _ (begins within) blank)
not_first l (suc n) begins within blank = omega arith

-- a word ends at the first blank
pub word_at : (l : List ℕ) (end : ℕ) → BeginsWithNoBlank l → position is_blank l ≡ Some end → words_of l ≡ take end l ∷ words_of (take (length l - end) (drop end l))
word_at l end begins e =
    let at = position-Some is_blank l end 0 e in
    let within : end < length l = at.0 in
    let some : 0 < end = not_first l end begins within at.1 in
    let found = found_at is_blank l end e in
    let inside : position_or_len is_blank l < length l = rw found.0 found.1 in
    let cut = slice_split_first is_blank l 0 inside in
    let cut_at_end = rw found.0 at cut in
    let blank = blank_first (get_or l end 0) (drop (suc end) l) at.1 in
    let rest : words_of (drop end l) ≡ words_of (drop (suc end) l) = ap words_of (drop-cons l end 0 within) ∙ blank in
    let behind : words_of (drop (end + 1) l) ≡ words_of (drop end l) = ap (λ n. words_of (drop n l)) (add-one end) ∙ sym rest in
    rw take_rest (ap (filter some_byte) cut_at_end ∙ first_part l end some within (slice_split is_blank (drop (end + 1) l)) ∙ ap (λ ws. take end l ∷ ws) behind)

pub last_word : (l : List ℕ) → 0 < length l → position is_blank l ≡ None → words_of l ≡ l ∷ words_of []
last_word l some e =
    let whole = split_whole is_blank l (found_nowhere is_blank l e) in
    let more : (length l == 0) ≡ false = ne_eqb _ _ (λ z. omega arith) in
    ap (filter some_byte) whole ∙ rw more refl
