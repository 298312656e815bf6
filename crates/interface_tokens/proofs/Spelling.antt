-- A reserved word is found among those that begin as it does.
use Rattle.std.proofs.Common.{◌≡◌, ◌==◌, ◌<◌, ℕ, Bool, true, List, [], ◌∷◌, None, length, get_or, refl, ap, arith}
use Rattle.std.specs.Prelude.{find, filter}
use Rattle.std.proofs.lemmas.Grind.{common_steps}
use Rattle.std.proofs.lemmas.Slice.Eq.{slice_eq-Decides}
use Rattle.std.proofs.lemmas.Bool.Decides.{Decides-eqb, nat_tests}
use Rattle.interface_tokens.specs.Names.{is_same}
use Rattle.interface_tokens.specs.Tokens.{first_spelled, spelling_of, word_of, words, words_from}
use Rattle.interface_tokens.specs.declared.token.Word.{Word}

find-filter : (p q : Word → Bool) → ((w : Word) → p w ≡ true → q w ≡ true) → (ws : List Word) → find p (filter q ws) ≡ find p ws
find-filter p q h [] = refl
find-filter p q h (w ∷ ws) = grind (arith, common_steps, h w, find-filter p q h ws)

same_first : (bytes : List ℕ) (w : Word) → is_same bytes (spelling_of w) ≡ true → (get_or (spelling_of w) 0 0 == get_or bytes 0 0) ≡ true
same_first bytes w h =
    let same = (slice_eq-Decides Decides-eqb bytes (spelling_of w) _ refl).0 h in
    grind (arith, nat_tests, ap (λ (xs : List ℕ). get_or xs 0 0) same)

pub among_those_from_its_first : (bytes : List ℕ) → first_spelled bytes (words_from (get_or bytes 0 0)) ≡ word_of bytes
unfolding word_of
among_those_from_its_first bytes =
    find-filter (λ w. is_same bytes (spelling_of w)) (λ w. get_or (spelling_of w) 0 0 == get_or bytes 0 0) (same_first bytes) words

pub not_empty : (bytes : List ℕ) → length bytes < 1 → None ≡ word_of bytes
unfolding word_of
not_empty [] h = refl
not_empty (x ∷ xs) h = absurd (omega arith)
