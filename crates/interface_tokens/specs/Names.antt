-- Names: a letter of ASCII and then letters and digits, at most 32 in all.
use Rattle.std.specs.Prelude.{ℕ, nat_eq, nat_le, Bool, false, ◌&&◌, List, [], ◌∷◌, length}
use Rattle.std.specs.List.{list_all, list_any}
use Rattle.std.specs.Char.{is_ascii_alphabetic, is_ascii_alphanumeric}
use Rattle.std.specs.Cmp.Lexicographic.{pointwise}

-- the most bytes of a name
abbrev pub name_limit : ℕ
name_limit = 32

abbrev pub is_name : List ℕ → Bool
is_name [] = false
is_name (first ∷ others) =
    is_ascii_alphabetic first && (list_all is_ascii_alphanumeric others && nat_le (length (first ∷ others)) name_limit)

-- whether two names are the same
abbrev pub is_same : List ℕ → List ℕ → Bool
is_same = pointwise nat_eq

-- whether a name is among some names
abbrev pub is_among : List ℕ → List (List ℕ) → Bool
is_among name names = list_any (is_same name) names
