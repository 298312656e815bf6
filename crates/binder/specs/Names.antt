-- Which bytes are a name, and when two names are the same.
use Rattle.std.specs.Prelude.{ℕ, ◌&&◌, ◌||◌, nat_le, Bool, false, List, [], ◌∷◌, length, Option, Some, None, if◌then◌else◌}
use Rattle.std.specs.List.{list_all}

-- the most bytes of a name
abbrev pub name_limit : ℕ
name_limit = 32

-- `A` to `Z` and `a` to `z`
abbrev pub is_letter : ℕ → Bool
is_letter byte = (nat_le 65 byte && nat_le byte 90) || (nat_le 97 byte && nat_le byte 122)

-- `0` to `9`
abbrev pub is_digit : ℕ → Bool
is_digit byte = nat_le 48 byte && nat_le byte 57

abbrev pub begins_with_letter : List ℕ → Bool
begins_with_letter [] = false
begins_with_letter (byte ∷ bytes) = is_letter byte

-- 1 to 32 letters and digits, of which the first is a letter
abbrev pub is_name : List ℕ → Bool
is_name bytes =
    begins_with_letter bytes && list_all (λ byte. is_letter byte || is_digit byte) bytes && nat_le (length bytes) name_limit

-- the name that some bytes are
abbrev pub name_of : List ℕ → Option (List ℕ)
name_of bytes = if is_name bytes then Some bytes else None
