-- How a text is cut into pieces, and how pieces are joined: each piece but the last is full.
use Rattle.std.specs.Prelude.{ℕ, ◌≡◌, ◌≤◌, ◌+◌, ◌-◌, ◌*◌, ◌/◌, List, [], ◌∷◌, ◌++◌, length, take, drop, map}
use Rattle.std.specs.List.{All, concat, range_with_len}

-- the number of bytes of a full piece
abbrev pub piece_size : ℕ
piece_size = 1440

-- the number of the last piece of a text of `len` bytes; a text without bytes is one empty piece
abbrev pub last_piece : ℕ → ℕ
last_piece len = (len - 1) / piece_size

-- the number of pieces of a text of `len` bytes
abbrev pub piece_count : ℕ → ℕ
piece_count len = last_piece len + 1

-- piece `i` of a text
unfoldable pub piece : List ℕ → ℕ → List ℕ
piece text i = take piece_size (drop (piece_size * i) text)

-- the bytes of the first `k` pieces of a text
unfoldable pub front : List ℕ → ℕ → List ℕ
front text k = take (piece_size * k) text

-- the pieces of a text, in their order
unfoldable pub cut : List ℕ → List (List ℕ)
cut text = map (piece text) (range_with_len 0 (piece_count (length text)))

-- the bytes of some pieces, one piece behind the other
abbrev pub join : List (List ℕ) → List ℕ
join pieces = concat pieces

-- these lists are the pieces of a text
pub record ArePieces (pieces : List (List ℕ)) : Type 0 where
  pub before : List (List ℕ)
  pub last : List ℕ
  -- there is a last piece
  pub whole : pieces ≡ before ++ last ∷ []
  -- each piece before it is full
  pub full : All (λ (p : List ℕ). length p ≡ piece_size) before
  -- the last piece has no more bytes than a full one
  pub fits : length last ≤ piece_size
  -- it is empty only where it is the only one
  pub needed : last ≡ [] → before ≡ []
