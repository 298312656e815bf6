-- The first line of a text, and the text behind it; and texts of plain bytes.
use Rattle.std.specs.Prelude.{◌≡◌, ◌<◌, ◌||◌, ℕ, Bool, List, [], ◌∷◌, length, Option, Some, None}
use Rattle.std.specs.Borrow.{Bor}
use Rattle.std.specs.List.{list_all}
use Rattle.replay_model.specs.Script.{lines_of_text, is_newline}
use Rattle.replay_model.specs.TextFault.{is_byte_of_line}

-- the lines from a place on, or none where no text is left
abbrev pub lines_of_rest : Option (Bor (List ℕ)) → List (List ℕ)
lines_of_rest None = []
lines_of_rest (Some text) = lines_of_text text.now

abbrev pub IsFirstLine : List ℕ → List ℕ → Option (Bor (List ℕ)) → Type 0
IsFirstLine text line rest = lines_of_text text ≡ line ∷ lines_of_rest rest

-- the text behind the line is shorter, or the line is all of the text
abbrev pub IsShorter : List ℕ → List ℕ → Option (Bor (List ℕ)) → Type 0
IsShorter text line None = line ≡ text
IsShorter text line (Some rest) = length rest.now < length text

-- bytes that a line may have, and newlines
abbrev pub is_plain_byte : ℕ → Bool
is_plain_byte b = is_byte_of_line b || is_newline b

abbrev pub is_plain : List ℕ → Bool
is_plain text = list_all is_plain_byte text
