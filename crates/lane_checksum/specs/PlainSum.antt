-- The plain one's complement sum of a text, as RFC 1071 gives it and RFC 768 and RFC 791 use it, and the
-- checksum field that RFC 768 makes of it. A byte is a number below 256.
use Rattle.std.specs.Prelude.{ℕ, ◌+◌, ◌-◌, ◌*◌, ◌%◌, List, [], ◌∷◌, if◌then◌else◌, ◌==◌}

-- the 16-bit words of a text, high byte first, with one zero byte added at an odd length
abbrev pub words : List ℕ → List ℕ
words [] = []
words (high ∷ []) = 256 * high ∷ []
words (high ∷ low ∷ rest) = (256 * high + low) ∷ words rest

-- the plain total of a list of numbers
abbrev pub total : List ℕ → ℕ
total [] = 0
total (n ∷ ns) = n + total ns

-- the plain total of the words of a text, with no carry brought round
abbrev pub word_total : List ℕ → ℕ
word_total bytes = total (words bytes)

-- a total in one's complement arithmetic of 16 bits: its remainder by 65535, and 65535 in place of 0 where
-- the total isn't 0
unfoldable pub reduced : ℕ → ℕ
reduced n = if n == 0 then 0 else (if n % 65535 == 0 then 65535 else n % 65535)

-- the one's complement sum of a text
abbrev pub csum : List ℕ → ℕ
csum bytes = reduced (word_total bytes)

-- what stands in a checksum field for this sum of everything else: its complement of 16 bits, and 65535 in
-- place of 0, since a field of 0 says that there is no checksum
unfoldable pub finish_of : ℕ → ℕ
finish_of sum = if 65535 - sum == 0 then 65535 else 65535 - sum
