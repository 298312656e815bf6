-- The sizes of a packet: of its header, and of the data behind it.
use Rattle.std.specs.Prelude.{ℕ}

-- the number of bytes of a header
abbrev pub header_len : ℕ
header_len = 32

-- the most bytes of data behind a header, which a full piece has
abbrev pub data_limit : ℕ
data_limit = 1440
