-- The words and buffers of a board: how its layout numbers them, the words that a new board has, how a word is packed into one number, and the bounds of a buffer.
use Rattle.std.specs.Prelude.{◌≡◌, ℕ, zero, suc, ◌+◌, ◌*◌, ◌/◌, ◌%◌, ◌^◌, ◌<◌, ◌≤◌, ◌==◌, nat_lt, Bool, true, false, if◌then◌else◌, List, [], ◌∷◌, ◌++◌, length, slice_index_or, Option, Some, None}
use mathlib.Core.Option.{some}
use lib.ListN.{get_elem?}
use Rattle.fragments.specs.declared.limits.TheConstants.{LONG, PIECE}
use Rattle.packet_board.specs.declared.buffer.TheConstants.{SMALL_BYTES}
use Rattle.packet_board.specs.declared.word.Word.{Word}
use Rattle.packet_board.specs.declared.layout.Layout.{Layout}
use Rattle.packet_board.specs.declared.buffer.Buffer.{Buffer}

abbrev pub one_if : Bool → ℕ
one_if true = 1
one_if false = 0

abbrev pub weigh : {A : Type 0} → (A → ℕ) → List A → ℕ
weigh f [] = 0
weigh f (x ∷ xs) = f x + weigh f xs

-- how many buffers, and how many cells: a free cell for each buffer, and the five rows
abbrev pub buffers_of : Layout → ℕ
buffers_of k = k.small + k.long

abbrev pub row_of : Layout → ℕ → ℕ
row_of k i = slice_index_or k.rows i 0

abbrev pub others_of : Layout → ℕ
others_of k = row_of k 0 + row_of k 1 + row_of k 2 + row_of k 3 + row_of k 4

abbrev pub cell_count : Layout → ℕ
cell_count k = buffers_of k + others_of k

-- the first word of a free cell has its own buffer, and that of each other cell has none
abbrev pub empty : Word
empty = record { tag = 0; buffer = None }

abbrev pub full : ℕ → Word
full n = record { tag = 0; buffer = Some n }

abbrev pub first_word : Layout → ℕ → Word
first_word k cell = if nat_lt cell (buffers_of k) then full cell else empty

abbrev pub first_words : Layout → ℕ → List Word
first_words k zero = []
first_words k (suc cell) = first_words k cell ++ first_word k cell ∷ []

abbrev pub first_cells : Layout → List Word
first_cells k = first_words k (cell_count k)

-- tags have 52 bits, and a number of a buffer is at most 4094
abbrev pub FitsBuffer : Option ℕ → Type 0
FitsBuffer None = Unit {0}
FitsBuffer (Some n) = n < 4095

abbrev pub Fits : Word → Type 0
Fits w = (w.tag < 2 ^ 52) × FitsBuffer w.buffer

abbrev pub code_of : Option ℕ → ℕ
code_of None = 0
code_of (Some n) = n + 1

abbrev pub named : ℕ → Option ℕ
named zero = None
named (suc n) = Some n

abbrev pub packed : Word → ℕ
packed w = w.tag * 4096 + code_of w.buffer

abbrev pub unpacked : ℕ → Word
unpacked n = record { tag = n / 4096; buffer = named (n % 4096) }

-- how often the number b stands in a word's place for one, in numbers, in words
abbrev pub names : ℕ → Option ℕ → ℕ
names b None = 0
names b (Some n) = one_if (n == b)

abbrev pub times : ℕ → List ℕ → ℕ
times b ns = weigh (λ n. one_if (n == b)) ns

abbrev pub in_words : ℕ → List Word → ℕ
in_words b ws = weigh (λ w. names b w.buffer) ws

-- small buffers come first: the bytes of a buffer by its number, and how many of them may be data
abbrev pub bytes_of : Layout → ℕ → ℕ
bytes_of k n = if nat_lt n k.small then SMALL_BYTES else LONG

abbrev pub room_of : Layout → ℕ → ℕ
room_of k n = if nat_lt n k.small then PIECE else LONG

pub record IsBuffer (k : Layout) (n : ℕ) (y : Buffer) : Type 0 where
  pub bytes : length y.bytes ≡ bytes_of k n
  pub data_fits : y.len ≤ room_of k n
  pub from_1 : 1 ≤ y.from
  pub to_254 : y.from ≤ 254

-- a buffer of a new board
pub record IsNew (k : Layout) (n : ℕ) (y : Buffer) : Type 0 where
  pub within : IsBuffer k n y
  pub no_data : y.len ≡ 0
  pub from_is : y.from ≡ 1

-- as many slots as that, each with a new buffer
abbrev pub AreNew : Layout → ℕ → List (Option Buffer) → Type 0
AreNew k count xs = (length xs ≡ count) × ((n : ℕ) (x : Option Buffer) → get_elem? xs n ≡ some x → (y : Buffer) × (x ≡ Some y) × IsNew k n y)
