-- The fields of the 32-byte packet header: where each one stands, and what its numbers mean.
use Rattle.std.specs.Prelude.{ℕ, ◌==◌, ◌||◌, nat_le, nat_lt, bit_and, Bool, true, false, List, [], ◌∷◌, find, Option}
use Rattle.rpc_header.specs.declared.Kind.{Kind}
use Rattle.rpc_header.specs.declared.Kind.TheVariants.{Call, Result, Ack, Probe, Reject, Signal, Bind, Bound}

pub data Field : Type 0 where
  version_field : Field
  kind_field : Field
  flags_field : Field
  reason_field : Field
  machine_field : Field
  process_field : Field
  hint_field : Field
  call_number_field : Field
  fragment_field : Field
  identifier_field : Field
  index_field : Field
  procedure_field : Field
  data_length_field : Field
  reserved_field : Field

-- the fields in the order in which they stand
abbrev pub fields : List Field
fields =
    version_field ∷ kind_field ∷ flags_field ∷ reason_field ∷ machine_field ∷ process_field
    ∷ hint_field ∷ call_number_field ∷ fragment_field ∷ identifier_field ∷ index_field
    ∷ procedure_field ∷ data_length_field ∷ reserved_field ∷ []

pub record Place : Type 0 where
  pub first : ℕ
  pub bytes : ℕ

-- the first byte of a field, and its number of bytes
abbrev pub place_of : Field → Place
place_of version_field = record { first = 0; bytes = 1 }
place_of kind_field = record { first = 1; bytes = 1 }
place_of flags_field = record { first = 2; bytes = 1 }
place_of reason_field = record { first = 3; bytes = 1 }
place_of machine_field = record { first = 4; bytes = 4 }
place_of process_field = record { first = 8; bytes = 2 }
place_of hint_field = record { first = 10; bytes = 2 }
place_of call_number_field = record { first = 12; bytes = 6 }
place_of fragment_field = record { first = 18; bytes = 2 }
place_of identifier_field = record { first = 20; bytes = 4 }
place_of index_field = record { first = 24; bytes = 2 }
place_of procedure_field = record { first = 26; bytes = 2 }
place_of data_length_field = record { first = 28; bytes = 2 }
place_of reserved_field = record { first = 30; bytes = 2 }

-- the number of a kind
abbrev pub kind_number : Kind → ℕ
kind_number Call = 1
kind_number Result = 2
kind_number Ack = 3
kind_number Probe = 4
kind_number Reject = 5
kind_number Signal = 6
kind_number Bind = 7
kind_number Bound = 8

abbrev pub kinds : List Kind
kinds = Call ∷ Result ∷ Ack ∷ Probe ∷ Reject ∷ Signal ∷ Bind ∷ Bound ∷ []

-- the kind of a number, if there is one
abbrev pub kind_of : ℕ → Option Kind
kind_of n = find (λ kind. kind_number kind == n) kinds

-- the flags: bit value 1 asks for an acknowledgement, bit value 2 marks the last piece
abbrev pub flags_number : Bool → Bool → ℕ
flags_number false false = 0
flags_number true false = 1
flags_number false true = 2
flags_number true true = 3

-- whether the bit of this value is set
abbrev pub has_bit : ℕ → ℕ → Bool
has_bit flags value = nat_lt 0 (bit_and flags value)

-- the reasons that a kind may give
abbrev pub is_reason : Kind → ℕ → Bool
is_reason Reject reason = (reason == 1) || (reason == 2)
is_reason Bound reason = nat_le reason 1
is_reason _ reason = reason == 0

-- the kinds whose data comes in pieces
abbrev pub has_pieces : Kind → Bool
has_pieces Call = true
has_pieces Result = true
has_pieces Signal = true
has_pieces _ = false
