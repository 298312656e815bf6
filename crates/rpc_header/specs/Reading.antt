-- How bytes are read as a packet header with its data behind it.
use Rattle.std.specs.Prelude.{ℕ, ◌-◌, ◌^◌, ◌%◌, ◌||◌, not, nat_lt, nat_le, ◌==◌, Bool, is_none, List, [], ◌∷◌, ◌++◌, length, drop, find, Option, Some, None, unwrap_or}
use Rattle.std.proofs.Math.Nat.{mod-lt}
use Rattle.std.proofs.Common.{lit<}
use Rattle.byteorder.specs.Endian.{big_number}
use Rattle.rpc_header.specs.declared.Header.{Header}
use Rattle.rpc_header.specs.declared.CallNumber.{CallNumber}
use Rattle.rpc_header.specs.declared.HeaderFault.{HeaderFault}
use Rattle.rpc_header.specs.declared.HeaderFault.TheVariants as fault
use Rattle.rpc_header.specs.declared.Kind.TheVariants.{Call}
use Rattle.rpc_header.specs.Limits.{header_len, data_limit}
use Rattle.rpc_header.specs.Versions.{fragments_of}
use Rattle.rpc_header.specs.Fields.{Field, version_field, kind_field, flags_field, reason_field, machine_field, process_field, hint_field, call_number_field, fragment_field, identifier_field, index_field, procedure_field, data_length_field, reserved_field, place_of, kind_of, has_bit, is_reason}
use Rattle.rpc_header.specs.Spelling.{is_short_fragment}

-- the number in the `bytes` bytes from place `first`
unfoldable pub number_at : ℕ → ℕ → List ℕ → ℕ
number_at first bytes xs = big_number bytes (drop first xs)

-- the number in a field
abbrev pub number_in : List ℕ → Field → ℕ
number_in xs field = number_at (place_of field).first (place_of field).bytes xs

-- a call number of 6 bytes; of a greater number what stands in its lowest 6 bytes
abbrev pub call_number_of : ℕ → CallNumber
call_number_of n = record { value = n % 2 ^ 48; below_limit = mod-lt n (lit< tt) }

-- what the fields say, where no fault applies
abbrev pub header_in : List ℕ → Header
header_in xs = record {
  kind = unwrap_or (kind_of (number_in xs kind_field)) Call;
  please_ack = has_bit (number_in xs flags_field) 1;
  last = has_bit (number_in xs flags_field) 2;
  reason = number_in xs reason_field;
  call = record {
    activity = record { machine = number_in xs machine_field; process = number_in xs process_field };
    number = call_number_of (number_in xs call_number_field);
  };
  hint = number_in xs hint_field;
  fragment = number_in xs fragment_field;
  export = record { identifier = number_in xs identifier_field; index = number_in xs index_field };
  procedure = number_in xs procedure_field;
}

-- the data behind a header
abbrev pub data_behind : List ℕ → List ℕ
data_behind xs = drop header_len xs

-- whether a fault applies to the bytes
unfoldable pub applies : List ℕ → HeaderFault → Bool
applies xs fault.Short = nat_lt (length xs) header_len
applies xs fault.Version = is_none (fragments_of (number_in xs version_field))
applies xs fault.Kind = is_none (kind_of (number_in xs kind_field))
applies xs fault.Flags = nat_lt 3 (number_in xs flags_field)
applies xs fault.Reason = not (is_reason (header_in xs).kind (number_in xs reason_field))
applies xs fault.Length =
    not (number_in xs data_length_field == length xs - header_len) || nat_lt data_limit (number_in xs data_length_field)
applies xs fault.Reserved = not (number_in xs reserved_field == 0)
applies xs fault.ShortFragment =
    is_short_fragment (header_in xs).kind (header_in xs).last (number_in xs data_length_field)
applies xs fault.FragmentNumber =
    nat_le (unwrap_or (fragments_of (number_in xs version_field)) 0) (number_in xs fragment_field)

-- the faults of the first four bytes of a header, of its last four, and of its piece
abbrev pub front_faults : List HeaderFault
front_faults = fault.Version ∷ fault.Kind ∷ fault.Flags ∷ fault.Reason ∷ []

abbrev pub back_faults : List HeaderFault
back_faults = fault.Length ∷ fault.Reserved ∷ []

abbrev pub piece_faults : List HeaderFault
piece_faults = fault.ShortFragment ∷ fault.FragmentNumber ∷ []

-- the faults in their order: a fault's number is its place here, counted from 1
abbrev pub faults : List HeaderFault
faults = fault.Short ∷ front_faults ++ back_faults ++ piece_faults

-- the first of these faults that applies
abbrev pub first_fault : List HeaderFault → List ℕ → Option HeaderFault
first_fault among xs = find (applies xs) among

-- what reading gives: the first fault that applies, or the header and the data behind it
pub data Read : Type 0 where
  Accepted : (header : Header) (data_bytes : List ℕ) → Read
  Refused : (fault : HeaderFault) → Read

abbrev pub read_or : List ℕ → Option HeaderFault → Read
read_or xs None = Accepted (header_in xs) (data_behind xs)
read_or xs (Some fault) = Refused fault

unfoldable pub read_of : List ℕ → Read
read_of xs = read_or xs (first_fault faults xs)
