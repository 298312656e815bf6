-- How a packet header is spelled: its fields in their order, each number with its highest byte first.
use Rattle.std.specs.Prelude.{ℕ, ◌≤◌, ◌<◌, ◌^◌, ◌&&◌, not, ◌==◌, Bool, IsTrue, List, flat_map}
use Rattle.byteorder.specs.Endian.{big_bytes}
use Rattle.rpc_header.specs.declared.Header.{Header}
use Rattle.rpc_header.specs.declared.Kind.{Kind}
use Rattle.rpc_header.specs.Limits.{data_limit}
use Rattle.rpc_header.specs.Versions.{fragments_in, version_of}
use Rattle.rpc_header.specs.Fields.{Field, version_field, kind_field, flags_field, reason_field, machine_field, process_field, hint_field, call_number_field, fragment_field, identifier_field, index_field, procedure_field, data_length_field, reserved_field, fields, place_of, kind_number, flags_number, is_reason, has_pieces}

-- what a header with `len` bytes of data behind it says in a field
abbrev pub value_in : Header → ℕ → Field → ℕ
value_in h len version_field = version_of h
value_in h len kind_field = kind_number h.kind
value_in h len flags_field = flags_number h.please_ack h.last
value_in h len reason_field = h.reason
value_in h len machine_field = h.call.activity.machine
value_in h len process_field = h.call.activity.process
value_in h len hint_field = h.hint
value_in h len call_number_field = h.call.number.value
value_in h len fragment_field = h.fragment
value_in h len identifier_field = h.export.identifier
value_in h len index_field = h.export.index
value_in h len procedure_field = h.procedure
value_in h len data_length_field = len
value_in h len reserved_field = 0

-- the bytes of a header with `len` bytes of data behind it
unfoldable pub spelling : Header → ℕ → List ℕ
spelling h len = flat_map (λ field. big_bytes (place_of field).bytes (value_in h len field)) fields

-- a piece before the last one is full
abbrev pub is_short_fragment : Kind → Bool → ℕ → Bool
is_short_fragment kind last len = has_pieces kind && not last && not (len == data_limit)

-- a header with `len` bytes of data behind it has a spelling
pub record HasSpelling (h : Header) (len : ℕ) : Type 0 where
  pub reason : IsTrue (is_reason h.kind h.reason)
  pub data_length : len ≤ data_limit
  pub fullness : IsTrue (not (is_short_fragment h.kind h.last len))
  pub fragment : h.fragment < fragments_in h

-- each number of a header has room in its field: this holds of every header that a program can make
pub record FitsFields (h : Header) : Type 0 where
  pub machine : h.call.activity.machine < 256 ^ 4
  pub process : h.call.activity.process < 256 ^ 2
  pub hint : h.hint < 256 ^ 2
  pub identifier : h.export.identifier < 256 ^ 4
  pub index : h.export.index < 256 ^ 2
  pub procedure : h.procedure < 256 ^ 2
