-- A spelling with its data behind it is read as the header and the data.
use Rattle.std.proofs.Common.{◌≡◌, ◌<◌, ◌≤◌, ◌+◌, ◌-◌, ◌^◌, ◌||◌, not, ◌==◌, nat_lt, nat_le, ℕ, Bool, true, false, IsTrue, List, ◌++◌, length, drop, flat_map, Option, Some, is_none, unwrap_or, refl, ap, sym, ◌∙◌, arith, lit<}
use Rattle.std.proofs.lemmas.Bool.{le-ltb, lt-leb}
use Rattle.std.proofs.lemmas.Bool.Decides.{nat_tests}
use Rattle.byteorder.specs.Endian.{big_bytes}
use Rattle.byteorder.specs.Numbers.{big_number-reads_back}
use Rattle.rpc_header.specs.declared.Header.{Header}
use Rattle.rpc_header.specs.declared.Kind.{Kind}
use Rattle.rpc_header.specs.declared.Kind.TheVariants as kind
use Rattle.rpc_header.specs.Versions.{fragments_of}
use Rattle.rpc_header.specs.Fields.{Field, version_field, kind_field, flags_field, reason_field, machine_field, process_field, hint_field, call_number_field, fragment_field, identifier_field, index_field, procedure_field, data_length_field, reserved_field, fields, place_of, kind_number, kind_of, flags_number, has_bit, is_reason}
use Rattle.rpc_header.specs.Spelling.{FitsFields, HasSpelling, is_short_fragment, spelling, value_in}
use Rattle.rpc_header.specs.Reading.{Accepted, applies, header_in, call_number_of, number_at, number_in, read_of, read_or}
use Rattle.rpc_header.proofs.Ranges.{flags_small, kind_small, reason_small}
use Rattle.rpc_header.proofs.CallNumbers.{same_number}
use Rattle.rpc_header.proofs.Faults.{NoFault, none_applies}

-- the bytes of the fields behind the first n
behind : ℕ → Header → ℕ → List ℕ
behind n h len = flat_map (λ field. big_bytes (place_of field).bytes (value_in h len field)) (drop n fields)

-- a field of a spelling reads as what was spelled there
field_back : (h : Header) (len : ℕ) (d : List ℕ) (field : Field)
    → value_in h len field < 256 ^ (place_of field).bytes → number_in (spelling h len ++ d) field ≡ value_in h len field
unfolding spelling number_at behind
field_back h len d version_field small = big_number-reads_back 1 1 (behind 1 h len ++ d) small
field_back h len d kind_field small = big_number-reads_back 1 (kind_number h.kind) (behind 2 h len ++ d) small
field_back h len d flags_field small = big_number-reads_back 1 (flags_number h.please_ack h.last) (behind 3 h len ++ d) small
field_back h len d reason_field small = big_number-reads_back 1 h.reason (behind 4 h len ++ d) small
field_back h len d machine_field small = big_number-reads_back 4 h.call.activity.machine (behind 5 h len ++ d) small
field_back h len d process_field small = big_number-reads_back 2 h.call.activity.process (behind 6 h len ++ d) small
field_back h len d hint_field small = big_number-reads_back 2 h.hint (behind 7 h len ++ d) small
field_back h len d call_number_field small = big_number-reads_back 6 h.call.number.value (behind 8 h len ++ d) small
field_back h len d fragment_field small = big_number-reads_back 2 h.fragment (behind 9 h len ++ d) small
field_back h len d identifier_field small = big_number-reads_back 4 h.export.identifier (behind 10 h len ++ d) small
field_back h len d index_field small = big_number-reads_back 2 h.export.index (behind 11 h len ++ d) small
field_back h len d procedure_field small = big_number-reads_back 2 h.procedure (behind 12 h len ++ d) small
field_back h len d data_length_field small = big_number-reads_back 2 len (behind 13 h len ++ d) small
field_back h len d reserved_field small = big_number-reads_back 2 0 d small

-- each number of a header with a spelling has room in its field
room : (h : Header) (len : ℕ) → FitsFields h → HasSpelling h len → (field : Field)
    → value_in h len field < 256 ^ (place_of field).bytes
room h len f s version_field = lit< tt
room h len f s kind_field = kind_small h.kind
room h len f s flags_field = omega (arith, flags_small h.please_ack h.last)
room h len f s reason_field = reason_small h.kind h.reason s.reason
room h len f s machine_field = f.machine
room h len f s process_field = f.process
room h len f s hint_field = f.hint
room h len f s call_number_field = h.call.number.below_limit
room h len f s fragment_field = omega (arith, s.fragment)
room h len f s identifier_field = f.identifier
room h len f s index_field = f.index
room h len f s procedure_field = f.procedure
room h len f s data_length_field = omega (arith, s.data_length)
room h len f s reserved_field = lit< tt

kind_back : (kind : Kind) → kind_of (kind_number kind) ≡ Some kind
kind_back kind.Call = refl
kind_back kind.Result = refl
kind_back kind.Ack = refl
kind_back kind.Probe = refl
kind_back kind.Reject = refl
kind_back kind.Signal = refl
kind_back kind.Bind = refl
kind_back kind.Bound = refl

please_ack_back : (a b : Bool) → has_bit (flags_number a b) 1 ≡ a
please_ack_back false false = refl
please_ack_back true false = refl
please_ack_back false true = refl
please_ack_back true true = refl

last_back : (a b : Bool) → has_bit (flags_number a b) 2 ≡ b
last_back false false = refl
last_back true false = refl
last_back false true = refl
last_back true true = refl

-- bytes that say in each field what the header says
record Says (xs : List ℕ) (h : Header) (len : ℕ) : Type 0 where
  says : (field : Field) → number_in xs field ≡ value_in h len field

kind_said : (xs : List ℕ) (h : Header) (len : ℕ) → Says xs h len → (header_in xs).kind ≡ h.kind
kind_said xs h len e =
    ap (λ (n : ℕ). unwrap_or (kind_of n) kind.Call) (e.says kind_field)
    ∙ ap (λ (k : Option Kind). unwrap_or k kind.Call) (kind_back h.kind)

please_ack_said : (xs : List ℕ) (h : Header) (len : ℕ) → Says xs h len → (header_in xs).please_ack ≡ h.please_ack
please_ack_said xs h len e =
    ap (λ (n : ℕ). has_bit n 1) (e.says flags_field) ∙ please_ack_back h.please_ack h.last

last_said : (xs : List ℕ) (h : Header) (len : ℕ) → Says xs h len → (header_in xs).last ≡ h.last
last_said xs h len e = ap (λ (n : ℕ). has_bit n 2) (e.says flags_field) ∙ last_back h.please_ack h.last

number_said : (xs : List ℕ) (h : Header) (len : ℕ) → Says xs h len
    → call_number_of (number_in xs call_number_field) ≡ h.call.number
number_said xs h len e = sym (same_number h.call.number (number_in xs call_number_field) (sym (e.says call_number_field)))

header_said : (xs : List ℕ) (h : Header) (len : ℕ) → Says xs h len → header_in xs ≡ h
header_said xs h len e i = record {
  kind = kind_said xs h len e i;
  please_ack = please_ack_said xs h len e i;
  last = last_said xs h len e i;
  reason = e.says reason_field i;
  call = record {
    activity = record { machine = e.says machine_field i; process = e.says process_field i };
    number = number_said xs h len e i;
  };
  hint = e.says hint_field i;
  fragment = e.says fragment_field i;
  export = record { identifier = e.says identifier_field i; index = e.says index_field i };
  procedure = e.says procedure_field i;
}

not_true : (b : Bool) → IsTrue b → not b ≡ false
not_true true h = refl
not_true false h = absurd (grind arith)

not_false : (b : Bool) → IsTrue (not b) → b ≡ false
not_false true h = absurd (grind arith)
not_false false h = refl

right_length : (a b c : ℕ) → a ≡ c → b ≡ c → c ≤ 1440 → (not (a == b) || nat_lt 1440 a) ≡ false
right_length a b c x y small = grind (arith, nat_tests)

fault_free : (xs : List ℕ) (h : Header) (len : ℕ) → Says xs h len → HasSpelling h len → length xs ≡ 32 + len → NoFault xs
unfolding applies
fault_free xs h len e s size = record {
  short = le-ltb (length xs) 32 (omega arith);
  version = ap (λ (n : ℕ). is_none (fragments_of n)) (e.says version_field);
  kind =
      ap (λ (n : ℕ). is_none (kind_of n)) (e.says kind_field)
      ∙ ap (λ (k : Option Kind). is_none k) (kind_back h.kind);
  flags =
      ap (λ (n : ℕ). nat_lt 3 n) (e.says flags_field)
      ∙ le-ltb 3 (flags_number h.please_ack h.last) (flags_small h.please_ack h.last);
  reason =
      ap (λ (k : Kind). not (is_reason k (number_in xs reason_field))) (kind_said xs h len e)
      ∙ ap (λ (n : ℕ). not (is_reason h.kind n)) (e.says reason_field)
      ∙ not_true (is_reason h.kind h.reason) s.reason;
  data_length =
      right_length (number_in xs data_length_field) (length xs - 32) len (e.says data_length_field)
      (omega arith) s.data_length;
  reserved = ap (λ (n : ℕ). not (n == 0)) (e.says reserved_field);
  short_fragment =
      ap (λ (k : Kind). is_short_fragment k (header_in xs).last (number_in xs data_length_field)) (kind_said xs h len e)
      ∙ ap (λ (b : Bool). is_short_fragment h.kind b (number_in xs data_length_field)) (last_said xs h len e)
      ∙ ap (λ (n : ℕ). is_short_fragment h.kind h.last n) (e.says data_length_field)
      ∙ not_false (is_short_fragment h.kind h.last len) s.fullness;
  fragment_number =
      ap (λ (n : ℕ). nat_le (unwrap_or (fragments_of n) 0) (number_in xs fragment_field)) (e.says version_field)
      ∙ ap (λ (n : ℕ). nat_le 64 n) (e.says fragment_field)
      ∙ lt-leb 64 h.fragment s.fragment;
}

spelled_length : (h : Header) (len : ℕ) (d : List ℕ) → length (spelling h len ++ d) ≡ 32 + length d
unfolding spelling
spelled_length h len d = omega arith

spelled_rest : (h : Header) (len : ℕ) (d : List ℕ) → drop 32 (spelling h len ++ d) ≡ d
unfolding spelling
spelled_rest h len d = refl

-- a spelling with its data behind it is read as the header and the data
pub read_back : (h : Header) (d : List ℕ) → FitsFields h → HasSpelling h (length d)
    → read_of (spelling h (length d) ++ d) ≡ Accepted h d
unfolding read_of
read_back h d f s =
    let xs : List ℕ = spelling h (length d) ++ d in
    let said : Says (spelling h (length d) ++ d) h (length d) =
    record { says = λ field. field_back h (length d) d field (room h (length d) f s field) } in
    let none = none_applies xs (fault_free xs h (length d) said s (spelled_length h (length d) d)) in
    ap (read_or xs) none ∙ ap (λ (g : Header). Accepted g (drop 32 xs)) (header_said xs h (length d) said)
    ∙ ap (λ (ys : List ℕ). Accepted h ys) (spelled_rest h (length d) d)
