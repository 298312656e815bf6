-- What is read without a fault is the spelling of what it says.
use Rattle.std.proofs.Common.{◌≡◌, ◌<◌, ◌≤◌, ◌+◌, ◌-◌, ◌^◌, ◌%◌, ◌||◌, not, ◌==◌, nat_lt, ℕ, zero, suc, true, false, List, ◌++◌, length, take, drop, is_none, unwrap_or, refl, ap, sym, subst, ◌∙◌, arith}
use Rattle.std.specs.Prelude.{All}
use Rattle.std.proofs.lemmas.List.{length-drop, drop-drop, take-append-drop}
use Rattle.std.proofs.lemmas.Bool.{eqb-true, leb-false, ltb-false, or_parts}
use Rattle.std.proofs.lemmas.Bool.Decides.{nat_tests}
use Rattle.std.proofs.Math.Nat.{mod-eq_of_lt}
use Rattle.std.proofs.lemmas.List.Elements.{All-drop}
use Rattle.byteorder.specs.Endian.{big_bytes, big_number}
use Rattle.byteorder.specs.Numbers.{big_from-lt}
use Rattle.rpc_header.specs.declared.Header.{Header}
use Rattle.rpc_header.specs.declared.Kind.TheVariants.{Call}
use Rattle.rpc_header.specs.Versions.{fragments_of}
use Rattle.rpc_header.specs.Fields.{kind_number, kind_of, flags_number, has_bit}
use Rattle.rpc_header.specs.Spelling.{HasSpelling, spelling}
use Rattle.rpc_header.specs.Reading.{Accepted, applies, header_in, number_at, read_of}
use Rattle.rpc_header.proofs.Bytes.{small, bytes_of_number}
use Rattle.rpc_header.proofs.Faults.{NoFault, accepted, no_fault}

-- a field's bytes, and then what stands behind them
field : (p n v : ℕ) (xs tail : List ℕ) → p + n ≤ length xs → All (λ byte. byte < 256) xs → v ≡ number_at p n xs
    → tail ≡ drop (p + n) xs → big_bytes n v ++ tail ≡ drop p xs
unfolding number_at
field p n v xs tail room h value rest =
    let front : big_bytes n (big_number n (drop p xs)) ≡ take n (drop p xs) =
    bytes_of_number n (drop p xs) (omega (arith, length-drop p xs)) (All-drop (λ byte. byte < 256) p xs h) in
    let behind : drop (p + n) xs ≡ drop n (drop p xs) = sym (drop-drop n p xs) in
    ap (λ (m : ℕ). big_bytes n m ++ tail) value ∙ ap (λ (ys : List ℕ). ys ++ tail) front
    ∙ ap (λ (ys : List ℕ). take n (drop p xs) ++ ys) (rest ∙ behind) ∙ take-append-drop n (drop p xs)

-- a known kind is spelled by its number
kind_back : (n : ℕ) → is_none (kind_of n) ≡ false → kind_number (unwrap_or (kind_of n) Call) ≡ n
kind_back n e = grind arith

-- flags up to 3 are spelled by their number
flags_back : (n : ℕ) → nat_lt 3 n ≡ false → flags_number (has_bit n 1) (has_bit n 2) ≡ n
flags_back zero e = refl
flags_back (suc zero) e = refl
flags_back (suc (suc zero)) e = refl
flags_back (suc (suc (suc zero))) e = refl
flags_back (suc (suc (suc (suc n)))) e = absurd (grind (arith, nat_tests))

-- a known version is the one that is spelled
version_back : (n : ℕ) → is_none (fragments_of n) ≡ false → 1 ≡ n
version_back n e = grind arith

number_back : (xs : List ℕ) → All (λ byte. byte < 256) xs → number_at 12 6 xs % 2 ^ 48 ≡ number_at 12 6 xs
unfolding number_at
number_back xs h = mod-eq_of_lt (big_from-lt 0 6 (drop 12 xs) (small (drop 12 xs) (All-drop (λ byte. byte < 256) 12 xs h)))

long_enough : (xs : List ℕ) → NoFault xs → 32 ≤ length xs
unfolding applies
long_enough xs n = ltb-false (length xs) 32 n.short

right_length : (a b : ℕ) → (not (a == b) || nat_lt 1440 a) ≡ false → (a ≡ b) × (a ≤ 1440)
right_length a b e =
    let parts = or_parts (not (a == b)) (nat_lt 1440 a) e in
    let same : a ≡ b = grind (arith, nat_tests) in
    (same, ltb-false 1440 a parts.1)

-- the length that a header gives is that of the data behind it
length_back : (xs : List ℕ) → NoFault xs → (number_at 28 2 xs ≡ length xs - 32) × (number_at 28 2 xs ≤ 1440)
unfolding applies
length_back xs n = right_length (number_at 28 2 xs) (length xs - 32) n.data_length

data_length_front : (xs : List ℕ) → NoFault xs → length (drop 32 xs) ≡ number_at 28 2 xs
data_length_front xs n = length-drop 32 xs ∙ sym (length_back xs n).0

version_front : (xs : List ℕ) → NoFault xs → 1 ≡ number_at 0 1 xs
unfolding applies
version_front xs n = version_back (number_at 0 1 xs) n.version

kind_front : (xs : List ℕ) → NoFault xs → kind_number (header_in xs).kind ≡ number_at 1 1 xs
unfolding applies
kind_front xs n = kind_back (number_at 1 1 xs) n.kind

flags_front : (xs : List ℕ) → NoFault xs
    → flags_number (header_in xs).please_ack (header_in xs).last ≡ number_at 2 1 xs
unfolding applies
flags_front xs n = flags_back (number_at 2 1 xs) n.flags

reserved_front : (xs : List ℕ) → NoFault xs → 0 ≡ number_at 30 2 xs
unfolding applies
reserved_front xs n =
    let same : (number_at 30 2 xs == 0) ≡ true = grind (arith, nat_tests) in
    sym (eqb-true _ _ same)

-- a header without a fault is spelled by the bytes that it was read from
spelled_front : (xs : List ℕ) → All (λ byte. byte < 256) xs → NoFault xs
    → spelling (header_in xs) (length (drop 32 xs)) ++ drop 32 xs ≡ xs
unfolding spelling
spelled_front xs h n =
    let room : 32 ≤ length xs = long_enough xs n in
    field 0 1 1 xs _ (omega arith) h (version_front xs n)
    (field 1 1 (kind_number (header_in xs).kind) xs _ (omega arith) h (kind_front xs n)
    (field 2 1 (flags_number (header_in xs).please_ack (header_in xs).last) xs _ (omega arith) h (flags_front xs n)
    (field 3 1 (number_at 3 1 xs) xs _ (omega arith) h refl
    (field 4 4 (number_at 4 4 xs) xs _ (omega arith) h refl
    (field 8 2 (number_at 8 2 xs) xs _ (omega arith) h refl
    (field 10 2 (number_at 10 2 xs) xs _ (omega arith) h refl
    (field 12 6 (number_at 12 6 xs % 2 ^ 48) xs _ (omega arith) h (number_back xs h)
    (field 18 2 (number_at 18 2 xs) xs _ (omega arith) h refl
    (field 20 4 (number_at 20 4 xs) xs _ (omega arith) h refl
    (field 24 2 (number_at 24 2 xs) xs _ (omega arith) h refl
    (field 26 2 (number_at 26 2 xs) xs _ (omega arith) h refl
    (field 28 2 (length (drop 32 xs)) xs _ (omega arith) h (data_length_front xs n)
    (field 30 2 0 xs (drop 32 xs) (omega arith) h (reserved_front xs n) refl)))))))))))))

fragment_front : (xs : List ℕ) → NoFault xs → number_at 18 2 xs < 64
unfolding applies
fragment_front xs n =
    let limit : ℕ → ℕ = λ v. unwrap_or (fragments_of v) 0 in
    let below : number_at 18 2 xs < limit (number_at 0 1 xs) =
    leb-false (limit (number_at 0 1 xs)) (number_at 18 2 xs) n.fragment_number in
    subst (λ (v : ℕ). number_at 18 2 xs < limit v) (sym (version_front xs n)) below

has_spelling : (xs : List ℕ) → NoFault xs → HasSpelling (header_in xs) (length (drop 32 xs))
unfolding applies
has_spelling xs n =
    let len = data_length_front xs n in
    record {
      reason = grind (arith, nat_tests, n.reason);
      data_length = omega (arith, len, (length_back xs n).1);
      fullness = rw len (grind (arith, nat_tests, n.short_fragment));
      fragment = fragment_front xs n;
    }

-- what is accepted has a spelling, which the bytes are, with the data behind it
pub spelled : (xs : List ℕ) (h : Header) (d : List ℕ) → All (λ byte. byte < 256) xs → read_of xs ≡ Accepted h d
    → HasSpelling h (length d) × (xs ≡ spelling h (length d) ++ d)
spelled xs h d bytes e =
    let told = accepted xs h d e in
    let n = no_fault xs told.none in
    let P : Header → Type 0 = λ g. HasSpelling g (length d) × (xs ≡ spelling g (length d) ++ d) in
    let Q : List ℕ → Type 0 =
    λ ys. HasSpelling (header_in xs) (length ys) × (xs ≡ spelling (header_in xs) (length ys) ++ ys) in
    subst P told.header (subst Q told.rest (has_spelling xs n, sym (spelled_front xs bytes n)))
