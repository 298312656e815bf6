-- Writing the rows of a header one after the other makes its spelling.
use Rattle.std.proofs.Common.{◌≡◌, ◌≤◌, ◌+◌, ◌-◌, ◌%◌, ℕ, List, [], ◌∷◌, ◌++◌, length, take, drop, set, refl, ap, sym, ◌∙◌, arith, length-append}
use Rattle.std.proofs.lemmas.List.{append_assoc, length-drop, length-take, take_all, take_at}
use Rattle.std.proofs.Math.Nat.{mod-eq_of_lt}
use borrow.Rule.Slice.PartMut.{put_mid, mid_of, post_of, same_len_mid}
use Rattle.byteorder.specs.Endian.{big_bytes}
use Rattle.byteorder.specs.Numbers.{length-bytes_high_first}
use Rattle.rpc_header.specs.declared.Header.{Header}
use Rattle.rpc_header.specs.Versions.{version_of}
use Rattle.rpc_header.specs.Fields.{kind_number, flags_number}
use Rattle.rpc_header.specs.Spelling.{HasSpelling, spelling}
use Rattle.rpc_header.proofs.Ranges.{flags_small, kind_small, reason_small}

-- the first p of 32 bytes are these
pub record Front (p : ℕ) (xs ys : List ℕ) : Type 0 where
  pub front : take p xs ≡ ys
  pub size : length xs ≡ 32

-- the first four bytes
pub first_row : (xs : List ℕ) (a b c d : ℕ) → length xs ≡ 32
    → Front 4 (set (set (set (set xs 0 a) 1 b) 2 c) 3 d) (a ∷ b ∷ c ∷ d ∷ [])
first_row (w ∷ x ∷ y ∷ z ∷ rest) a b c d size = record { front = refl; size = size }
first_row (w ∷ x ∷ y ∷ []) a b c d size = absurd (omega arith)
first_row (w ∷ x ∷ []) a b c d size = absurd (omega arith)
first_row (w ∷ []) a b c d size = absurd (omega arith)
first_row [] a b c d size = absurd (omega arith)

-- one row more
pub next_row : (p n v : ℕ) (xs ys buf : List ℕ) → Front p xs ys → p + n ≤ 32
    → buf ≡ big_bytes n v ++ drop n (mid_of p (32 - p) xs) → Front (p + n) (put_mid p (32 - p) xs buf) (ys ++ big_bytes n v)
next_row p n v xs ys buf f room e =
    let mid : List ℕ = mid_of p (32 - p) xs in
    let post : List ℕ = post_of p (32 - p) xs in
    let row : List ℕ = big_bytes n v in
    let row_len : length (big_bytes n v) ≡ n = length-bytes_high_first n v in
    let mid_len : length (mid_of p (32 - p) xs) ≡ 32 - p =
    omega (arith, f.size, length-take (32 - p) (drop p xs), length-drop p xs) in
    let buf_len : length buf ≡ length (mid_of p (32 - p) xs) =
    ap length e ∙ length-append (big_bytes n v) (drop n mid) ∙ omega (arith, row_len, mid_len, length-drop n mid) in
    let shape : put_mid p (32 - p) xs buf ≡ (take p xs ++ row) ++ (drop n mid ++ post) =
    ap (λ (zs : List ℕ). take p xs ++ (zs ++ post)) e
    ∙ ap (λ (zs : List ℕ). take p xs ++ zs) (append_assoc row (drop n mid) post)
    ∙ sym (append_assoc (take p xs) row (drop n mid ++ post)) in
    let front_len : length (take p xs ++ row) ≡ p + n =
    length-append (take p xs) row ∙ omega (arith, f.size, row_len, length-take p xs) in
    record {
      front =
          ap (take (p + n)) shape ∙ take_at (take p xs ++ row) (drop n mid ++ post) (p + n) front_len
          ∙ ap (λ (zs : List ℕ). zs ++ row) f.front;
      size = same_len_mid p (32 - p) xs buf buf_len ∙ f.size;
    }

-- all rows
all_rows : (xs ys : List ℕ) → Front 32 xs ys → xs ≡ ys
all_rows xs ys f = sym (take_all 32 xs (omega (arith, f.size))) ∙ f.front

-- the rows of a spelling, its first four bytes as numbers
unfoldable pub rows : (h : Header) (len version kind flags reason : ℕ) → List ℕ
rows h len version kind flags reason =
    ((((((((((version ∷ kind ∷ flags ∷ reason ∷ []) ++ big_bytes 4 h.call.activity.machine)
    ++ big_bytes 2 h.call.activity.process) ++ big_bytes 2 h.hint) ++ big_bytes 6 h.call.number.value)
    ++ big_bytes 2 h.fragment) ++ big_bytes 4 h.export.identifier) ++ big_bytes 2 h.export.index)
    ++ big_bytes 2 h.procedure) ++ big_bytes 2 len) ++ big_bytes 2 0

rows_of : (h : Header) (len : ℕ) → rows h len (version_of h) (kind_number h.kind % 256) (flags_number h.please_ack h.last % 256) (h.reason % 256) ≡ spelling h len
unfolding spelling rows
rows_of h len = refl

-- thirty-two bytes with these rows are the spelling
pub written : (h : Header) (len version kind flags : ℕ) (xs : List ℕ) → HasSpelling h len
    → version ≡ version_of h → kind ≡ kind_number h.kind → flags ≡ flags_number h.please_ack h.last
    → Front 32 xs (rows h len version kind flags h.reason) → xs ≡ spelling h len
written h len version kind flags xs s same_version same_kind same_flags f =
    let kind_mod : kind ≡ kind_number h.kind % 256 = same_kind ∙ sym (mod-eq_of_lt (kind_small h.kind)) in
    let flags_mod : flags ≡ flags_number h.please_ack h.last % 256 =
    same_flags ∙ sym (mod-eq_of_lt (omega (arith, flags_small h.please_ack h.last))) in
    let reason_mod : h.reason ≡ h.reason % 256 = sym (mod-eq_of_lt (reason_small h.kind h.reason s.reason)) in
    all_rows xs (rows h len version kind flags h.reason) f
    ∙ ap (λ (n : ℕ). rows h len n kind flags h.reason) same_version
    ∙ ap (λ (n : ℕ). rows h len (version_of h) n flags h.reason) kind_mod
    ∙ ap (λ (n : ℕ). rows h len (version_of h) (kind_number h.kind % 256) n h.reason) flags_mod
    ∙ ap (λ (n : ℕ). rows h len (version_of h) (kind_number h.kind % 256) (flags_number h.please_ack h.last % 256) n) reason_mod
    ∙ rows_of h len
