-- Parts that are written one behind the other are one part.
use Rattle.std.proofs.Common.{◌≡◌, ℕ, zero, suc, ◌+◌, ◌-◌, ◌/◌, ◌%◌, ◌<◌, ◌≤◌, List, [], ◌∷◌, ◌++◌, length, take, drop, set, refl, sym, ap, ◌∙◌, append_assoc, arith}
use Rattle.std.proofs.lemmas.List.{append-nil, length-append, length-take, length-drop, drop-drop, drop_all, take_all, take_at, drop_at}
use borrow.Rule.Slice.PartMut.{put_mid, mid_of, post_of}
use Rattle.byteorder.specs.Endian.{big_bytes}
use Rattle.udp_frames.specs.Frame.{two_bytes}
use Rattle.udp_frames.specs.Writing.{with_part}

pub next_part : (p q : ℕ) (a b old : List ℕ) → q ≡ p + length a → q ≤ length old
    → with_part q b (with_part p a old) ≡ with_part p (a ++ b) old
unfolding with_part
next_part p q a b old behind room =
    let tail : List ℕ = drop (p + length a) old in
    let front : List ℕ = take p old ++ a in
    let front_len : length (take p old ++ a) ≡ q = omega (arith, length-append (take p old) a, length-take p old) in
    let shape : with_part p a old ≡ front ++ tail = sym (append_assoc (take p old) a tail) in
    let first : take q (with_part p a old) ≡ front = ap (take q) shape ∙ take_at front tail q front_len in
    let whole : p + length (a ++ b) ≡ p + length a + length b = omega (arith, length-append a b) in
    let rest : drop (q + length b) (with_part p a old) ≡ drop (p + length (a ++ b)) old =
    sym (drop-drop (length b) q (with_part p a old))
    ∙ ap (drop (length b)) (ap (drop q) shape ∙ drop_at front tail q front_len)
    ∙ drop-drop (length b) (p + length a) old ∙ ap (λ (n : ℕ). drop n old) (sym whole) in
    ap (λ (xs : List ℕ). xs ++ (b ++ drop (q + length b) (with_part p a old))) first
    ∙ ap (λ (xs : List ℕ). front ++ (b ++ xs)) rest
    ∙ append_assoc (take p old) a (b ++ drop (p + length (a ++ b)) old)
    ∙ ap (λ (xs : List ℕ). take p old ++ xs) (sym (append_assoc a b (drop (p + length (a ++ b)) old)))

-- one byte
pub byte_part : (p v : ℕ) (xs : List ℕ) → p < length xs → set xs p v ≡ with_part p (v ∷ []) xs
unfolding with_part
byte_part zero v [] within = absurd (omega arith)
byte_part zero v (x ∷ xs) within = refl
byte_part (suc p) v [] within = absurd (omega arith)
byte_part (suc p) v (x ∷ xs) within =
    let e : suc p + 1 ≡ suc (p + 1) = omega arith in
    ap (λ (ys : List ℕ). x ∷ ys) (byte_part p v xs (omega arith))
    ∙ ap (λ (n : ℕ). x ∷ (take p xs ++ (v ∷ drop n (x ∷ xs)))) (sym e)

-- the high byte of a number of 16 bits
high_byte : (n : ℕ) → n < 65536 → n / 256 % 256 ≡ n / 256
high_byte n fits = omega arith

-- a number of 16 bits, written to the front of what stands from its place on
pub number_part : (p v : ℕ) (xs buf : List ℕ) → v < 65536 → p + 2 ≤ length xs
    → buf ≡ big_bytes 2 v ++ drop 2 (mid_of p (length xs - p) xs) → put_mid p (length xs - p) xs buf ≡ with_part p (two_bytes v) xs
unfolding with_part
number_part p v xs buf fits room e =
    let k : ℕ = length xs - p in
    let all : mid_of p (length xs - p) xs ≡ drop p xs = take_all (length xs - p) (drop p xs) (omega (arith, length-drop p xs)) in
    let none : post_of p (length xs - p) xs ≡ [] = drop_all (length xs - p) (drop p xs) (omega (arith, length-drop p xs)) in
    let rest : drop 2 (mid_of p (length xs - p) xs) ≡ drop (p + 2) xs =
    ap (drop 2) all ∙ drop-drop 2 p xs in
    ap (λ (zs : List ℕ). take p xs ++ (buf ++ zs)) none
    ∙ ap (λ (zs : List ℕ). take p xs ++ zs) (append-nil buf ∙ e)
    ∙ ap (λ (zs : List ℕ). take p xs ++ (big_bytes 2 v ++ zs)) rest
    ∙ ap (λ (n : ℕ). take p xs ++ (n ∷ v % 256 ∷ drop (p + 2) xs)) (high_byte v fits)

-- a part whose bytes are known
pub first_part : (p : ℕ) (row a old new : List ℕ) → row ≡ a → new ≡ with_part p row old → new ≡ with_part p a old
first_part p row a old new same e = e ∙ ap (λ (r : List ℕ). with_part p r old) same

-- one part more
pub then_part : (p q : ℕ) (a row b old mid new : List ℕ) → row ≡ b → mid ≡ with_part p a old → new ≡ with_part q row mid
    → q ≡ p + length a → q ≤ length old → new ≡ with_part p (a ++ b) old
then_part p q a row b old mid new same front e behind room =
    first_part q row b mid new same e ∙ ap (with_part q b) front ∙ next_part p q a b old behind room

length-with_part : (p : ℕ) (a old : List ℕ) → p + length a ≤ length old → length (with_part p a old) ≡ length old
unfolding with_part
length-with_part p a old room =
    omega (arith, length-append (take p old) (a ++ drop (p + length a) old), length-append a (drop (p + length a) old), length-take p old, length-drop (p + length a) old)

pub length-part_written : (p : ℕ) (a old new : List ℕ) → new ≡ with_part p a old → p + length a ≤ length old → length new ≡ length old
length-part_written p a old new e room = ap length e ∙ length-with_part p a old room

-- one byte more
pub then_byte : (p q v : ℕ) (a old mid : List ℕ) → mid ≡ with_part p a old → q ≡ p + length a → q < length old
    → set mid q v ≡ with_part p (a ++ v ∷ []) old
then_byte p q v a old mid front behind room =
    let same : length mid ≡ length old = length-part_written p a old mid front (omega arith) in
    then_part p q a (v ∷ []) (v ∷ []) old mid (set mid q v) refl front (byte_part q v mid (omega arith)) behind (omega arith)

-- bytes that were copied to a place
pub copied_part : (p : ℕ) (part xs buf : List ℕ) → buf ≡ part → put_mid p (p + length part - p) xs buf ≡ with_part p part xs
unfolding with_part
copied_part p part xs buf e =
    let count : p + length part - p ≡ length part = omega arith in
    ap (λ (n : ℕ). put_mid p n xs buf) count ∙ ap (λ (zs : List ℕ). put_mid p (length part) xs zs) e
    ∙ ap (λ (zs : List ℕ). take p xs ++ (part ++ zs)) (drop-drop (length part) p xs)
