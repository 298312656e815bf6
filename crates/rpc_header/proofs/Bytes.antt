-- The bytes of a number that was read are the bytes that it was read from.
use Rattle.std.proofs.Common.{◌≡◌, ◌<◌, ◌≤◌, ◌+◌, ◌*◌, ◌/◌, ◌^◌, ℕ, zero, suc, List, [], ◌∷◌, ◌++◌, length, take, slice_index, refl, ap, sym, inl, inr, ◌∙◌, arith, lit<}
use Rattle.std.specs.Prelude.{All}
use Rattle.std.proofs.lemmas.List.{append-nil, get_or_past, length-take}
use Rattle.std.proofs.lemmas.List.Elements.{All-nil, All-cons, All-tail, All-take}
use Rattle.std.proofs.lemmas.Bool.{cases_lt}
use Rattle.std.proofs.lemmas.Nat.{div-mul-add}
use Rattle.std.proofs.Math.Nat.{mod-lt, mod-eq_of_lt}
use Rattle.std.specs.Int.{byte_at, bytes_high_first}
use Rattle.byteorder.specs.Endian.{big_bytes, big_from, big_number}
use Rattle.byteorder.specs.Numbers.{big_from-bytes, big_from-cons, big_from-lt, big_from-take, length-bytes_high_first}

-- a byte, and 0 behind the last one
pub small : (xs : List ℕ) → All (λ byte. byte < 256) xs → (k : ℕ) → slice_index xs k < 256
small xs bytes k = elim (cases_lt k (length xs)) [
  | inl within ↦ bytes k 0 within
  | inr past ↦ rw (get_or_past xs k 0 past) (lit< tt)
]

byte_at-small : (k x : ℕ) → byte_at k x < 256
byte_at-small zero x = mod-lt x (lit< tt)
byte_at-small (suc k) x = mod-lt (x / 256 ^ suc k) (lit< tt)

pub bytes-high_first : (n x : ℕ) → All (λ byte. byte < 256) (bytes_high_first n x)
bytes-high_first zero x = All-nil (λ byte. byte < 256)
bytes-high_first (suc n) x =
    All-cons (λ byte. byte < 256) (byte_at n x) (bytes_high_first n x) (byte_at-small n x) (bytes-high_first n x)

-- one number has one spelling in n bytes
unique : (n : ℕ) (xs ys : List ℕ) → length xs ≡ n → length ys ≡ n → All (λ byte. byte < 256) xs → All (λ byte. byte < 256) ys
    → big_from 0 n xs ≡ big_from 0 n ys → xs ≡ ys
unique zero [] [] lx ly bx by_ e = refl
unique zero (x ∷ xs) ys lx ly bx by_ e = absurd (omega arith)
unique zero [] (y ∷ ys) lx ly bx by_ e = absurd (omega arith)
unique (suc n) [] ys lx ly bx by_ e = absurd (omega arith)
unique (suc n) (x ∷ xs) [] lx ly bx by_ e = absurd (omega arith)
unique (suc n) (x ∷ xs) (y ∷ ys) lx ly bx by_ e =
    let tail_x : All (λ byte. byte < 256) xs = All-tail (λ byte. byte < 256) x xs bx in
    let tail_y : All (λ byte. byte < 256) ys = All-tail (λ byte. byte < 256) y ys by_ in
    let rest_x = big_from-cons 0 n x xs in
    let rest_y = big_from-cons 0 n y ys in
    let small_x : big_from 0 n xs < 256 ^ n = big_from-lt 0 n xs (small xs tail_x) in
    let small_y : big_from 0 n ys < 256 ^ n = big_from-lt 0 n ys (small ys tail_y) in
    let whole : x * 256 ^ n + big_from 0 n xs ≡ y * 256 ^ n + big_from 0 n ys = omega arith in
    let same : x ≡ y =
    sym (div-mul-add x (256 ^ n) (big_from 0 n xs) small_x)
    ∙ ap (λ (m : ℕ). m / 256 ^ n) whole ∙ div-mul-add y (256 ^ n) (big_from 0 n ys) small_y in
    let tops : x * 256 ^ n ≡ y * 256 ^ n = ap (λ (m : ℕ). m * 256 ^ n) same in
    let rest : big_from 0 n xs ≡ big_from 0 n ys = omega arith in
    let tails : xs ≡ ys = unique n xs ys (omega arith) (omega arith) tail_x tail_y rest in
    cc

-- the bytes of a number that n bytes make are those bytes
pub bytes_of_number : (n : ℕ) (xs : List ℕ) → n ≤ length xs → All (λ byte. byte < 256) xs → big_bytes n (big_number n xs) ≡ take n xs
bytes_of_number n xs room h =
    let small : big_from 0 n xs < 256 ^ n = big_from-lt 0 n xs (small xs h) in
    let nil : bytes_high_first n (big_from 0 n xs) ++ [] ≡ bytes_high_first n (big_from 0 n xs) = append-nil (bytes_high_first n (big_from 0 n xs)) in
    let spelled : big_from 0 n (bytes_high_first n (big_from 0 n xs)) ≡ big_from 0 n xs =
    ap (big_from 0 n) (sym nil) ∙ big_from-bytes n (big_from 0 n xs) [] ∙ mod-eq_of_lt small in
    unique n (bytes_high_first n (big_from 0 n xs)) (take n xs) (length-bytes_high_first n (big_from 0 n xs))
    (omega (arith, length-take n xs)) (bytes-high_first n (big_from 0 n xs)) (All-take (λ byte. byte < 256) n xs h)
    (spelled ∙ sym (big_from-take 0 n n xs (omega arith)))
