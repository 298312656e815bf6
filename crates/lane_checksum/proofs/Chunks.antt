-- The total of a text that was cut into chunks of an even length.
use Rattle.std.proofs.Common.{◌≡◌, ℕ, ◌+◌, ◌*◌, ◌/◌, ◌%◌, ◌≤◌, ◌<◌, List, [], ◌∷◌, length, take, drop, get_or, zero, suc, Fits, w8, Some, None, slice_get, refl, sym, subst, ◌∙◌, ap, add_assoc, zero-add, length-drop, arith}
use Rattle.std.proofs.Math.Nat.{suc-mul, mul-le-mul_right, div-mul-le_self}
use Rattle.std.proofs.lemmas.Simd.{chunk-fits}
use Rattle.std.specs.Simd.Lanes.{Each1}
use Rattle.std.proofs.lemmas.List.{length-take-le, drop-drop, take-append-drop}
use Rattle.std.specs.Simd.{first_chunks}
use Rattle.lane_checksum.specs.PlainSum.{word_total}
use Rattle.lane_checksum.proofs.Sums.{word_total-append}

-- the total of each chunk for itself
abbrev pub chunk_total : List (List ℕ) → ℕ
chunk_total [] = 0
chunk_total (chunk ∷ chunks) = word_total chunk + chunk_total chunks

-- one chunk more
pub chunk_total-take : (chunks : List (List ℕ)) (i : ℕ) → i < length chunks → chunk_total (take (i + 1) chunks) ≡ chunk_total (take i chunks) + word_total (get_or chunks i [])
chunk_total-take [] i lt = absurd (omega arith)
chunk_total-take (chunk ∷ chunks) zero lt = omega arith
chunk_total-take (chunk ∷ chunks) (suc i) lt =
    let further : suc i + 1 ≡ suc (i + 1) = omega arith in
    ap (λ m. chunk_total (take m (chunk ∷ chunks))) further
    ∙ ap (λ t. word_total chunk + t) (chunk_total-take chunks i (omega arith))
    ∙ sym (add_assoc (word_total chunk) (chunk_total (take i chunks)) (word_total (get_or chunks i [])))

-- the chunks and what is left behind them make up the whole
pub word_total-first_chunks : (n k : ℕ) (xs : List ℕ) → n % 2 ≡ 0 → k * n ≤ length xs → word_total xs ≡ chunk_total (first_chunks n k xs) + word_total (drop (k * n) xs)
word_total-first_chunks n zero xs even le =
    let none : 0 ≡ 0 * n = omega arith in
    ap (λ m. word_total (drop m xs)) none ∙ sym (zero-add (word_total (drop (0 * n) xs)))
word_total-first_chunks n (suc k) xs even le =
    let room : n + k * n ≤ length xs = omega (arith, suc-mul k n) in
    let front : length (take n xs) ≡ n = length-take-le n xs (omega arith) in
    let further : n + k * n ≡ suc k * n = omega (arith, suc-mul k n) in
    ap word_total (sym (take-append-drop n xs))
    ∙ word_total-append (take n xs) (drop n xs) (ap (λ m. m % 2) front ∙ even)
    ∙ ap (λ t. word_total (take n xs) + t) (word_total-first_chunks n k (drop n xs) even (omega (arith, length-drop n xs)))
    ∙ sym (add_assoc (word_total (take n xs)) (chunk_total (first_chunks n k (drop n xs))) (word_total (drop (k * n) (drop n xs))))
    ∙ ap (λ l. word_total (take n xs) + chunk_total (first_chunks n k (drop n xs)) + word_total l) (drop-drop (k * n) n xs ∙ ap (λ m. drop m xs) further)

-- the chunk at place i
pub get_or-first_chunks : (n k : ℕ) (xs : List ℕ) (i : ℕ) → i < k → get_or (first_chunks n k xs) i [] ≡ take n (drop (i * n) xs)
get_or-first_chunks n zero xs i lt = absurd (omega arith)
get_or-first_chunks n (suc k) xs zero lt =
    let none : 0 ≡ 0 * n = omega arith in ap (λ m. take n (drop m xs)) none
get_or-first_chunks n (suc k) xs (suc i) lt =
    let further : n + i * n ≡ suc i * n = omega (arith, suc-mul i n) in
    get_or-first_chunks n k (drop n xs) i (omega arith)
    ∙ ap (take n) (drop-drop (i * n) n xs ∙ ap (λ m. drop m xs) further)

-- What `as_chunks` gives of a text: its chunks of n bytes, and what is left behind them.
module _ (n : ℕ) (xs : List ℕ) (chunks : List (List ℕ)) (cut : chunks ≡ first_chunks n (length xs / n) xs) where
  pub chunks_total : (rest : List ℕ) → n % 2 ≡ 0 → rest ≡ drop (length xs / n * n) xs → word_total xs ≡ chunk_total chunks + word_total rest
  chunks_total rest even left =
      word_total-first_chunks n (length xs / n) xs even (div-mul-le_self (length xs) n)
      ∙ ap (λ cs. chunk_total cs + word_total (drop (length xs / n * n) xs)) (sym cut)
      ∙ ap (λ r. chunk_total chunks + word_total r) (sym left)

  pub chunks_at : (i : ℕ) → i < length xs / n → get_or chunks i [] ≡ take n (drop (i * n) xs)
  chunks_at i lt = ap (λ cs. get_or cs i []) cut ∙ get_or-first_chunks n (length xs / n) xs i lt

  -- a chunk has its whole length
  pub length-chunks_at : (i : ℕ) → i < length xs / n → length (get_or chunks i []) ≡ n
  length-chunks_at i lt =
      let up_to : suc i * n ≤ length xs / n * n = mul-le-mul_right n lt in
      ap length (chunks_at i lt)
      ∙ length-take-le n (drop (i * n) xs) (omega (arith, length-drop (i * n) xs, suc-mul i n, div-mul-le_self (length xs) n))

  -- and its bytes are bytes of the text
  pub chunks_at_fit : (i : ℕ) → i < length xs / n → ((j : ℕ) → Fits w8 (get_or xs j 0)) → Each1 (Fits w8) (get_or chunks i [])
  chunks_at_fit i lt fits = subst (Each1 (Fits w8)) (sym (chunks_at i lt)) (chunk-fits w8 (i * n) n xs fits)

-- a chunk of two bytes is one word
pub word_total-pair : (pair : List ℕ) → length pair ≡ 2 → word_total pair ≡ get_or pair 0 0 * 256 + get_or pair 1 0
word_total-pair [] e = absurd (omega arith)
word_total-pair (a ∷ []) e = absurd (omega arith)
word_total-pair (a ∷ b ∷ []) e = omega arith
word_total-pair (a ∷ b ∷ d ∷ rest) e = absurd (omega arith)

-- and so is a last byte, with a zero byte added
pub word_total-some : (odd : List ℕ) (high : ℕ) → length odd < 2 → Some high ≡ slice_get odd 0 → word_total odd ≡ high * 256
word_total-some [] high short e = cc
word_total-some (a ∷ []) high short e = let same : high ≡ a = cc in omega arith
word_total-some (a ∷ b ∷ rest) high short e = absurd (omega arith)

pub word_total-none : (odd : List ℕ) → slice_get odd 0 ≡ None → word_total odd ≡ 0
word_total-none [] e = refl
word_total-none (a ∷ rest) e = cc
