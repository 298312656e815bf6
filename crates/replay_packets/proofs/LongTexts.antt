-- A text of the test service, byte by byte.
use Rattle.std.proofs.Common.{◌≡◌, ℕ, zero, suc, ◌+◌, ◌*◌, ◌%◌, ◌≤◌, take, add-zero, List, [], ◌∷◌, ◌++◌, length, ap, sym, ◌∙◌, append_assoc, append-nil, length-append, arith}
use Rattle.std.proofs.lemmas.List.FromFn.{map-range_with_len_more, length-map-range_with_len, take-map-range_with_len}
use Rattle.replay_model.specs.Service.{text_of}

-- a text with one byte more
pub text_more : (front : List ℕ) (n : ℕ) → (front ++ text_of n) ++ n % 251 ∷ [] ≡ front ++ text_of (n + 1)
unfolding text_of
text_more front n = append_assoc front (text_of n) (n % 251 ∷ []) ∙ ap (λ xs. front ++ xs) (sym (map-range_with_len_more (λ (i : ℕ). i % 251) 0 n n (omega arith)))

-- a text of no bytes
pub text_none : (front : List ℕ) → front ≡ front ++ text_of 0
unfolding text_of
text_none front = sym (append-nil front)

-- how long a text is
pub text_length : (front : List ℕ) (n : ℕ) → length (front ++ text_of n) ≡ length front + n
unfolding text_of
text_length front n = omega (arith, length-append front (text_of n), length-map-range_with_len (λ (i : ℕ). i % 251) 0 n)

same_byte : (k m : ℕ) → (251 * k + m) % 251 ≡ m % 251
same_byte k m = omega arith

-- whole periods, and a text behind them
pub periods_join : (k m : ℕ) → text_of (251 * k) ++ text_of m ≡ text_of (251 * k + m)
unfolding text_of
periods_join k zero = append-nil (text_of (251 * k)) ∙ ap text_of (sym (add-zero (251 * k)))
periods_join k (suc m) =
    let more = text_more [] m in
    let whole = text_more [] (251 * k + m) in
    let one : m + 1 ≡ suc m = omega arith in
    let ones : 251 * k + m + 1 ≡ 251 * k + suc m = omega arith in
    ap (λ n. text_of (251 * k) ++ text_of n) (sym one)
    ∙ ap (λ t. text_of (251 * k) ++ t) (sym more)
    ∙ sym (append_assoc (text_of (251 * k)) (text_of m) (m % 251 ∷ []))
    ∙ ap (λ t. t ++ m % 251 ∷ []) (periods_join k m)
    ∙ ap (λ b. text_of (251 * k + m) ++ b ∷ []) (sym (same_byte k m))
    ∙ whole ∙ ap text_of ones

-- a front of a text
pub text_front : (n m : ℕ) → m ≤ n → take m (text_of n) ≡ text_of m
unfolding text_of
text_front n m h = take-map-range_with_len (λ (i : ℕ). i % 251) 0 n m h
