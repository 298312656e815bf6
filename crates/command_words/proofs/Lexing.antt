-- What a word is, by how `clap` reads it.
use Rattle.std.proofs.Common.{◌≡◌, ◌+◌, ℕ, suc, Bool, true, false, [], ◌∷◌, ◌++◌, sym, ap, subst, refl, arith}
use Rattle.std.specs.Prelude.{◌==◌, not}
use Rattle.std.specs.List.{before_first, after_first, prefix_len}
use Rattle.std.proofs.lemmas.Bool.Decides.{nat_tests}
use Rattle.clap.specs.Lexer.{has_byte}
use Rattle.clap.specs.Walk.{Text}
use Rattle.command_words.proofs.Steps.{IsValue}

-- `--`, `--` and more, `-` and more, `-`, or no hyphen at first
pub data Form (word : Text) : Type 0 where
  Ends : word ≡ 45 ∷ 45 ∷ [] → Form word
  Long : (x : ℕ) (xs : Text) → word ≡ 45 ∷ 45 ∷ x ∷ xs → Form word
  Short : (x : ℕ) (xs : Text) → word ≡ 45 ∷ x ∷ xs → (x == 45) ≡ false → Form word
  Dash : word ≡ 45 ∷ [] → Form word
  Plain : IsValue word → Form word

equal_from : (x y : ℕ) → (x == y) ≡ true → x ≡ y
equal_from x y e = grind (arith, nat_tests)

behind_two : (zs : Text) → Form (45 ∷ 45 ∷ zs)
behind_two [] = Ends refl
behind_two (z ∷ zs) = Long z zs refl

behind_one : (ys : Text) → Form (45 ∷ ys)
behind_one [] = Dash refl
behind_one (y ∷ ys) = by (y == 45) refl
  where
    by : (b : Bool) → (y == 45) ≡ b → Form (45 ∷ y ∷ ys)
    by true e = subst (λ (z : ℕ). Form (45 ∷ z ∷ ys)) (sym (equal_from y 45 e)) (behind_two ys)
    by false e = Short y ys refl e

pub form : (word : Text) → Form word
form [] = Plain (refl, refl)
form (x ∷ xs) = by (x == 45) refl
  where
    by : (b : Bool) → (x == 45) ≡ b → Form (x ∷ xs)
    by true e = subst (λ (z : ℕ). Form (z ∷ xs)) (sym (equal_from x 45 e)) (behind_one xs)
    by false e = Plain (rw e refl, rw e refl)

-- a text with a byte is what stands before it, the byte, and what stands behind it
cut_one : (x : ℕ) (xs : Text) → (has_byte 61 xs ≡ true → xs ≡ before_first (λ y. y == 61) xs ++ 61 ∷ after_first (λ y. y == 61) xs) → has_byte 61 (x ∷ xs) ≡ true
    → (b : Bool) → (x == 61) ≡ b → x ∷ xs ≡ before_first (λ y. y == 61) (x ∷ xs) ++ 61 ∷ after_first (λ y. y == 61) (x ∷ xs)
cut_one x xs more has true e = rw e (ap (λ (z : ℕ). z ∷ xs) (equal_from x 61 e))
cut_one x xs more has false e =
    let further : has_byte 61 xs ≡ true = rw e at has in
    let one : 1 + prefix_len (λ y. not (y == 61)) xs ≡ suc (prefix_len (λ y. not (y == 61)) xs) = omega arith in
    let two : suc (prefix_len (λ y. not (y == 61)) xs) + 1 ≡ suc (prefix_len (λ y. not (y == 61)) xs + 1) = omega arith in
    rw (e, one, two) (ap (λ (ys : Text). x ∷ ys) (more further))

pub cut : (xs : Text) → has_byte 61 xs ≡ true → xs ≡ before_first (λ y. y == 61) xs ++ 61 ∷ after_first (λ y. y == 61) xs
cut [] has = let bad : false ≡ true = has in cc
cut (x ∷ xs) has = cut_one x xs (cut xs) has (x == 61) refl

-- and one without is what stands before the first
whole_one : (x : ℕ) (xs : Text) → (has_byte 61 xs ≡ false → xs ≡ before_first (λ y. y == 61) xs) → has_byte 61 (x ∷ xs) ≡ false
    → (b : Bool) → (x == 61) ≡ b → x ∷ xs ≡ before_first (λ y. y == 61) (x ∷ xs)
whole_one x xs more has true e = let bad : true ≡ false = rw e at has in cc
whole_one x xs more has false e =
    let further : has_byte 61 xs ≡ false = rw e at has in
    let one : 1 + prefix_len (λ y. not (y == 61)) xs ≡ suc (prefix_len (λ y. not (y == 61)) xs) = omega arith in
    rw (e, one) (ap (λ (ys : Text). x ∷ ys) (more further))

pub whole : (xs : Text) → has_byte 61 xs ≡ false → xs ≡ before_first (λ y. y == 61) xs
whole [] has = refl
whole (x ∷ xs) has = whole_one x xs (whole xs) has (x == 61) refl
