-- Call numbers of one value are one call number.
use Rattle.std.proofs.Common.{◌≡◌, ℕ, ◌<◌, ◌^◌, ◌%◌, subst, sym, ◌∙◌, lit<}
use Rattle.std.proofs.Math.Nat.{mod-lt, mod-eq_of_lt}
use Rattle.std.specs.Coded.{le_prop}
use Rattle.rpc_header.specs.declared.CallNumber.{CallNumber}
use Rattle.rpc_header.specs.Reading.{call_number_of}

abbrev make : (n : ℕ) → n < 2 ^ 48 → CallNumber
make n h = record { value = n; below_limit = h }

same_make : (m n : ℕ) (h : m < 2 ^ 48) (k : n < 2 ^ 48) → m ≡ n → make m h ≡ make n k
same_make m n h k e =
    let P : ℕ → Type 0 = λ n. (k : n < 2 ^ 48) → make m h ≡ make n k in
    subst P e (λ k i. make m (le_prop h k i)) k

-- the call number of a value is the call number of that value
pub same_number : (a : CallNumber) (n : ℕ) → a.value ≡ n → a ≡ call_number_of n
same_number a n e =
    let whole : a.value % 2 ^ 48 ≡ a.value = mod-eq_of_lt a.below_limit in
    same_make a.value (n % 2 ^ 48) a.below_limit (mod-lt n (lit< tt)) (sym whole ∙ subst (λ m. a.value % 2 ^ 48 ≡ m % 2 ^ 48) e (λ i. a.value % 2 ^ 48))
