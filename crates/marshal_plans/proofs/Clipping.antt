-- Sums and products that stop at a bound.
use Rattle.std.proofs.Common.{◌≡◌, ◌<◌, ◌≤◌, ◌+◌, ◌*◌, ◌-◌, ◌^◌, min, ℕ, zero, suc, List, ◌∷◌, length, drop, get_or, drop-cons, add-one, ap, sym, ◌∙◌, arith, ◌⊎◌, inl, inr}
use Rattle.interface_text.specs.declared.shape.Shape.{Shape}
use Rattle.marshal_plans.specs.Lengths.{clipped}
use Rattle.marshal_plans.specs.Forms.{Form, Forms, form_then, form_in, forms_in}

which : (a b : ℕ) → (a ≤ b) ⊎ (b < a)
which zero b = inl (omega arith)
which (suc a) zero = inr (omega arith)
which (suc a) (suc b) = elim (which a b) [ inl h ↦ inl (omega arith) | inr h ↦ inr (omega arith) ]

small_mul : (a n M : ℕ) → a ≤ M → min (min a M * n) M ≡ min (n * a) M
small_mul a n M h =
    let same : min a M ≡ a = omega arith in
    ap (λ (x : ℕ). min (x * n) M) same ∙ ap (λ (x : ℕ). min x M) (omega arith)

large_mul : (a n M : ℕ) → M < a → min (min a M * n) M ≡ min (n * a) M
large_mul a zero M h = omega arith
large_mul a (suc n) M h =
    let same : min a M ≡ M = omega arith in
    let first : M ≤ M * suc n = omega arith in
    let second : M ≤ suc n * a = omega arith in
    ap (λ (x : ℕ). min (x * suc n) M) same ∙ omega arith

pub clip_mul : (a n M : ℕ) → min (min a M * n) M ≡ min (n * a) M
clip_mul a n M = elim (which a M) [ inl h ↦ small_mul a n M h | inr h ↦ large_mul a n M h ]

pub clip_count : (a b M : ℕ) → 4 ≤ M → min (min a M + 4) M ≡ min (4 + a) M
clip_count a b M h = omega arith

-- one shape more, where the length of types is the sum of theirs
pub clip_more : (of : Form → ℕ) (all : Forms → ℕ) → ((f : Form) (fs : Forms) → all (form_then f fs) ≡ of f + all fs)
    → (shapes : List Shape) (i : ℕ) (s : Shape) (sum one next : ℕ) → i < length shapes → s ≡ get_or shapes i s
    → one ≡ clipped (of (form_in s)) → next ≡ min (sum + one) (2 ^ 32 - 1)
    → clipped (sum + all (forms_in (drop i shapes))) ≡ clipped (all (forms_in shapes))
    → clipped (next + all (forms_in (drop (i + 1) shapes))) ≡ clipped (all (forms_in shapes))
clip_more of all adds shapes i s sum one next within is one_is next_is before =
    let cut : drop i shapes ≡ s ∷ drop (suc i) shapes = drop-cons shapes i s within ∙ ap (λ (w : Shape). w ∷ drop (suc i) shapes) (sym is) in
    let first : all (forms_in (drop i shapes)) ≡ of (form_in s) + all (forms_in (drop (suc i) shapes)) =
    ap (λ (l : List Shape). all (forms_in l)) cut ∙ adds (form_in s) (forms_in (drop (suc i) shapes)) in
    let place : all (forms_in (drop (i + 1) shapes)) ≡ all (forms_in (drop (suc i) shapes)) =
    ap (λ (k : ℕ). all (forms_in (drop k shapes))) (add-one i) in
    omega arith
