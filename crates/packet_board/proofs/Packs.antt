-- Words and numbers are one to one.
use Rattle.std.proofs.Common.{◌≡◌, ◌≢◌, ℕ, zero, suc, ◌+◌, ◌*◌, ◌/◌, ◌%◌, ◌<◌, Option, Some, None, refl, sym, ap, ◌∙◌, arith, add-one, div-add-mod'}
use Rattle.packet_board.specs.declared.word.Word.{Word}
use Rattle.packet_board.specs.Words.{Fits, FitsBuffer, code_of, named, packed, unpacked}

code_below : (b : Option ℕ) → FitsBuffer b → code_of b < 4096
code_below None h = omega arith
code_below (Some n) h = omega (arith, h)

named_code : (b : Option ℕ) → named (code_of b) ≡ b
named_code None = refl
named_code (Some n) = ap named (add-one n)

code_named : (n : ℕ) → code_of (named n) ≡ n
code_named zero = refl
code_named (suc n) = add-one n

upper : (t c : ℕ) → c < 4096 → (t * 4096 + c) / 4096 ≡ t
upper t c h = omega (arith, h)

lower : (t c : ℕ) → c < 4096 → (t * 4096 + c) % 4096 ≡ c
lower t c h = omega (arith, h)

pub unpacked_packed : (w : Word) → Fits w → unpacked (packed w) ≡ w
unpacked_packed w fits = let h = code_below w.buffer fits.1 in let p = upper w.tag (code_of w.buffer) h in let q = ap named (lower w.tag (code_of w.buffer) h) ∙ named_code w.buffer in λ i. record { tag = p i; buffer = q i }

pub packed_unpacked : (n : ℕ) → packed (unpacked n) ≡ n
packed_unpacked n = ap (λ (c : ℕ). n / 4096 * 4096 + c) (code_named (n % 4096)) ∙ div-add-mod' n 4096

pub unpacked_apart : (m n : ℕ) → m ≢ n → unpacked m ≢ unpacked n
unpacked_apart m n ne e = ne (sym (packed_unpacked m) ∙ (ap packed e ∙ packed_unpacked n))
