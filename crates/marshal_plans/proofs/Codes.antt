-- Codes of numbers and numbers of codes.
use Rattle.std.proofs.Common.{◌≡◌, ◌<◌, ◌≤◌, ◌-◌, ◌^◌, ℕ, ℤ, pos, negsuc, Bool, true, false, cond, nat_lt, min, List, ◌++◌, length, drop, Option, Some, None, Ok, refl, ap, sym, ◌∙◌, subst, arith, length-append}
use Rattle.std.proofs.lemmas.Bool.{le-ltb, ltb-false}
use Rattle.std.proofs.Math.Seq.{drop-append_seam}
use borrow.Author.Tests.{lt-ltb, ltb-true}
use Rattle.byteorder.specs.Endian.{big_bytes, big_number}
use Rattle.byteorder.specs.Numbers.{big_number-reads_back, length-bytes_high_first}
use Rattle.marshal_plans.specs.declared.basic.Basic.{Basic}
use Rattle.marshal_plans.specs.declared.basic.Basic.TheVariants as basic
use Rattle.marshal_plans.specs.Basics.{width, code_of, plain_code, integer_code, value_of, plain_value, integer_value}
use Rattle.marshal_plans.specs.Reading.{in_range, item}
use Rattle.marshal_plans.proofs.Items.{item_whole}
use Rattle.marshal_plans.proofs.Parts.{guarded}

pub plain_back : (limit : ℕ) (z : ℤ) (c : ℕ) → plain_code limit z ≡ Some c → (c < limit) × (plain_value limit c ≡ Some z)
plain_back limit (pos n) c e =
    let g = guarded (nat_lt n limit) n c e in
    let same : n ≡ c = g.1 in
    let below : n < limit = ltb-true n limit g.0 in
    (omega arith, ap (λ (t : Bool). cond t (Some (pos c)) None) (lt-ltb c limit (omega arith)) ∙ ap (λ (m : ℕ). Some (pos m)) (sym same))
plain_back limit (negsuc n) c e = absurd (cc)

pub integer_back : (z : ℤ) (c : ℕ) → integer_code z ≡ Some c → (c < 2 ^ 32) × (integer_value c ≡ z)
integer_back (pos n) c e =
    let g = guarded (nat_lt n (2 ^ 31)) n c e in
    let same : n ≡ c = g.1 in
    let below : n < 2 ^ 31 = ltb-true n (2 ^ 31) g.0 in
    (omega arith, ap (λ (t : Bool). cond t (pos c) (negsuc (2 ^ 32 - 1 - c))) (lt-ltb c (2 ^ 31) (omega arith)) ∙ ap pos (sym same))
integer_back (negsuc n) c e =
    let g = guarded (nat_lt n (2 ^ 31)) (2 ^ 32 - 1 - n) c e in
    let same : 2 ^ 32 - 1 - n ≡ c = g.1 in
    let below : n < 2 ^ 31 = ltb-true n (2 ^ 31) g.0 in
    (omega arith, ap (λ (t : Bool). cond t (pos c) (negsuc (2 ^ 32 - 1 - c))) (le-ltb c (2 ^ 31) (omega arith)) ∙ ap negsuc (omega arith))

pub code_back : (b : Basic) (z : ℤ) (c : ℕ) → code_of b z ≡ Some c → (c < 256 ^ width b) × (value_of b c ≡ Some z)
code_back basic.Bool z c e = let p = plain_back 2 z c e in (omega (arith, p.0), p.1)
code_back basic.Byte z c e = let p = plain_back (2 ^ 8) z c e in (omega (arith, p.0), p.1)
code_back basic.Cardinal z c e = let p = plain_back (2 ^ 32) z c e in (omega (arith, p.0), p.1)
code_back basic.Integer z c e = let p = integer_back z c e in (omega (arith, p.0), ap Some p.1)
code_back basic.LongCard z c e = let p = plain_back (2 ^ 64) z c e in (omega (arith, p.0), p.1)
code_back (basic.Choice count) z c e = let p = plain_back (min count (2 ^ 16)) z c e in (omega (arith, p.0), p.1)

pub plain_again : (limit c : ℕ) (z : ℤ) → plain_value limit c ≡ Some z → plain_code limit z ≡ Some c
plain_again limit c z e =
    let g = guarded (nat_lt c limit) (pos c) z e in
    subst (λ (y : ℤ). plain_code limit y ≡ Some c) g.1 (ap (λ (t : Bool). cond t (Some c) None) g.0)

pub integer_again : (c : ℕ) → c < 2 ^ 32 → integer_code (integer_value c) ≡ Some c
integer_again c small = go (nat_lt c (2 ^ 31)) refl
  where
    go : (t : Bool) → nat_lt c (2 ^ 31) ≡ t → integer_code (cond t (pos c) (negsuc (2 ^ 32 - 1 - c))) ≡ Some c
    go true e = ap (λ (t : Bool). cond t (Some c) None) e
    go false e =
        let high : 2 ^ 31 ≤ c = ltb-false c (2 ^ 31) e in
        ap (λ (t : Bool). cond t (Some (2 ^ 32 - 1 - (2 ^ 32 - 1 - c))) None) (lt-ltb (2 ^ 32 - 1 - c) (2 ^ 31) (omega arith)) ∙ ap Some (omega arith)

pub code_again : (b : Basic) (c : ℕ) (z : ℤ) → c < 256 ^ width b → value_of b c ≡ Some z → code_of b z ≡ Some c
code_again basic.Bool c z small e = plain_again 2 c z e
code_again basic.Byte c z small e = plain_again (2 ^ 8) c z e
code_again basic.Cardinal c z small e = plain_again (2 ^ 32) c z e
code_again basic.Integer c z small e =
    let same : integer_value c ≡ z = cc in
    ap integer_code (sym same) ∙ integer_again c (omega (arith, small))
code_again basic.LongCard c z small e = plain_again (2 ^ 64) c z e
code_again (basic.Choice count) c z small e = plain_again (min count (2 ^ 16)) c z e

-- an item is read as it was written
pub item_back : {A : Type 0} (total bytes : ℕ) (meaning : ℕ → Option A) (c : ℕ) (x : A) (rest : List ℕ) → c < 256 ^ bytes → meaning c ≡ Some x
    → item total bytes meaning (big_bytes bytes c ++ rest) ≡ Ok (x, rest)
item_back {A = A} total bytes meaning c x rest small means =
    let all = big_bytes bytes c ++ rest in
    let long : length (big_bytes bytes c) ≡ bytes = length-bytes_high_first bytes c in
    let room : bytes ≤ length all = omega (arith, length-append (big_bytes bytes c) rest) in
    let at = total - length all in
    let number : big_number bytes all ≡ c = big_number-reads_back bytes c rest small in
    let behind : drop bytes all ≡ rest = ap (λ (n : ℕ). drop n all) (sym long) ∙ drop-append_seam (big_bytes bytes c) rest in
    item_whole total bytes meaning all room
    ∙ ap (λ (n : ℕ). in_range at (meaning n) (drop bytes all)) number
    ∙ ap (λ (o : Option A). in_range at o (drop bytes all)) means
    ∙ ap (λ (l : List ℕ). Ok (x, l)) behind
