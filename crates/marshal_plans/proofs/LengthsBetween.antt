-- Each encoding is as long as its type allows.
use Rattle.std.proofs.Common.{◌≡◌, ◌≤◌, ◌+◌, ◌*◌, ◌-◌, ◌^◌, min, ℕ, nat_le, ◌==◌, List, [], ◌++◌, length, Option, Some, None, ap, sym, ◌∙◌, arith, length-append}
use borrow.Author.Tests.{leb-true, eqb-true}
use Rattle.std.proofs.Math.Nat.{mul-le-mul_left}
use Rattle.byteorder.specs.Endian.{big_bytes}
use Rattle.byteorder.specs.Numbers.{length-bytes_high_first}
use Rattle.marshal_plans.specs.declared.instruction.Extent.{Extent}
use Rattle.marshal_plans.specs.declared.instruction.Extent.TheVariants.{Exactly, UpTo}
use Rattle.marshal_plans.specs.Basics.{width, code_of}
use Rattle.marshal_plans.specs.Data.{Datum, Data, plain, group, no_data, datum_then, count}
use Rattle.marshal_plans.specs.Encoding.{enc, enc_all, each, spelled, count_code}
use Rattle.marshal_plans.specs.Forms.{Form, Forms, number, array, record_of, no_forms, form_then}
use Rattle.marshal_plans.specs.Lengths.{least, least_all, largest, largest_all, least_array, largest_array}
use Rattle.marshal_plans.proofs.Parts.{joined_parts, guarded}

-- a text is not shorter and not longer than that
pub record Between (low high : ℕ) (code : List ℕ) : Type 0 where
  pub least : low ≤ length code
  pub most : length code ≤ high

spelled_long : (bytes : ℕ) (o : Option ℕ) (code : List ℕ) → spelled bytes o ≡ Some code → length code ≡ bytes
spelled_long bytes None code e = absurd (cc)
spelled_long bytes (Some c) code e =
    let same : big_bytes bytes c ≡ code = cc in
    ap (λ (l : List ℕ). length l) (sym same) ∙ length-bytes_high_first bytes c

both : (a b c d : ℕ) (x y code : List ℕ) → code ≡ x ++ y → Between a b x → Between c d y → Between (a + c) (b + d) code
both a b c d x y code e p q =
    let long : length code ≡ length x + length y = ap (λ (l : List ℕ). length l) e ∙ length-append x y in
    record { least = omega (arith, p.least, q.least); most = omega (arith, p.most, q.most) }

each_between : (f : Datum → Option (List ℕ)) (low high : ℕ) → ((d : Datum) (code : List ℕ) → f d ≡ Some code → Between low high code)
    → (ds : Data) (code : List ℕ) → each f ds ≡ Some code → Between (count ds * low) (count ds * high) code
each_between f low high h no_data code e =
    let empty : [] ≡ code = cc in
    let none : length code ≡ 0 = ap (λ (l : List ℕ). length l) (sym empty) in
    record { least = omega arith; most = omega arith }
each_between f low high h (datum_then d ds) code e =
    let p = joined_parts (f d) (each f ds) code e in
    let one = h d p.0 p.2 in
    let more = each_between f low high h ds p.1 p.3 in
    let long : length code ≡ length p.0 + length p.1 = ap (λ (l : List ℕ). length l) p.4 ∙ length-append p.0 p.1 in
    record { least = omega (arith, one.least, more.least); most = omega (arith, one.most, more.most) }

array_between : (x : Extent) (n low high : ℕ) (head code : List ℕ) → count_code x n ≡ Some head → Between (n * low) (n * high) code
    → Between (least_array x low) (largest_array x high) (head ++ code)
array_between (Exactly m) n low high head code e p =
    let g = guarded (n == m) [] head e in
    let same : n ≡ m = eqb-true n m g.0 in
    let none : length head ≡ 0 = ap (λ (l : List ℕ). length l) (sym g.1) in
    let long : length (head ++ code) ≡ length head + length code = length-append head code in
    let lows : n * low ≡ m * low = ap (λ (k : ℕ). k * low) same in
    let highs : n * high ≡ m * high = ap (λ (k : ℕ). k * high) same in
    record { least = omega (arith, p.least); most = omega (arith, p.most) }
array_between (UpTo m) n low high head code e p =
    let g = guarded (nat_le n (min m (2 ^ 32 - 1))) (big_bytes 4 n) head e in
    let within : n ≤ min m (2 ^ 32 - 1) = leb-true n (min m (2 ^ 32 - 1)) g.0 in
    let four : length head ≡ 4 = ap (λ (l : List ℕ). length l) (sym g.1) ∙ length-bytes_high_first 4 n in
    let long : length (head ++ code) ≡ length head + length code = length-append head code in
    let most : high * n ≤ high * m = mul-le-mul_left high (omega arith) in
    record { least = omega arith; most = omega (arith, p.most) }

mutual
  one_between : (f : Form) (d : Datum) (code : List ℕ) → enc f d ≡ Some code → Between (least f) (largest f) code
  one_between (number b) (plain n) code e =
      let long = spelled_long (width b) (code_of b n) code e in
      record { least = omega arith; most = omega arith }
  one_between (number b) (group ds) code e = absurd (cc)
  one_between (array x f) (plain n) code e = absurd (cc)
  one_between (array x f) (group ds) code e =
      let p = joined_parts (count_code x (count ds)) (each (enc f) ds) code e in
      let more = each_between (enc f) (least f) (largest f) (λ d c h. one_between f d c h) ds p.1 p.3 in
      let all = array_between x (count ds) (least f) (largest f) p.0 p.1 p.2 more in
      let long : length code ≡ length (p.0 ++ p.1) = ap (λ (l : List ℕ). length l) p.4 in
      record { least = omega (arith, all.least); most = omega (arith, all.most) }
  one_between (record_of fs) (plain n) code e = absurd (cc)
  one_between (record_of fs) (group ds) code e = all_between fs ds code e

  all_between : (fs : Forms) (ds : Data) (code : List ℕ) → enc_all fs ds ≡ Some code → Between (least_all fs) (largest_all fs) code
  all_between no_forms no_data code e =
      let empty : [] ≡ code = cc in
      let none : length code ≡ 0 = ap (λ (l : List ℕ). length l) (sym empty) in
      record { least = omega arith; most = omega arith }
  all_between no_forms (datum_then d ds) code e = absurd (cc)
  all_between (form_then f fs) no_data code e = absurd (cc)
  all_between (form_then f fs) (datum_then d ds) code e =
      let p = joined_parts (enc f d) (enc_all fs ds) code e in
      both (least f) (largest f) (least_all fs) (largest_all fs) p.0 p.1 code p.4 (one_between f d p.0 p.2) (all_between fs ds p.1 p.3)

pub length_between : (fs : Forms) (ds : Data) (code : List ℕ) → enc_all fs ds ≡ Some code → (least_all fs ≤ length code) × (length code ≤ largest_all fs)
length_between fs ds code e = let b = all_between fs ds code e in (b.least, b.most)
