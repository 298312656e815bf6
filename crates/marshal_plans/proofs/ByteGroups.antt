-- Arrays of bytes: their bytes, and values that stand for bytes.
use Rattle.std.proofs.Common.{◌≡◌, ◌<◌, ◌≤◌, ◌-◌, ◌^◌, ℕ, zero, suc, pos, Bool, cond, get_or, List, [], ◌∷◌, length, take, drop, Option, Some, None, Ok, Err, refl, ap, sym, ◌∙◌, arith}
use borrow.Author.Tests.{lt-ltb}
use Rattle.std.proofs.Math.Nat.{mod-eq_of_lt}
use Rattle.byteorder.specs.Endian.{big_number}
use Rattle.marshal_plans.specs.declared.basic.Basic.TheVariants.{Byte}
use Rattle.marshal_plans.specs.declared.fault.GetFault.TheVariants.{Short}
use Rattle.marshal_plans.specs.Basics.{plain_value, value_of}
use Rattle.marshal_plans.specs.Data.{Datum, Data, plain, no_data, datum_then, behind_bytes}
use Rattle.marshal_plans.specs.Encoding.{enc, each, joined, spelled}
use Rattle.marshal_plans.specs.Forms.{number}
use Rattle.marshal_plans.specs.Reading.{Read, ◌>>=◌, in_range, reads, times}
use Rattle.marshal_plans.proofs.Bytes.{AreBytes, bytes-tail}
use Rattle.marshal_plans.proofs.Items.{item_whole, item_short}
use Rattle.marshal_plans.proofs.Placing.{joined_empty, joined_assoc}

one_code : (b : ℕ) (rest : List ℕ) → big_number 1 (b ∷ rest) ≡ b
one_code b rest = omega arith

small_value : (b : ℕ) → b < 256 → plain_value (2 ^ 8) b ≡ Some (pos b)
small_value b small = ap (λ (t : Bool). cond t (Some (pos b)) None) (lt-ltb b (2 ^ 8) small)

one_byte : (total : ℕ) (b : ℕ) (rest : List ℕ) → b < 256 → reads total (number Byte) (b ∷ rest) ≡ Ok (plain (pos b), rest)
one_byte total b rest small =
    let at = total - length (b ∷ rest) in
    let whole = item_whole total 1 (value_of Byte) (b ∷ rest) (omega arith) in
    let meant : plain_value (2 ^ 8) (big_number 1 (b ∷ rest)) ≡ Some (pos b) = ap (plain_value (2 ^ 8)) (one_code b rest) ∙ small_value b small in
    ap (λ q. q >>= λ n behind. Ok (plain n, behind)) whole
    ∙ ap (λ o. in_range at o rest >>= λ n behind. Ok (plain n, behind)) meant

many_bytes : (total n : ℕ) (bytes : List ℕ) → n ≤ length bytes → AreBytes bytes
    → times (reads total (number Byte)) n bytes ≡ Ok (behind_bytes (take n bytes) no_data, drop n bytes)
many_bytes total zero bytes room small = refl
many_bytes total (suc n) [] room small = absurd (omega arith)
many_bytes total (suc n) (b ∷ bytes) room small =
    ap (λ (q : Read Datum). q >>= λ d behind. times (reads total (number Byte)) n behind >>= λ ds end. Ok (datum_then d ds, end)) (one_byte total b bytes (small.small 0))
    ∙ ap (λ (q : Read Data). q >>= λ ds end. Ok (datum_then (plain (pos b)) ds, end)) (many_bytes total n bytes (omega arith) (bytes-tail b bytes small))

few_bytes : (total n : ℕ) (bytes : List ℕ) → length bytes < n → AreBytes bytes → times (reads total (number Byte)) n bytes ≡ Err (Short total)
few_bytes total zero bytes short small = absurd (omega arith)
few_bytes total (suc n) [] short small =
    ap (λ q. q >>= λ d behind. times (reads total (number Byte)) n behind >>= λ ds end. Ok (datum_then d ds, end))
    (ap (λ q. q >>= λ n behind. Ok (plain n, behind)) (item_short total 1 (value_of Byte) [] (omega arith)))
    ∙ ap (λ (at : ℕ). Err (Short at)) (omega arith)
few_bytes total (suc n) (b ∷ bytes) short small =
    ap (λ (q : Read Datum). q >>= λ d behind. times (reads total (number Byte)) n behind >>= λ ds end. Ok (datum_then d ds, end)) (one_byte total b bytes (small.small 0))
    ∙ ap (λ (q : Read Data). q >>= λ ds end. Ok (datum_then (plain (pos b)) ds, end)) (few_bytes total n bytes (omega arith) (bytes-tail b bytes small))

pub read_many : (total n : ℕ) (bytes : List ℕ) → n ≤ length bytes → ((i : ℕ) → get_or bytes i 0 < 256)
    → times (reads total (number Byte)) n bytes ≡ Ok (behind_bytes (take n bytes) no_data, drop n bytes)
read_many total n bytes room small = many_bytes total n bytes room (record { small = small })

pub read_few : (total n : ℕ) (bytes : List ℕ) → length bytes < n → ((i : ℕ) → get_or bytes i 0 < 256)
    → times (reads total (number Byte)) n bytes ≡ Err (Short total)
read_few total n bytes short small = few_bytes total n bytes short (record { small = small })

-- a byte's code is the byte
byte_code : (b : ℕ) → b < 256 → enc (number Byte) (plain (pos b)) ≡ Some (b ∷ [])
byte_code b small =
    ap (λ (t : Bool). spelled 1 (cond t (Some b) None)) (lt-ltb b (2 ^ 8) small)
    ∙ ap (λ (m : ℕ). Some (m ∷ [])) (mod-eq_of_lt small)

bytes_coded : (bs : List ℕ) (others : Data) → AreBytes bs
    → each (enc (number Byte)) (behind_bytes bs others) ≡ joined (Some bs) (each (enc (number Byte)) others)
bytes_coded [] others small = sym (joined_empty (each (enc (number Byte)) others))
bytes_coded (b ∷ bs) others small =
    ap (λ (c : Option (List ℕ)). joined c (each (enc (number Byte)) (behind_bytes bs others))) (byte_code b (small.small 0))
    ∙ ap (joined (Some (b ∷ []))) (bytes_coded bs others (bytes-tail b bs small))
    ∙ sym (joined_assoc (Some (b ∷ [])) (Some bs) (each (enc (number Byte)) others))

pub front_coded : (bs : List ℕ) (others : Data) → ((i : ℕ) → get_or bs i 0 < 256)
    → each (enc (number Byte)) (behind_bytes bs others) ≡ joined (Some bs) (each (enc (number Byte)) others)
front_coded bs others small = bytes_coded bs others (record { small = small })
