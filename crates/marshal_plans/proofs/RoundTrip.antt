-- What was written is read again.
use Rattle.std.proofs.Common.{◌≡◌, ◌≤◌, ◌-◌, ◌^◌, ◌==◌, nat_le, min, ℕ, ℤ, suc, Bool, true, cond, List, [], ◌++◌, length, Option, Some, None, Result, Ok, refl, ap, sym, ◌∙◌, arith, append_assoc}
use Rattle.std.proofs.lemmas.List.{append-nil}
use borrow.Author.Tests.{le-leb, leb-true, eqb-true}
use Rattle.byteorder.specs.Endian.{big_bytes}
use Rattle.marshal_plans.specs.declared.fault.GetFault.{GetFault}
use Rattle.marshal_plans.specs.declared.instruction.Extent.{Extent}
use Rattle.marshal_plans.specs.declared.instruction.Extent.TheVariants.{Exactly, UpTo}
use Rattle.marshal_plans.specs.Basics.{width, code_of, value_of}
use Rattle.marshal_plans.specs.Data.{Datum, Data, plain, group, no_data, datum_then, count}
use Rattle.marshal_plans.specs.Encoding.{enc, enc_all, each, spelled, count_code}
use Rattle.marshal_plans.specs.Reading.{Read, ◌>>=◌, counted, reads, reads_all, times, whole, decoded}
use Rattle.marshal_plans.specs.Forms.{Form, Forms, number, array, record_of, no_forms, form_then}
use Rattle.marshal_plans.proofs.Codes.{code_back, item_back}
use Rattle.marshal_plans.proofs.Parts.{joined_parts, guarded}

spelled_code : (bytes : ℕ) (o : Option ℕ) (code : List ℕ) → spelled bytes o ≡ Some code → (c : ℕ) × (o ≡ Some c) × (code ≡ big_bytes bytes c)
spelled_code bytes None code e = absurd (cc)
spelled_code bytes (Some c) code e = (c, refl, cc)

count_back : (total : ℕ) (x : Extent) (n : ℕ) (a rest : List ℕ) → count_code x n ≡ Some a → counted total x (a ++ rest) ≡ Ok (n, rest)
count_back total (Exactly m) n a rest e =
    let g = guarded (n == m) [] a e in
    let same : n ≡ m = eqb-true n m g.0 in
    ap (λ (l : List ℕ). Ok (m, l ++ rest)) (sym g.1) ∙ ap (λ (k : ℕ). Ok (k, rest)) (sym same)
count_back total (UpTo m) n a rest e =
    let g = guarded (nat_le n (min m (2 ^ 32 - 1))) (big_bytes 4 n) a e in
    let small : n ≤ min m (2 ^ 32 - 1) = leb-true n (min m (2 ^ 32 - 1)) g.0 in
    let most : nat_le n m ≡ true = le-leb n m (omega arith) in
    ap (λ (l : List ℕ). counted total (UpTo m) (l ++ rest)) (sym g.1)
    ∙ item_back total 4 (λ count. cond (nat_le count m) (Some count) None) n n rest (omega arith) (ap (λ (t : Bool). cond t (Some n) None) most)

times_back : (read : List ℕ → Read Datum) (f : Datum → Option (List ℕ))
    → ((d : Datum) (code rest : List ℕ) → f d ≡ Some code → read (code ++ rest) ≡ Ok (d, rest))
    → (ds : Data) (code rest : List ℕ) → each f ds ≡ Some code → times read (count ds) (code ++ rest) ≡ Ok (ds, rest)
times_back read f h no_data code rest e =
    let empty : [] ≡ code = cc in
    ap (λ (l : List ℕ). Ok (no_data, l ++ rest)) (sym empty)
times_back read f h (datum_then d ds) code rest e =
    let p = joined_parts (f d) (each f ds) code e in
    ap (λ (l : List ℕ). times read (suc (count ds)) (l ++ rest)) p.4
    ∙ ap (times read (suc (count ds))) (append_assoc p.0 p.1 rest)
    ∙ ap (λ (q : Read Datum). q >>= λ w behind. times read (count ds) behind >>= λ ws end. Ok (datum_then w ws, end)) (h d p.0 (p.1 ++ rest) p.2)
    ∙ ap (λ (q : Read Data). q >>= λ ws end. Ok (datum_then d ws, end)) (times_back read f h ds p.1 rest p.3)

mutual
  pub one_back : (total : ℕ) (f : Form) (d : Datum) (code rest : List ℕ) → enc f d ≡ Some code → reads total f (code ++ rest) ≡ Ok (d, rest)
  one_back total (number b) (plain n) code rest e =
      let c = spelled_code (width b) (code_of b n) code e in
      let back = code_back b n c.0 c.1 in
      ap (λ (l : List ℕ). reads total (number b) (l ++ rest)) c.2
      ∙ ap (λ (q : Read ℤ). q >>= λ m behind. Ok (plain m, behind)) (item_back total (width b) (value_of b) c.0 n rest back.0 back.1)
  one_back total (number b) (group ds) code rest e = absurd (cc)
  one_back total (array x f) (plain n) code rest e = absurd (cc)
  one_back total (array x f) (group ds) code rest e =
      let p = joined_parts (count_code x (count ds)) (each (enc f) ds) code e in
      ap (λ (l : List ℕ). reads total (array x f) (l ++ rest)) p.4
      ∙ ap (reads total (array x f)) (append_assoc p.0 p.1 rest)
      ∙ ap (λ (q : Read ℕ). q >>= λ n behind. times (reads total f) n behind >>= λ vs end. Ok (group vs, end)) (count_back total x (count ds) p.0 (p.1 ++ rest) p.2)
      ∙ ap (λ (q : Read Data). q >>= λ vs end. Ok (group vs, end)) (times_back (reads total f) (enc f) (λ u c r h. one_back total f u c r h) ds p.1 rest p.3)
  one_back total (record_of fs) (plain n) code rest e = absurd (cc)
  one_back total (record_of fs) (group ds) code rest e =
      ap (λ (q : Read Data). q >>= λ vs behind. Ok (group vs, behind)) (all_back total fs ds code rest e)

  pub all_back : (total : ℕ) (fs : Forms) (ds : Data) (code rest : List ℕ) → enc_all fs ds ≡ Some code → reads_all total fs (code ++ rest) ≡ Ok (ds, rest)
  all_back total no_forms no_data code rest e =
      let empty : [] ≡ code = cc in
      ap (λ (l : List ℕ). Ok (no_data, l ++ rest)) (sym empty)
  all_back total no_forms (datum_then d ds) code rest e = absurd (cc)
  all_back total (form_then f fs) no_data code rest e = absurd (cc)
  all_back total (form_then f fs) (datum_then d ds) code rest e =
      let p = joined_parts (enc f d) (enc_all fs ds) code e in
      ap (λ (l : List ℕ). reads_all total (form_then f fs) (l ++ rest)) p.4
      ∙ ap (reads_all total (form_then f fs)) (append_assoc p.0 p.1 rest)
      ∙ ap (λ (q : Read Datum). q >>= λ w behind. reads_all total fs behind >>= λ ws end. Ok (datum_then w ws, end)) (one_back total f d p.0 (p.1 ++ rest) p.2)
      ∙ ap (λ (q : Read Data). q >>= λ ws end. Ok (datum_then d ws, end)) (all_back total fs ds p.1 rest p.3)

pub put_get : (fs : Forms) (ds : Data) (code : List ℕ) → enc_all fs ds ≡ Some code → decoded fs code ≡ Ok ds
put_get fs ds code e =
    let total = length code in
    ap (λ (l : List ℕ). whole total (reads_all total fs l)) (sym (append-nil code))
    ∙ ap (whole total) (all_back total fs ds code [] e)

abbrev Decoded : Result Data GetFault → Result Data GetFault → Type 0
Decoded a b = a ≡ b

pub one_meaning : (fs : Forms) (ds es : Data) (code : List ℕ) → enc_all fs ds ≡ Some code → enc_all fs es ≡ Some code → ds ≡ es
one_meaning fs ds es code e f =
    let both : Decoded (Ok ds) (Ok es) = sym (put_get fs ds code e) ∙ put_get fs es code f in
    cc
