-- What was read was written.
use Rattle.std.proofs.Common.{◌≡◌, ◌<◌, ◌≤◌, ◌-◌, ◌^◌, nat_le, nat_lt, min, ℕ, zero, suc, Bool, true, false, cond, List, [], ◌∷◌, ◌++◌, length, take, drop, slice_index, Option, Some, None, Ok, Err, refl, ap, sym, ◌∙◌, subst, arith, append_assoc}
use Rattle.std.proofs.lemmas.List.{append-nil, take-append-drop}
use borrow.Author.Tests.{le-leb, leb-true, eq-eqb, ltb-false}
use Rattle.byteorder.specs.Endian.{big_bytes, big_number}
use Rattle.byteorder.specs.Numbers.{big_from-lt}
use Rattle.marshal_plans.specs.declared.fault.GetFault.TheVariants.{Short}
use Rattle.marshal_plans.specs.declared.instruction.Extent.{Extent}
use Rattle.marshal_plans.specs.declared.instruction.Extent.TheVariants.{Exactly, UpTo}
use Rattle.marshal_plans.specs.Basics.{width, value_of}
use Rattle.marshal_plans.specs.Data.{Datum, Data, plain, group, no_data, datum_then, count}
use Rattle.marshal_plans.specs.Encoding.{enc, enc_all, each, joined, spelled, count_code}
use Rattle.marshal_plans.specs.Reading.{Read, ◌>>=◌, in_range, counted, item, reads, reads_all, times, whole, decoded}
use Rattle.marshal_plans.specs.Forms.{Form, Forms, number, array, record_of, no_forms, form_then}
use Rattle.marshal_plans.proofs.Bytes.{AreBytes, bytes-drop, bytes_of_number}
use Rattle.marshal_plans.proofs.Codes.{code_again}
use Rattle.marshal_plans.proofs.Parts.{bind_ok, guarded}

-- the front of the bytes is the encoding
pub record Taken (rest behind : List ℕ) (coded : Option (List ℕ)) : Type 0 where
  pub code : List ℕ
  pub is : coded ≡ Some code
  pub cut : rest ≡ code ++ behind
  pub small : AreBytes behind

taken_both : (a b c : List ℕ) (o q : Option (List ℕ)) → Taken a b o → Taken b c q → Taken a c (joined o q)
taken_both a b c o q s t = record {
  code = s.code ++ t.code;
  is = ap (λ (x : Option (List ℕ)). joined x q) s.is ∙ ap (joined (Some s.code)) t.is;
  cut = s.cut ∙ ap (λ (l : List ℕ). s.code ++ l) t.cut ∙ sym (append_assoc s.code t.code c);
  small = t.small;
}

taken_as : (a b : List ℕ) (o q : Option (List ℕ)) → o ≡ q → Taken a b o → Taken a b q
taken_as a b o q e t = record { code = t.code; is = sym e ∙ t.is; cut = t.cut; small = t.small }

taken_to : (a b c : List ℕ) (o : Option (List ℕ)) → b ≡ c → Taken a b o → Taken a c o
taken_to a b c o e t = record { code = t.code; is = t.is; cut = t.cut ∙ ap (λ (l : List ℕ). t.code ++ l) e; small = subst AreBytes e t.small }

read_pair : {A : Type 0} (x y : A) (a b : List ℕ) → ◌≡◌ {A = Read A} (Ok (x, a)) (Ok (y, b)) → (x ≡ y) × (a ≡ b)
read_pair {A = A} x y a b e =
    let pairs : (x, a) ≡ (y, b) = cc in
    (ap (λ (p : A × List ℕ). p.0) pairs, ap (λ (p : A × List ℕ). p.1) pairs)

in_range_ok : {A : Type 0} (at : ℕ) (o : Option A) (rest : List ℕ) (x : A) (behind : List ℕ) → in_range at o rest ≡ Ok (x, behind) → (o ≡ Some x) × (rest ≡ behind)
in_range_ok at (Some y) rest x behind e = let p = read_pair y x rest behind e in (ap Some p.0, p.1)
in_range_ok at None rest x behind e = absurd (cc)

item_ok : {A : Type 0} (total bytes : ℕ) (meaning : ℕ → Option A) (rest : List ℕ) (x : A) (behind : List ℕ) → item total bytes meaning rest ≡ Ok (x, behind)
    → (bytes ≤ length rest) × (meaning (big_number bytes rest) ≡ Some x) × (drop bytes rest ≡ behind)
item_ok {A = A} total bytes meaning rest x behind e = go (nat_lt (length rest) bytes) refl e
  where
    go : (t : Bool) → nat_lt (length rest) bytes ≡ t
        → cond t (Err (Short (total - length rest))) (in_range (total - length rest) (meaning (big_number bytes rest)) (drop bytes rest)) ≡ Ok (x, behind)
        → (bytes ≤ length rest) × (meaning (big_number bytes rest) ≡ Some x) × (drop bytes rest ≡ behind)
    go true is e = absurd (cc)
    go false is e =
        let p = in_range_ok (total - length rest) (meaning (big_number bytes rest)) (drop bytes rest) x behind e in
        (ltb-false (length rest) bytes is, p.0, p.1)

-- a number's bytes are those that it was read from
number_taken : (bytes : ℕ) (rest behind : List ℕ) → AreBytes rest → bytes ≤ length rest → drop bytes rest ≡ behind
    → Taken rest behind (Some (big_bytes bytes (big_number bytes rest)))
number_taken bytes rest behind small room cut = record {
  code = take bytes rest;
  is = ap Some (bytes_of_number bytes rest room small);
  cut = sym (take-append-drop bytes rest) ∙ ap (λ (l : List ℕ). take bytes rest ++ l) cut;
  small = subst AreBytes cut (bytes-drop bytes rest small);
}

nothing_taken : (rest : List ℕ) → AreBytes rest → Taken rest rest (Some [])
nothing_taken rest small = record { code = []; is = refl; cut = refl; small = small }

count_again : (total : ℕ) (x : Extent) (rest : List ℕ) (n : ℕ) (mid : List ℕ) → AreBytes rest → counted total x rest ≡ Ok (n, mid) → Taken rest mid (count_code x n)
count_again total (Exactly m) rest n mid small e =
    let p = read_pair m n rest mid e in
    let same : n ≡ m = sym p.0 in
    taken_as rest mid (Some []) (count_code (Exactly m) n) (sym (ap (λ (t : Bool). cond t (Some []) None) (eq-eqb n m same)))
    (taken_to rest rest mid (Some []) p.1 (nothing_taken rest small))
count_again total (UpTo m) rest n mid small e =
    let i = item_ok total 4 (λ count. cond (nat_le count m) (Some count) None) rest n mid e in
    let c = big_number 4 rest in
    let g = guarded (nat_le c m) c n i.1 in
    let same : c ≡ n = g.1 in
    let within : c ≤ m = leb-true c m g.0 in
    let fits : c < 256 ^ 4 = big_from-lt 0 4 rest small.small in
    let most : nat_le n (min m (2 ^ 32 - 1)) ≡ true = le-leb n (min m (2 ^ 32 - 1)) (omega arith) in
    let coded : Some (big_bytes 4 c) ≡ count_code (UpTo m) n =
    ap (λ (k : ℕ). Some (big_bytes 4 k)) same ∙ sym (ap (λ (t : Bool). cond t (Some (big_bytes 4 n)) None) most) in
    taken_as rest mid (Some (big_bytes 4 c)) (count_code (UpTo m) n) coded (number_taken 4 rest mid small i.0 i.2)

times_again : (read : List ℕ → Read Datum) (f : Datum → Option (List ℕ))
    → ((rest : List ℕ) (d : Datum) (behind : List ℕ) → AreBytes rest → read rest ≡ Ok (d, behind) → Taken rest behind (f d))
    → (n : ℕ) (rest : List ℕ) (ds : Data) (end : List ℕ) → AreBytes rest → times read n rest ≡ Ok (ds, end)
    → Taken rest end (each f ds) × (count ds ≡ n)
times_again read f h zero rest ds end small e =
    let p = read_pair no_data ds rest end e in (
      taken_as rest end (Some []) (each f ds) (ap (each f) p.0) (taken_to rest rest end (Some []) p.1 (nothing_taken rest small)),
      sym (ap (λ (l : Data). count l) p.0),
    )
times_again read f h (suc n) rest ds end small e =
    let p = bind_ok (read rest) (λ d behind. times read n behind >>= λ es end. Ok (datum_then d es, end)) ds end e in
    let q = bind_ok (times read n p.1) (λ es end. Ok (datum_then p.0 es, end)) ds end p.3 in
    let s = read_pair (datum_then p.0 q.0) ds q.1 end q.3 in
    let one = h rest p.0 p.1 small p.2 in
    let more = times_again read f h n p.1 q.0 q.1 one.small q.2 in (
      taken_as rest end (joined (f p.0) (each f q.0)) (each f ds) (ap (each f) s.0)
          (taken_to rest q.1 end (joined (f p.0) (each f q.0)) s.1 (taken_both rest p.1 q.1 (f p.0) (each f q.0) one more.0)),
      sym (ap (λ (l : Data). count l) s.0) ∙ ap suc more.1,
    )

mutual
  pub one_again : (total : ℕ) (f : Form) (rest : List ℕ) (d : Datum) (behind : List ℕ) → AreBytes rest → reads total f rest ≡ Ok (d, behind) → Taken rest behind (enc f d)
  one_again total (number b) rest d behind small e =
      let p = bind_ok (item total (width b) (value_of b) rest) (λ n end. Ok (plain n, end)) d behind e in
      let i = item_ok total (width b) (value_of b) rest p.0 p.1 p.2 in
      let s = read_pair (plain p.0) d p.1 behind p.3 in
      let c = big_number (width b) rest in
      let fits : c < 256 ^ width b = big_from-lt 0 (width b) rest small.small in
      let coded : Some (big_bytes (width b) c) ≡ enc (number b) d =
      sym (ap (spelled (width b)) (code_again b c p.0 fits i.1)) ∙ ap (enc (number b)) s.0 in
      taken_as rest behind (Some (big_bytes (width b) c)) (enc (number b) d) coded
      (taken_to rest p.1 behind (Some (big_bytes (width b) c)) s.1 (number_taken (width b) rest p.1 small i.0 i.2))
  one_again total (array x f) rest d behind small e =
      let p = bind_ok (counted total x rest) (λ n mid. times (reads total f) n mid >>= λ ds end. Ok (group ds, end)) d behind e in
      let q = bind_ok (times (reads total f) p.0 p.1) (λ ds end. Ok (group ds, end)) d behind p.3 in
      let s = read_pair (group q.0) d q.1 behind q.3 in
      let head = count_again total x rest p.0 p.1 small p.2 in
      let more = times_again (reads total f) (enc f) (λ r u b h g. one_again total f r u b h g) p.0 p.1 q.0 q.1 head.small q.2 in
      let coded : joined (count_code x p.0) (each (enc f) q.0) ≡ enc (array x f) d =
      ap (λ (n : ℕ). joined (count_code x n) (each (enc f) q.0)) (sym more.1) ∙ ap (enc (array x f)) s.0 in
      taken_as rest behind (joined (count_code x p.0) (each (enc f) q.0)) (enc (array x f) d) coded
      (taken_to rest q.1 behind (joined (count_code x p.0) (each (enc f) q.0)) s.1 (taken_both rest p.1 q.1 (count_code x p.0) (each (enc f) q.0) head more.0))
  one_again total (record_of fs) rest d behind small e =
      let q = bind_ok (reads_all total fs rest) (λ ds end. Ok (group ds, end)) d behind e in
      let s = read_pair (group q.0) d q.1 behind q.3 in
      let all = all_again total fs rest q.0 q.1 small q.2 in
      let coded : enc_all fs q.0 ≡ enc (record_of fs) d = ap (enc (record_of fs)) s.0 in
      taken_as rest behind (enc_all fs q.0) (enc (record_of fs) d) coded (taken_to rest q.1 behind (enc_all fs q.0) s.1 all)

  pub all_again : (total : ℕ) (fs : Forms) (rest : List ℕ) (ds : Data) (behind : List ℕ) → AreBytes rest → reads_all total fs rest ≡ Ok (ds, behind) → Taken rest behind (enc_all fs ds)
  all_again total no_forms rest ds behind small e =
      let p = read_pair no_data ds rest behind e in
      taken_as rest behind (Some []) (enc_all no_forms ds) (ap (enc_all no_forms) p.0) (taken_to rest rest behind (Some []) p.1 (nothing_taken rest small))
  all_again total (form_then f fs) rest ds behind small e =
      let p = bind_ok (reads total f rest) (λ d mid. reads_all total fs mid >>= λ es end. Ok (datum_then d es, end)) ds behind e in
      let q = bind_ok (reads_all total fs p.1) (λ es end. Ok (datum_then p.0 es, end)) ds behind p.3 in
      let s = read_pair (datum_then p.0 q.0) ds q.1 behind q.3 in
      let one = one_again total f rest p.0 p.1 small p.2 in
      let more = all_again total fs p.1 q.0 q.1 one.small q.2 in
      taken_as rest behind (joined (enc f p.0) (enc_all fs q.0)) (enc_all (form_then f fs) ds) (ap (enc_all (form_then f fs)) s.0)
      (taken_to rest q.1 behind (joined (enc f p.0) (enc_all fs q.0)) s.1 (taken_both rest p.1 q.1 (enc f p.0) (enc_all fs q.0) one more))

pub get_put : (fs : Forms) (bytes : List ℕ) (ds : Data) → ((i : ℕ) → slice_index bytes i < 256) → decoded fs bytes ≡ Ok ds → enc_all fs ds ≡ Some bytes
get_put fs bytes ds small e = go (reads_all (length bytes) fs bytes) refl e
  where
    go : (q : Read Data) → reads_all (length bytes) fs bytes ≡ q → whole (length bytes) q ≡ Ok ds → enc_all fs ds ≡ Some bytes
    go (Ok (es, [])) is h =
        let same : es ≡ ds = cc in
        let t = all_again (length bytes) fs bytes es [] (record { small = small }) is in
        ap (enc_all fs) (sym same) ∙ t.is ∙ ap Some (sym (append-nil t.code) ∙ sym t.cut)
    go (Ok (es, (b ∷ rest))) is h = absurd (cc)
    go (Err f) is h = absurd (cc)
