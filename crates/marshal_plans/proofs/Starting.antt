-- The beginning of a value, as it is written and as it is read.
use Rattle.std.proofs.Common.{◌≡◌, ℕ, ℤ, List, [], ◌++◌, Option, Some, None, Ok, Err, refl, ap, sym, ◌∙◌, subst, arith}
use Rattle.std.specs.Borrow.{Bor}
use Rattle.marshal_plans.specs.declared.basic.Basic.{Basic}
use Rattle.marshal_plans.specs.declared.basic.Basic.TheVariants.{Byte}
use Rattle.marshal_plans.specs.declared.fault.PutFault.{PutFault}
use Rattle.marshal_plans.specs.declared.fault.PutFault.TheVariants.{Shape, Room}
use Rattle.marshal_plans.specs.declared.instruction.Extent.{Extent}
use Rattle.marshal_plans.specs.declared.instruction.Instruction.{Instruction}
use Rattle.marshal_plans.specs.declared.levels.Left.TheVariants.{Fields, Elements}
use Rattle.marshal_plans.specs.declared.putting.Unput.{Unput}
use Rattle.marshal_plans.specs.declared.step.Step.{Step}
use Rattle.marshal_plans.specs.declared.step.Step.TheVariants as step
use Rattle.marshal_plans.specs.Basics.{width, code_of}
use Rattle.marshal_plans.specs.Cursors.{cursor_data}
use Rattle.marshal_plans.specs.Data.{Datum, Data, plain, group, no_data, datum_then, count}
use Rattle.marshal_plans.specs.Encoding.{enc, enc_all, each, each_of, joined, spelled, count_code}
use Rattle.marshal_plans.specs.Forms.{Form, number, array, record_of}
use Rattle.marshal_plans.specs.Lefts.{all_of, elements, IsLeft}
use Rattle.marshal_plans.specs.Puts.{Started, Headed}
use Rattle.marshal_plans.specs.Steps.{IsStep}
use Rattle.marshal_plans.specs.Writing.{Puts}
use Rattle.marshal_plans.proofs.Placing.{wrote_nothing, wrote_more, joined_empty}

-- as many values as there are
each_counted : (f : Datum → Option (List ℕ)) (ds : Data) → each_of (count ds) f ds ≡ each f ds
each_counted f no_data = refl
each_counted f (datum_then d ds) = ap (joined (f d)) (each_counted f ds)

module _ (f : Form) (old mid new : List ℕ) (at place : ℕ) where
  pub start_number : (b : Basic) (n : ℤ) → IsStep f (step.Item b) → Puts old new at (Ok place) (spelled (width b) (code_of b n))
      → Started f (plain n) old new at (Ok (None, place))
  start_number b n is p = go f is
    where
      go : (f : Form) → IsStep f (step.Item b) → Started f (plain n) old new at (Ok (None, place))
      go (number c) is = (p.0, ap (λ (x : Basic). spelled (width x) (code_of x n)) is ∙ p.1, p.2)
      go (array x g) is = absurd is
      go (record_of fs) is = absurd is

  pub start_record : (parts : Bor (List Instruction)) (inner : Unput) (ds : Data) → IsStep f (step.Record parts) → inner.left ≡ Fields parts
      → cursor_data inner.values ≡ ds → Started f (group ds) old old at (Ok (Some inner, at))
  start_record parts inner ds is left are = go f is
    where
      go : (f : Form) → IsStep f (step.Record parts) → Started f (group ds) old old at (Ok (Some inner, at))
      go (number c) is = absurd is
      go (array x g) is = absurd is
      go (record_of fs) is = (
        all_of fs,
        [],
        subst (IsLeft (all_of fs)) (sym left) is,
        omega arith,
        ap (enc_all fs) (sym are) ∙ sym (joined_empty (enc_all fs (cursor_data inner.values))),
        wrote_nothing old at,
      )

  pub start_array : (x : Extent) (element : Bor (List Instruction)) (n : ℕ) (inner : Unput) (ds : Data) → IsStep f (step.Array x element)
      → inner.left ≡ Elements n element → cursor_data inner.values ≡ ds
      → Headed (count ds) (count_code x (count ds)) old new at (Ok (n, place)) → Started f (group ds) old new at (Ok (Some inner, place))
  start_array x element n inner ds is left are head = go f is
    where
      go : (f : Form) → IsStep f (step.Array x element) → Started f (group ds) old new at (Ok (Some inner, place))
      go (number c) is = absurd is
      go (array y g) is = (
        elements n g,
        head.1.0,
        subst (IsLeft (elements n g)) (sym left) (refl, is.1),
        omega arith,
        ap (λ (z : Extent). joined (count_code z (count ds)) (each (enc g) ds)) is.0
            ∙ ap (λ (c : Option (List ℕ)). joined c (each (enc g) ds)) head.1.1
            ∙ ap (joined (Some head.1.0)) (sym (each_counted (enc g) ds) ∙ ap (λ (m : ℕ). each_of m (enc g) ds) (sym head.0) ∙ ap (each_of n (enc g)) (sym are)),
        head.1.2,
      )
      go (record_of fs) is = absurd is

  pub start_bytes : (x : Extent) (n : ℕ) (ds : Data) (end : ℕ) → IsStep f (step.Bytes x)
      → Headed (count ds) (count_code x (count ds)) old mid at (Ok (n, place)) → Puts mid new place (Ok end) (each (enc (number Byte)) ds)
      → Started f (group ds) old new at (Ok (None, end))
  start_bytes x n ds end is head p = go f is
    where
      go : (f : Form) → IsStep f (step.Bytes x) → Started f (group ds) old new at (Ok (None, end))
      go (number c) is = absurd is
      go (array y g) is = (
        head.1.0 ++ p.0,
        ap (λ (z : Extent). joined (count_code z (count ds)) (each (enc g) ds)) is.0
            ∙ ap (λ (h : Form). joined (count_code x (count ds)) (each (enc h) ds)) is.1
            ∙ ap (λ (c : Option (List ℕ)). joined c (each (enc (number Byte)) ds)) head.1.1
            ∙ ap (joined (Some head.1.0)) p.1,
        wrote_more old mid new at place end head.1.0 p.0 head.1.2 p.2,
      )
      go (record_of fs) is = absurd is

-- what is refused
pub wrong_number : (f : Form) (b : Basic) (n : ℤ) → IsStep f (step.Item b) → spelled (width b) (code_of b n) ≡ None → enc f (plain n) ≡ None
wrong_number (number c) b n is wrong = ap (λ (x : Basic). spelled (width x) (code_of x n)) is ∙ wrong
wrong_number (array x g) b n is wrong = absurd is
wrong_number (record_of fs) b n is wrong = absurd is

pub wrong_count : (f : Form) (x : Extent) (element : Bor (List Instruction)) (ds : Data) → IsStep f (step.Array x element) → count_code x (count ds) ≡ None
    → enc f (group ds) ≡ None
wrong_count (number c) x element ds is wrong = absurd is
wrong_count (array y g) x element ds is wrong =
    ap (λ (z : Extent). joined (count_code z (count ds)) (each (enc g) ds)) is.0 ∙ ap (λ (c : Option (List ℕ)). joined c (each (enc g) ds)) wrong
wrong_count (record_of fs) x element ds is wrong = absurd is

pub wrong_byte_count : (f : Form) (x : Extent) (ds : Data) → IsStep f (step.Bytes x) → count_code x (count ds) ≡ None → enc f (group ds) ≡ None
wrong_byte_count (number c) x ds is wrong = absurd is
wrong_byte_count (array y g) x ds is wrong =
    ap (λ (z : Extent). joined (count_code z (count ds)) (each (enc g) ds)) is.0 ∙ ap (λ (c : Option (List ℕ)). joined c (each (enc g) ds)) wrong
wrong_byte_count (record_of fs) x ds is wrong = absurd is

none_behind : (c : Option (List ℕ)) → joined c None ≡ None
none_behind None = refl
none_behind (Some a) = refl

pub wrong_bytes : (f : Form) (x : Extent) (ds : Data) → IsStep f (step.Bytes x) → each (enc (number Byte)) ds ≡ None → enc f (group ds) ≡ None
wrong_bytes (number c) x ds is wrong = absurd is
wrong_bytes (array y g) x ds is wrong =
    ap (λ (h : Form). joined (count_code y (count ds)) (each (enc h) ds)) is.1 ∙ ap (joined (count_code y (count ds))) wrong
    ∙ none_behind (count_code y (count ds))
wrong_bytes (record_of fs) x ds is wrong = absurd is

-- a number for a group, and a group for a number
pub no_group : (f : Form) (s : Step) (n : ℤ) → IsStep f s → ((b : Basic) → s ≡ step.Item b → ⊥) → enc f (plain n) ≡ None
no_group (number c) (step.Item b) n is other = absurd (other b refl)
no_group (number c) (step.Bytes x) n is other = absurd is
no_group (number c) (step.Array x element) n is other = absurd is
no_group (number c) (step.Record parts) n is other = absurd is
no_group (array x g) s n is other = refl
no_group (record_of fs) s n is other = refl

pub no_number : (f : Form) (b : Basic) (ds : Data) → IsStep f (step.Item b) → enc f (group ds) ≡ None
no_number (number c) b ds is = refl
no_number (array x g) b ds is = absurd is
no_number (record_of fs) b ds is = absurd is

pub bytes_refused : (f : Form) (x : Extent) (ds : Data) (old mid new : List ℕ) (at place : ℕ) (e : PutFault) → IsStep f (step.Bytes x)
    → Puts mid new place (Err e) (each (enc (number Byte)) ds) → Started f (group ds) old new at (Err e)
bytes_refused f x ds old mid new at place Shape is p = wrong_bytes f x ds is p
bytes_refused f x ds old mid new at place Room is p = absurd p

pub array_refused : (f : Form) (x : Extent) (element : Bor (List Instruction)) (ds : Data) (old new : List ℕ) (at : ℕ) (e : PutFault)
    → IsStep f (step.Array x element) → Headed (count ds) (count_code x (count ds)) old new at (Err e) → Started f (group ds) old new at (Err e)
array_refused f x element ds old new at Shape is head = wrong_count f x element ds is head
array_refused f x element ds old new at Room is head = absurd head

pub byte_count_refused : (f : Form) (x : Extent) (ds : Data) (old new : List ℕ) (at : ℕ) (e : PutFault) → IsStep f (step.Bytes x)
    → Headed (count ds) (count_code x (count ds)) old new at (Err e) → Started f (group ds) old new at (Err e)
byte_count_refused f x ds old new at Shape is head = wrong_byte_count f x ds is head
byte_count_refused f x ds old new at Room is head = absurd head
