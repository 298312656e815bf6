-- What a plan's first instruction says of the types that it is the plan of.
use Rattle.std.proofs.Common.{◌≡◌, ◌+◌, ◌-◌, ◌<◌, ◌⊎◌, inl, inr, sym, get_or, ◌≤◌, ℕ, suc, Bool, true, false, List, [], ◌∷◌, ◌++◌, length, take, drop, Some, None, refl, ap, ◌∙◌, arith, add-one}
use Rattle.std.specs.Borrow.{Bor}
use native.Mathlib.Numerals.{unary_clauses}
use Rattle.marshal_plans.specs.declared.basic.Basic.{Basic}
use Rattle.marshal_plans.specs.declared.basic.Basic.TheVariants as basic
use Rattle.marshal_plans.specs.declared.instruction.Extent.{Extent}
use Rattle.marshal_plans.specs.declared.instruction.Instruction.{Instruction}
use Rattle.marshal_plans.specs.declared.instruction.Instruction.TheVariants.{Item, Bytes, Loop, Next, Record, End}
use Rattle.marshal_plans.specs.declared.step.Step.TheVariants as step
use Rattle.marshal_plans.specs.Plan.{plan, plans, is_byte, array_plan}
use Rattle.marshal_plans.specs.Steps.{Opens, IsStep}
use Rattle.marshal_plans.specs.Forms.{Form, Forms, number, array, record_of, no_forms, form_then}

-- the front of a list behind which an end mark stands, and what is behind the mark
take_front : (xs : List Instruction) (m : Instruction) (ys : List Instruction) → take (length xs) ((xs ++ m ∷ []) ++ ys) ≡ xs
take_front [] m ys = refl
take_front (x ∷ xs) m ys = ap (λ (l : List Instruction). x ∷ l) (take_front xs m ys)

drop_front : (xs : List Instruction) (m : Instruction) (ys : List Instruction) → drop (suc (length xs)) ((xs ++ m ∷ []) ++ ys) ≡ ys
drop_front [] m ys = refl
drop_front (x ∷ xs) m ys = drop_front xs m ys

take_all : (xs : List Instruction) → take (length xs) xs ≡ xs
take_all [] = refl
take_all (x ∷ xs) = ap (λ (l : List Instruction). x ∷ l) (take_all xs)

-- a list is its first instruction and those behind it
pub whole : (xs : List Instruction) (d i : Instruction) → 1 ≤ length xs → get_or xs 0 d ≡ i → i ∷ take (length xs - 1) (drop 1 xs) ≡ xs
whole [] d i some is = absurd (omega arith)
whole (x ∷ xs) d i some is = simp unary_clauses (ap (λ (l : List Instruction). i ∷ l) (take_all xs) ∙ ap (λ (y : Instruction). y ∷ xs) (sym is))

pub opens_item : (ks : Forms) (b : Basic) (rest : Bor (List Instruction)) → Item b ∷ rest.now ≡ plans ks → Opens ks (Some (step.Item b, rest))
opens_item no_forms b rest e = absurd (cc)
opens_item (form_then (number c) ks) b rest e = (cc, cc)
opens_item (form_then (array x k) ks) b rest e = no (is_byte k) e
  where
    no : (t : Bool) → Item b ∷ rest.now ≡ array_plan t x (plan k) ++ plans ks → IsStep (array x k) (step.Item b) × (rest.now ≡ plans ks)
    no true e = absurd (cc)
    no false e = absurd (cc)
opens_item (form_then (record_of fs) ks) b rest e = absurd (cc)

byte_only : (k : Form) → is_byte k ≡ true → k ≡ number basic.Byte
byte_only (number basic.Byte) e = refl
byte_only (number basic.Bool) e = absurd (cc)
byte_only (number basic.Cardinal) e = absurd (cc)
byte_only (number basic.Integer) e = absurd (cc)
byte_only (number basic.LongCard) e = absurd (cc)
byte_only (number (basic.Choice n)) e = absurd (cc)
byte_only (array x k) e = absurd (cc)
byte_only (record_of ks) e = absurd (cc)

pub opens_bytes : (ks : Forms) (x : Extent) (rest : Bor (List Instruction)) → Bytes x ∷ rest.now ≡ plans ks → Opens ks (Some (step.Bytes x, rest))
opens_bytes no_forms x rest e = absurd (cc)
opens_bytes (form_then (number c) ks) x rest e = absurd (cc)
opens_bytes (form_then (array y k) ks) x rest e = yes (is_byte k) refl e
  where
    yes : (t : Bool) → is_byte k ≡ t → Bytes x ∷ rest.now ≡ array_plan t y (plan k) ++ plans ks → IsStep (array y k) (step.Bytes x) × (rest.now ≡ plans ks)
    yes true is e = ((cc, byte_only k is), cc)
    yes false is e = absurd (cc)
opens_bytes (form_then (record_of fs) ks) x rest e = absurd (cc)

pub opens_loop : (ks : Forms) (x : Extent) (len : ℕ) (rest : List Instruction) (element behind : Bor (List Instruction))
    → Loop x len ∷ rest ≡ plans ks → element.now ≡ take len rest → behind.now ≡ drop (len + 1) rest → Opens ks (Some (step.Array x element, behind))
opens_loop no_forms x len rest element behind e t d = absurd (cc)
opens_loop (form_then (number c) ks) x len rest element behind e t d = absurd (cc)
opens_loop (form_then (array y k) ks) x len rest element behind e t d = yes (is_byte k) e
  where
    yes : (t : Bool) → Loop x len ∷ rest ≡ array_plan t y (plan k) ++ plans ks → IsStep (array y k) (step.Array x element) × (behind.now ≡ plans ks)
    yes true e = absurd (cc)
    yes false e =
        let same_extent : y ≡ x = cc in
        let same_len : len ≡ length (plan k) = cc in
        let same_rest : rest ≡ (plan k ++ Next ∷ []) ++ plans ks = cc in (
          (same_extent, t ∙ ap (λ (n : ℕ). take n rest) same_len ∙ ap (take (length (plan k))) same_rest ∙ take_front (plan k) Next (plans ks)),
          d ∙ ap (λ (n : ℕ). drop n rest) (add-one len ∙ ap suc same_len) ∙ ap (drop (suc (length (plan k)))) same_rest ∙ drop_front (plan k) Next (plans ks),
        )
opens_loop (form_then (record_of fs) ks) x len rest element behind e t d = absurd (cc)

pub opens_record : (ks : Forms) (len : ℕ) (rest : List Instruction) (parts behind : Bor (List Instruction))
    → Record len ∷ rest ≡ plans ks → parts.now ≡ take len rest → behind.now ≡ drop (len + 1) rest → Opens ks (Some (step.Record parts, behind))
opens_record no_forms len rest parts behind e t d = absurd (cc)
opens_record (form_then (number c) ks) len rest parts behind e t d = absurd (cc)
opens_record (form_then (array y k) ks) len rest parts behind e t d = no (is_byte k) e
  where
    no : (t : Bool) → Record len ∷ rest ≡ array_plan t y (plan k) ++ plans ks → IsStep (array y k) (step.Record parts) × (behind.now ≡ plans ks)
    no true e = absurd (cc)
    no false e = absurd (cc)
opens_record (form_then (record_of fs) ks) len rest parts behind e t d =
    let same_len : len ≡ length (plans fs) = cc in
    let same_rest : rest ≡ (plans fs ++ End ∷ []) ++ plans ks = cc in (
      t ∙ ap (λ (n : ℕ). take n rest) same_len ∙ ap (take (length (plans fs))) same_rest ∙ take_front (plans fs) End (plans ks),
      d ∙ ap (λ (n : ℕ). drop n rest) (add-one len ∙ ap suc same_len) ∙ ap (drop (suc (length (plans fs)))) same_rest ∙ drop_front (plans fs) End (plans ks),
    )

-- a plan that begins otherwise, or ends within the parts, is no types'
pub opens_nothing : (ks : Forms) → [] ≡ plans ks → Opens ks None
opens_nothing no_forms e = tt
opens_nothing (form_then (number c) ks) e = absurd (cc)
opens_nothing (form_then (array y k) ks) e = absurd (no (is_byte k) e)
  where
    no : (t : Bool) → [] ≡ array_plan t y (plan k) ++ plans ks → ⊥
    no true e = cc
    no false e = cc
opens_nothing (form_then (record_of fs) ks) e = absurd (cc)

opens_next : (ks : Forms) (rest : List Instruction) → Next ∷ rest ≡ plans ks → Opens ks None
opens_next no_forms rest e = absurd (cc)
opens_next (form_then (number c) ks) rest e = absurd (cc)
opens_next (form_then (array y k) ks) rest e = absurd (no (is_byte k) e)
  where
    no : (t : Bool) → Next ∷ rest ≡ array_plan t y (plan k) ++ plans ks → ⊥
    no true e = cc
    no false e = cc
opens_next (form_then (record_of fs) ks) rest e = absurd (cc)

opens_end : (ks : Forms) (rest : List Instruction) → End ∷ rest ≡ plans ks → Opens ks None
opens_end no_forms rest e = absurd (cc)
opens_end (form_then (number c) ks) rest e = absurd (cc)
opens_end (form_then (array y k) ks) rest e = absurd (no (is_byte k) e)
  where
    no : (t : Bool) → End ∷ rest ≡ array_plan t y (plan k) ++ plans ks → ⊥
    no true e = cc
    no false e = cc
opens_end (form_then (record_of fs) ks) rest e = absurd (cc)

pub opens_mark : (ks : Forms) (xs : List Instruction) (d : Instruction) → 1 ≤ length xs → (get_or xs 0 d ≡ Next) ⊎ (get_or xs 0 d ≡ End) → xs ≡ plans ks → Opens ks None
opens_mark ks xs d some (inl is) e = opens_next ks (take (length xs - 1) (drop 1 xs)) (whole xs d Next some is ∙ e)
opens_mark ks xs d some (inr is) e = opens_end ks (take (length xs - 1) (drop 1 xs)) (whole xs d End some is ∙ e)

-- behind a loop or a record its parts stand, and the mark
longer : (xs : List Instruction) (m : Instruction) (ys : List Instruction) → length xs < length ((xs ++ m ∷ []) ++ ys)
longer [] m ys = omega arith
longer (x ∷ xs) m ys = omega (arith, longer xs m ys)

pub opens_short_loop : (ks : Forms) (x : Extent) (len : ℕ) (rest : List Instruction) → Loop x len ∷ rest ≡ plans ks → length rest ≤ len → Opens ks None
opens_short_loop no_forms x len rest e short = absurd (cc)
opens_short_loop (form_then (number c) ks) x len rest e short = absurd (cc)
opens_short_loop (form_then (array y k) ks) x len rest e short = absurd (no (is_byte k) e)
  where
    no : (t : Bool) → Loop x len ∷ rest ≡ array_plan t y (plan k) ++ plans ks → ⊥
    no true e = cc
    no false e =
        let same_len : len ≡ length (plan k) = cc in
        let same_rest : rest ≡ (plan k ++ Next ∷ []) ++ plans ks = cc in
        omega (arith, longer (plan k) Next (plans ks), ap (λ (l : List Instruction). length l) same_rest)
opens_short_loop (form_then (record_of fs) ks) x len rest e short = absurd (cc)

pub opens_short_record : (ks : Forms) (len : ℕ) (rest : List Instruction) → Record len ∷ rest ≡ plans ks → length rest ≤ len → Opens ks None
opens_short_record no_forms len rest e short = absurd (cc)
opens_short_record (form_then (number c) ks) len rest e short = absurd (cc)
opens_short_record (form_then (array y k) ks) len rest e short = absurd (no (is_byte k) e)
  where
    no : (t : Bool) → Record len ∷ rest ≡ array_plan t y (plan k) ++ plans ks → ⊥
    no true e = cc
    no false e = cc
opens_short_record (form_then (record_of fs) ks) len rest e short =
    let same_len : len ≡ length (plans fs) = cc in
    let same_rest : rest ≡ (plans fs ++ End ∷ []) ++ plans ks = cc in
    absurd (omega (arith, longer (plans fs) End (plans ks), ap (λ (l : List Instruction). length l) same_rest))

pub opens_empty : (ks : Forms) (xs : List Instruction) → length xs < 1 → xs ≡ plans ks → Opens ks None
opens_empty ks [] short e = opens_nothing ks e
opens_empty ks (x ∷ xs) short e = absurd (omega arith)
