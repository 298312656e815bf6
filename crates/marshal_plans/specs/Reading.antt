-- What is read of bytes, by the types of the values: the values and the bytes behind them, or the first fault.
use Rattle.std.specs.Prelude.{ℕ, zero, suc, ◌-◌, List, [], ◌∷◌, length, drop, nat_lt, nat_le, Option, Some, None, Result, Ok, Err, if◌then◌else◌}
use Rattle.byteorder.specs.Endian.{big_number}
use Rattle.marshal_plans.specs.declared.instruction.Extent.{Extent}
use Rattle.marshal_plans.specs.declared.instruction.Extent.TheVariants.{Exactly, UpTo}
use Rattle.marshal_plans.specs.declared.fault.GetFault.{GetFault}
use Rattle.marshal_plans.specs.declared.fault.GetFault.TheVariants as fault
use Rattle.marshal_plans.specs.Basics.{width, value_of}
use Rattle.marshal_plans.specs.Data.{Datum, Data, plain, group, no_data, datum_then, followed}
use Rattle.marshal_plans.specs.Forms.{Form, Forms, number, array, record_of, no_forms, form_then}

-- what was read, and the bytes behind it
abbrev pub Read : Type 0 → Type 0
Read X = Result (X × List ℕ) GetFault

-- goes on with what was read, or fails as before
infixl 10 ◌>>=◌
abbrev pub ◌>>=◌ : {A B : Type 0} → Read A → (A → List ℕ → Read B) → Read B
(Ok r) >>= f = f r.0 r.1
(Err e) >>= f = Err e

abbrev pub in_range : {A : Type 0} → ℕ → Option A → List ℕ → Read A
in_range at (Some x) rest = Ok (x, rest)
in_range at None rest = Err (fault.Range at)

-- A number of so many bytes, if it stands for something. `total` is the number of all bytes, so the item starts at `total` less what is left.
abbrev pub item : {A : Type 0} → ℕ → ℕ → (ℕ → Option A) → List ℕ → Read A
item total bytes meaning rest =
    if nat_lt (length rest) bytes then Err (fault.Short (total - length rest))
    else in_range (total - length rest) (meaning (big_number bytes rest)) (drop bytes rest)

-- how many elements an array has
abbrev pub counted : ℕ → Extent → List ℕ → Read ℕ
counted total (Exactly n) rest = Ok (n, rest)
counted total (UpTo n) rest = item total 4 (λ count. if nat_le count n then Some count else None) rest

-- so many values, each read behind the one before
abbrev pub times : (List ℕ → Read Datum) → ℕ → List ℕ → Read Data
times read zero rest = Ok (no_data, rest)
times read (suc n) rest = read rest >>= λ d behind. times read n behind >>= λ ds end. Ok (datum_then d ds, end)

abbrev mutual
  pub reads : ℕ → Form → List ℕ → Read Datum
  reads total (number b) rest = item total (width b) (value_of b) rest >>= λ n behind. Ok (plain n, behind)
  reads total (array extent f) rest =
      counted total extent rest >>= λ n behind. times (reads total f) n behind >>= λ ds end. Ok (group ds, end)
  reads total (record_of fs) rest = reads_all total fs rest >>= λ ds behind. Ok (group ds, behind)

  pub reads_all : ℕ → Forms → List ℕ → Read Data
  reads_all total no_forms rest = Ok (no_data, rest)
  reads_all total (form_then f fs) rest =
      reads total f rest >>= λ d behind. reads_all total fs behind >>= λ ds end. Ok (datum_then d ds, end)

-- the same values with others before them
abbrev pub with_front : Data → Read Data → Read Data
with_front front read = read >>= λ ds rest. Ok (followed front ds, rest)

-- nothing may be left
abbrev pub whole : ℕ → Read Data → Result Data GetFault
whole total (Ok (ds, [])) = Ok ds
whole total (Ok (ds, (byte ∷ rest))) = Err (fault.Left (total - length (byte ∷ rest)))
whole total (Err e) = Err e

-- the values that the bytes are, all of them, or the first fault
abbrev pub decoded : Forms → List ℕ → Result Data GetFault
decoded fs bytes = whole (length bytes) (reads_all (length bytes) fs bytes)
