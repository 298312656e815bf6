-- The encoding: the bytes of values by their types.
use Rattle.std.specs.Prelude.{ℕ, zero, suc, List, [], ◌++◌, nat_le, min, ◌-◌, ◌^◌, ◌==◌, Option, Some, None, if◌then◌else◌}
use Rattle.byteorder.specs.Endian.{big_bytes}
use Rattle.marshal_plans.specs.declared.instruction.Extent.{Extent}
use Rattle.marshal_plans.specs.declared.instruction.Extent.TheVariants.{Exactly, UpTo}
use Rattle.marshal_plans.specs.Basics.{width, code_of}
use Rattle.marshal_plans.specs.Data.{Datum, Data, plain, group, no_data, datum_then, count}
use Rattle.marshal_plans.specs.Forms.{Form, Forms, number, array, record_of, no_forms, form_then}

-- one text and then another, if there are both
abbrev pub joined : Option (List ℕ) → Option (List ℕ) → Option (List ℕ)
joined (Some one) (Some other) = Some (one ++ other)
joined (Some one) None = None
joined None other = None

abbrev pub spelled : ℕ → Option ℕ → Option (List ℕ)
spelled bytes (Some code) = Some (big_bytes bytes code)
spelled bytes None = None

-- What stands before so many elements, if an array may have them. Four bytes hold numbers below 2 ^ 32.
abbrev pub count_code : Extent → ℕ → Option (List ℕ)
count_code (Exactly n) count = if count == n then Some [] else None
count_code (UpTo n) count = if nat_le count (min n (2 ^ 32 - 1)) then Some (big_bytes 4 count) else None

abbrev pub each : (Datum → Option (List ℕ)) → Data → Option (List ℕ)
each f no_data = Some []
each f (datum_then d ds) = joined (f d) (each f ds)

-- the same for so many values and no others
abbrev pub each_of : ℕ → (Datum → Option (List ℕ)) → Data → Option (List ℕ)
each_of zero f no_data = Some []
each_of zero f (datum_then d ds) = None
each_of (suc n) f no_data = None
each_of (suc n) f (datum_then d ds) = joined (f d) (each_of n f ds)

abbrev mutual
  -- the bytes of a value, if it is of the type
  pub enc : Form → Datum → Option (List ℕ)
  enc (number b) (plain n) = spelled (width b) (code_of b n)
  enc (number b) (group ds) = None
  enc (array extent f) (plain n) = None
  enc (array extent f) (group ds) = joined (count_code extent (count ds)) (each (enc f) ds)
  enc (record_of fs) (plain n) = None
  enc (record_of fs) (group ds) = enc_all fs ds

  -- the bytes of values, if they are of the types, one of each
  pub enc_all : Forms → Data → Option (List ℕ)
  enc_all no_forms no_data = Some []
  enc_all no_forms (datum_then d ds) = None
  enc_all (form_then f fs) no_data = None
  enc_all (form_then f fs) (datum_then d ds) = joined (enc f d) (enc_all fs ds)
