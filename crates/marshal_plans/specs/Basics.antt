-- The types whose values are one number each: the bytes of a value, the highest byte first.
use Rattle.std.specs.Prelude.{ℕ, ◌-◌, ◌^◌, min, ℤ, pos, negsuc, nat_lt, Option, Some, None, if◌then◌else◌}
use Rattle.marshal_plans.specs.declared.basic.Basic.{Basic}
use Rattle.marshal_plans.specs.declared.basic.Basic.TheVariants as basic

-- the number of bytes of a value
abbrev pub width : Basic → ℕ
width basic.Bool = 1
width basic.Byte = 1
width basic.Cardinal = 4
width basic.Integer = 4
width basic.LongCard = 8
width (basic.Choice count) = 2

-- a value from 0 up to a limit stands for itself
abbrev pub plain_code : ℕ → ℤ → Option ℕ
plain_code limit (pos n) = if nat_lt n limit then Some n else None
plain_code limit (negsuc n) = None

-- Two's complement in 4 bytes. `negsuc n` is the number that is n + 1 below 0.
abbrev pub integer_code : ℤ → Option ℕ
integer_code (pos n) = if nat_lt n (2 ^ 31) then Some n else None
integer_code (negsuc n) = if nat_lt n (2 ^ 31) then Some (2 ^ 32 - 1 - n) else None

-- The number that stands in the bytes for a value, if the type has it. An enumeration has at most 65,536 values.
abbrev pub code_of : Basic → ℤ → Option ℕ
code_of basic.Bool z = plain_code 2 z
code_of basic.Byte z = plain_code (2 ^ 8) z
code_of basic.Cardinal z = plain_code (2 ^ 32) z
code_of basic.Integer z = integer_code z
code_of basic.LongCard z = plain_code (2 ^ 64) z
code_of (basic.Choice count) z = plain_code (min count (2 ^ 16)) z

abbrev pub plain_value : ℕ → ℕ → Option ℤ
plain_value limit code = if nat_lt code limit then Some (pos code) else None

abbrev pub integer_value : ℕ → ℤ
integer_value code = if nat_lt code (2 ^ 31) then pos code else negsuc (2 ^ 32 - 1 - code)

-- the value for which a number stands in the bytes, if there is one
abbrev pub value_of : Basic → ℕ → Option ℤ
value_of basic.Bool code = plain_value 2 code
value_of basic.Byte code = plain_value (2 ^ 8) code
value_of basic.Cardinal code = plain_value (2 ^ 32) code
value_of basic.Integer code = Some (integer_value code)
value_of basic.LongCard code = plain_value (2 ^ 64) code
value_of (basic.Choice count) code = plain_value (min count (2 ^ 16)) code
