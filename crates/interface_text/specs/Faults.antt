-- The numbers of faults, and what is told of them.
use Rattle.std.specs.Prelude.{ℕ}
use Rattle.interface_tokens.specs.declared.fault.Cause.{Cause}
use Rattle.interface_tokens.specs.declared.fault.Cause.TheVariants as cause
use Rattle.interface_tokens.specs.declared.fault.Stop.{Stop}
use Rattle.interface_tokens.specs.declared.fault.Stop.TheVariants.{Memory, Fault}
use Rattle.interface_text.specs.declared.fault.TextFault.{TextFault}

abbrev pub number_of : Cause → ℕ
number_of cause.Character = 1
number_of cause.OpenComment = 2
number_of cause.Expected = 3
number_of cause.Number = 4
number_of cause.LongName = 5
number_of cause.Duplicate = 6
number_of cause.Unknown = 7
number_of cause.EndName = 8
number_of cause.TooDeep = 9
number_of cause.TooMany = 10
number_of cause.After = 11

-- a fault by its line, its column and its number, or zeros for want of memory
abbrev pub told : Stop → TextFault
told Memory = record { line = 0; column = 0; number = 0 }
told (Fault place cause) = record { line = place.line; column = place.column; number = number_of cause }
