-- What is told of a fault.
use Rattle.std.proofs.Common.{◌≡◌, ◌<◌, ℕ, List, arith, ap}
use Rattle.interface_text.specs.Faults.{number_of, told}
use Rattle.interface_tokens.specs.Outcome.{Fails}
use Rattle.interface_text.specs.Texts.{IsFirstFault, read_text}
use Rattle.interface_tokens.specs.declared.fault.Cause.{Cause}
use Rattle.interface_tokens.specs.declared.fault.Cause.TheVariants as cause
use Rattle.interface_tokens.specs.declared.fault.Stop.{Stop}
use Rattle.interface_tokens.specs.declared.fault.Stop.TheVariants.{Memory, Fault}
use Rattle.interface_text.specs.declared.fault.TextFault.{TextFault}

positive : (c : Cause) → 0 < number_of c
positive cause.Character = omega arith
positive cause.OpenComment = omega arith
positive cause.Expected = omega arith
positive cause.Number = omega arith
positive cause.LongName = omega arith
positive cause.Duplicate = omega arith
positive cause.Unknown = omega arith
positive cause.EndName = omega arith
positive cause.TooDeep = omega arith
positive cause.TooMany = omega arith
positive cause.After = omega arith

-- a fault that isn't want of memory is the first of the text
pub first_told : (text : List ℕ) (stop : Stop) (fault : TextFault) → fault ≡ told stop → Fails stop (read_text text)
    → 0 < fault.number → IsFirstFault text fault
first_told text Memory fault e h n = absurd (omega (arith, ap (λ (f : TextFault). f.number) e))
first_told text (Fault place c) fault e h n = (place, c, h, e)

pub memory_told : (stop : Stop) (fault : TextFault) → fault ≡ told stop → fault.number ≡ 0 → (fault.line ≡ 0) × (fault.column ≡ 0)
memory_told Memory fault e n = (ap (λ (f : TextFault). f.line) e, ap (λ (f : TextFault). f.column) e)
memory_told (Fault place c) fault e n = absurd (omega (arith, positive c, ap (λ (f : TextFault). f.number) e))
