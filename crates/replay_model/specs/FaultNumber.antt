-- The number of each fault of a text.
use Rattle.std.specs.Prelude.{ℕ}
use Rattle.replay_model.specs.declared.text_fault.TextFault.{TextFault}
use Rattle.replay_model.specs.declared.text_fault.TextFault.TheVariants as fault

abbrev pub number_of : TextFault → ℕ
number_of fault.Word = 1
number_of fault.Shape = 2
number_of fault.Number = 3
number_of fault.Range = 4
number_of fault.Name = 5
number_of fault.Late = 6
number_of fault.NoEnd = 7
number_of fault.Byte = 8
number_of fault.NotYet = 9
