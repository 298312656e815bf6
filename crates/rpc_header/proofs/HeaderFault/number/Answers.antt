-- The faults stand in the order of their numbers.
use Rattle.std.proofs.Common.{◌≡◌, ◌+◌, ◌-◌, Some, refl}
use Rattle.std.specs.Prelude.{slice_get}
use Rattle.rpc_header.specs.Reading.{faults}
use Rattle.rpc_header.specs.contracts.HeaderFault.{the_type}
use Rattle.rpc_header.specs.declared.HeaderFault.{HeaderFault}
use Rattle.rpc_header.specs.declared.HeaderFault.TheVariants as fault
use denote.Enum.Declared.{tag_of}
use Rattle.rpc_header.proofs.HeaderFault.number.Goals as goal

in_order : (f : HeaderFault) → slice_get faults (tag_of the_type f + 1 - 1) ≡ Some f
in_order fault.Short = refl
in_order fault.Version = refl
in_order fault.Kind = refl
in_order fault.Flags = refl
in_order fault.Reason = refl
in_order fault.Length = refl
in_order fault.Reserved = refl
in_order fault.ShortFragment = refl
in_order fault.FragmentNumber = refl

pub returns-clause-place : goal.returns-clause-place
returns-clause-place c = in_order c.args.self
