-- The checks stand in the order of their faults' numbers.
use Rattle.std.proofs.Common.{◌≡◌, ◌+◌, ◌-◌, ℕ, List, Some, map, refl}
use Rattle.std.specs.Prelude.{slice_get}
use Rattle.udp_frames.specs.Reading.{checks}
use Rattle.udp_frames.specs.contracts.fault.FrameFault.{the_type}
use Rattle.udp_frames.specs.declared.fault.FrameFault.{FrameFault}
use Rattle.udp_frames.specs.declared.fault.FrameFault.TheVariants as fault
use denote.Enum.Declared.{tag_of}
use Rattle.udp_frames.proofs.fault.FrameFault.number.Goals as goal

in_order : (f : FrameFault) (bytes : List ℕ) (me : ℕ)
    → slice_get (map (λ check. check.0) (checks bytes me)) (tag_of the_type f + 1 - 1) ≡ Some f
in_order fault.Short bytes me = refl
in_order fault.NotForUs bytes me = refl
in_order fault.NotIp bytes me = refl
in_order fault.Version bytes me = refl
in_order fault.Options bytes me = refl
in_order fault.IpLength bytes me = refl
in_order fault.IpFragment bytes me = refl
in_order fault.NotUdp bytes me = refl
in_order fault.IpChecksum bytes me = refl
in_order fault.Address bytes me = refl
in_order fault.Port bytes me = refl
in_order fault.UdpLength bytes me = refl
in_order fault.NoChecksum bytes me = refl
in_order fault.UdpChecksum bytes me = refl

pub returns-clause-place : goal.returns-clause-place
returns-clause-place c = in_order c.args.self
