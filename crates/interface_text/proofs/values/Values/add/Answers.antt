use Rattle.std.proofs.Common.{arith}
use Rattle.interface_text.proofs.values.Values.add.Goals as goal

pub invariant_of-self : goal.invariant_of-self
invariant_of-self c = record { few = omega (arith, c.add.ensures.grows, c.len.ensures, c.if-len-ge-MAX_VALUES.false) }
