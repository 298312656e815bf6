use Rattle.std.proofs.Common.{rules, arith, ◌+◌}
use Rattle.std.proofs.lemmas.Grind.{get_or_default_zero}
use Rattle.ff_io.proofs.calls.lists_next.Goals as goal

-- no number of the list is past the last count
pub returns-in-None : goal.returns-in-None
returns-in-None c = (
  λ never. absurd (search rules),
  λ (k, below, listed).
      let at_zero = get_or_default_zero c.args.fail.now k (c.args.made + 1) below in
      absurd (omega (arith, c.type_inv.fail k, at_zero, listed, c.in-None.ensures)),
)
