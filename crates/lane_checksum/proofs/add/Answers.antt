-- The end-around carry is the round that a total of two sums may take.
use Rattle.std.proofs.Common.{◌+◌, ap, sym, ◌∙◌, arith}
use Rattle.std.proofs.lemmas.Bool.Decides.{nat_tests}
use Rattle.lane_checksum.specs.PlainSum.{csum, reduced}
use Rattle.lane_checksum.proofs.Sums.{csum-append}
use Rattle.lane_checksum.proofs.add.Goals as goal

pub returns-clause-total : goal.returns-clause-total
unfolding reduced
returns-clause-total c = let carried = c.overflowing_add-total.ensures.overflow in grind (arith, nat_tests)

pub returns-clause-joins : goal.returns-clause-joins
returns-clause-joins c = λ x y even a b.
    returns-clause-total c
    ∙ ap (λ s. reduced (s + c.args.b)) (sym a)
    ∙ ap (λ s. reduced (csum x + s)) (sym b)
    ∙ sym (csum-append x y even)
