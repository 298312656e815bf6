-- The complement is 0 only at 65535.
use Rattle.std.proofs.Common.{◌≡◌, ℕ, ◌∷◌, ◌++◌, ◌/◌, ◌%◌, subst, sym, arith}
use Rattle.std.proofs.lemmas.Bool.Decides.{nat_tests}
use Rattle.lane_checksum.specs.PlainSum.{csum, finish_of}
use Rattle.lane_checksum.proofs.Sums.{csum_filled}
use Rattle.lane_checksum.proofs.finish.Goals as goal

pub returns-then-sum-eq65535-clause-value : goal.returns-then-sum-eq65535-clause-value
unfolding finish_of
returns-then-sum-eq65535-clause-value c = grind (arith, nat_tests)

pub returns-else-sum-eq65535-clause-value : goal.returns-else-sum-eq65535-clause-value
unfolding finish_of
returns-else-sum-eq65535-clause-value c = grind (arith, nat_tests)

pub returns-then-sum-eq65535-clause-fills : goal.returns-then-sum-eq65535-clause-fills
returns-then-sum-eq65535-clause-fills c = λ front back even e.
    let filled : ℕ → Type 0 = λ field. csum (front ++ field / 256 ∷ field % 256 ∷ back) ≡ 65535 in
    subst filled (sym (returns-then-sum-eq65535-clause-value c)) (csum_filled front back c.args.sum even e)

pub returns-else-sum-eq65535-clause-fills : goal.returns-else-sum-eq65535-clause-fills
returns-else-sum-eq65535-clause-fills c = λ front back even e.
    let filled : ℕ → Type 0 = λ field. csum (front ++ field / 256 ∷ field % 256 ∷ back) ≡ 65535 in
    subst filled (sym (returns-else-sum-eq65535-clause-value c)) (csum_filled front back c.args.sum even e)
