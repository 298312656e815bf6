use Rattle.std.proofs.Common.{rules, arith}
use Rattle.ff_io.proofs.ToldLemmas.{Appended-take}
use Rattle.ff_io.proofs.writing.write_all.Goals as goal

pub loop-at-preserved : goal.loop-at-preserved
loop-at-preserved g c = record {
  within = search rules;
  written = Appended-take _ _ _ _ _ _ c.loop-at.invariant.written c.in_ok-at.ensures.appended;
  still = omega (arith, c.loop-at.invariant.still, c.in_ok-at.ensures.still);
}
