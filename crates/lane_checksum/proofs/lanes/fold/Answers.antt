-- A carry that is brought round leaves the sum as it is.
use Rattle.std.proofs.Common.{◌+◌, ◌*◌, ◌/◌, ◌%◌, ◌≡◌, ap, sym, ◌∙◌, arith}
use Rattle.lane_checksum.specs.PlainSum.{reduced}
use Rattle.lane_checksum.proofs.Reduced.{reduced-word, reduced_small}
use Rattle.lane_checksum.proofs.lanes.fold.Goals as goal

pub loop-total-preserved : goal.loop-total-preserved
loop-total-preserved c =
    let t = c.loop-total.total in
    let whole : t % 65536 + 65536 * (t / 65536) ≡ t = omega arith in
    sym (reduced-word (t % 65536) (t / 65536)) ∙ ap reduced whole ∙ c.loop-total.invariant

pub returns : goal.returns
returns c = sym (reduced_small c.loop-total.total (omega arith)) ∙ c.loop-total.invariant
