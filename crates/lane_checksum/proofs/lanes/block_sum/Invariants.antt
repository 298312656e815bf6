use Rattle.std.proofs.Common.{◌≡◌, ◌≤◌, ◌*◌, take, length}
use Rattle.std.specs.Simd.Lanes.{sum_l}
use Rattle.lane_checksum.specs.PlainSum.{reduced}
use Rattle.lane_checksum.proofs.Chunks.{chunk_total}
use Rattle.lane_checksum.proofs.lanes.block_sum.Given as goal

abbrev pub invariant-loop-step : goal.invariant-loop-step
invariant-loop-step l = record {
  so_far : reduced (256 * sum_l l.lanes) ≡ reduced (chunk_total (take l.step-index l.steps));
  eight : length l.lanes ≡ 8;
  small : sum_l l.lanes ≤ 8 * 4294967295 * l.step-index;
}
