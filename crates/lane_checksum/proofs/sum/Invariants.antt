use Rattle.std.proofs.Common.{◌≡◌, take}
use Rattle.lane_checksum.specs.PlainSum.{reduced}
use Rattle.lane_checksum.proofs.Chunks.{chunk_total}
use Rattle.lane_checksum.proofs.sum.Given as goal

abbrev pub invariant-loop-block : goal.invariant-loop-block
invariant-loop-block l = l.sum ≡ reduced (chunk_total (take l.block-index l.blocks))
