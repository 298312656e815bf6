use Rattle.std.proofs.Common.{◌≡◌, take}
use Rattle.lane_checksum.specs.PlainSum.{reduced}
use Rattle.lane_checksum.proofs.Chunks.{chunk_total}
use Rattle.lane_checksum.proofs.lanes.plain_sum.Given as goal

abbrev pub invariant-loop-word : goal.invariant-loop-word
invariant-loop-word l = l.sum ≡ reduced (chunk_total (take l.word-index l.words))
