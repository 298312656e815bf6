-- The bytes so far are those of the text.
use Rattle.std.proofs.Common.{◌≡◌, take, length}
use Rattle.replay_model.specs.Service.{text_of}
use Rattle.replay_packets.proofs.texts.period.Given as goal

abbrev pub invariant-loop-place : goal.invariant-loop-place
invariant-loop-place l = (length l.bytes ≡ 251) × (take l.place l.bytes ≡ text_of l.place)
