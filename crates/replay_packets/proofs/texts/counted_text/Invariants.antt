-- The periods so far stand behind the count.
use Rattle.std.proofs.Common.{◌≡◌, ◌++◌, ◌*◌}
use Rattle.replay_model.specs.Service.{text_of}
use Rattle.replay_packets.proofs.texts.counted_text.Given as goal

abbrev pub invariant-loop-whole : goal.invariant-loop-whole
invariant-loop-whole l = l.text.items ≡ l.initial.text.items ++ text_of (251 * l._whole)
