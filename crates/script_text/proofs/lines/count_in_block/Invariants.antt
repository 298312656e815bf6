use Rattle.std.proofs.Common.{◌≡◌, take, count_by}
use Rattle.replay_model.specs.Script.{is_newline}
use Rattle.script_text.proofs.lines.count_in_block.Given as goal

abbrev pub invariant-loop-byte : goal.invariant-loop-byte
invariant-loop-byte l = l.newlines ≡ count_by is_newline (take l.byte-index l.block)
