use Rattle.std.proofs.Common.{◌≡◌, ◌≤◌, ◌+◌, length, count_by}
use Rattle.replay_model.specs.Script.{is_newline}
use Rattle.script_text.proofs.lines.count_newlines.Given as goal

-- the newlines so far and those of the rest are those of the text
abbrev pub invariant-loop-rest : goal.invariant-loop-rest
invariant-loop-rest l = record {
  so_far : l.newlines + count_by is_newline l.rest ≡ count_by is_newline l.fn.text;
  few : l.newlines + length l.rest ≤ length l.fn.text;
}

abbrev pub decreases-loop-rest : goal.decreases-loop-rest
decreases-loop-rest l = length l.rest
