use Rattle.std.proofs.Common.{◌≡◌, ◌≤◌, ◌+◌, true, length, vec_len}
use Rattle.std.specs.List.{All, list_all}
use Rattle.replay_model.specs.Forms.{InRange}
use Rattle.script_text.specs.Lines.{lines_of_rest}
use Rattle.script_text.proofs.LineBytes.{fine}
use Rattle.script_text.proofs.Walking.{ReadSoFar, bytes_left, parts_left}
use Rattle.script_text.proofs.script.read_events.Given as goal

abbrev pub invariant-loop-rest : goal.invariant-loop-rest
invariant-loop-rest l = record {
  so_far : ReadSoFar l.fn.text l.events.items l.line l.ended (lines_of_rest l.rest);
  few_lines : l.line + parts_left l.rest ≤ length l.fn.text + 1;
  few : vec_len l.events + bytes_left l.rest ≤ length l.fn.text;
  in_range : All InRange l.events.items;
  fine_lines : l.plain ≡ true → list_all fine (lines_of_rest l.rest) ≡ true;
}

abbrev pub decreases-loop-rest : goal.decreases-loop-rest
decreases-loop-rest l = parts_left l.rest
