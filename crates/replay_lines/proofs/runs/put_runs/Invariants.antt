use Rattle.std.proofs.Common.{◌≡◌, take}
use Rattle.replay_model.specs.Lines.{run_lines}
use Rattle.replay_lines.specs.Page.{written}
use Rattle.replay_lines.proofs.runs.put_runs.Given as goal

abbrev pub invariant-loop-i : goal.invariant-loop-i
invariant-loop-i l = l.out ≡ written l.fn.out (run_lines 1 (take l.i l.runs))
