use Rattle.std.proofs.Common.{◌≡◌, map}
use Rattle.std.specs.List.{range_with_len}
use Rattle.replay_model.specs.World.{booted_line}
use Rattle.replay_client.proofs.machine.boot_lines.Given as goal

abbrev pub invariant-loop-cell : goal.invariant-loop-cell
invariant-loop-cell l = l.lines.items ≡ map (booted_line l.boot l.machine) (range_with_len 1 l.cell)
