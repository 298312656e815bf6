use Rattle.std.proofs.Common.{◌≡◌, ◌≤◌, take}
use Rattle.replay_model.specs.OpenCalls.{open_of_lines}
use Rattle.replay_client.proofs.machine.ClientMachine.open_calls.Given as goal

abbrev pub invariant-loop-line : goal.invariant-loop-line
invariant-loop-line l = (l.open ≡ open_of_lines (take l.line-index l.line-items)) × (l.open ≤ l.line-index)
