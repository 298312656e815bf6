use Rattle.std.proofs.Common.{◌≡◌, replicate}
use Rattle.call_rules.specs.Worker.{Resting}
use Rattle.replay_server.proofs.machine.boot_workers.Given as goal

abbrev pub invariant-loop-worker : goal.invariant-loop-worker
invariant-loop-worker l = l.workers.items ≡ replicate l._worker Resting
