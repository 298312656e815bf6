use Rattle.std.proofs.Common.{◌≡◌, replicate}
use Rattle.call_rules.specs.Entry.{Empty}
use Rattle.replay_server.proofs.machine.boot_entries.Given as goal

abbrev pub invariant-loop-entry : goal.invariant-loop-entry
invariant-loop-entry l = l.entries.items ≡ replicate l._entry Empty
