use Rattle.std.proofs.Common.{◌*◌}
use Rattle.replay_world.specs.Stored.{AllBelow}
use Rattle.script_tests.proofs.asking.after_65_packets.Given as goal

abbrev pub invariant-loop-process : goal.invariant-loop-process
invariant-loop-process l = AllBelow (2000 * l.process) l.world
