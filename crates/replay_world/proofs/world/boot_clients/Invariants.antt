use Rattle.std.proofs.Common.{map}
use Rattle.std.specs.List.{range_with_len}
use Rattle.replay_model.specs.World.{booted_client}
use Rattle.replay_world.specs.Stands.{AreClients}
use Rattle.replay_world.proofs.world.boot_clients.Given as goal

abbrev pub invariant-loop-place : goal.invariant-loop-place
invariant-loop-place l = AreClients l.clients.items (map (booted_client 1) (range_with_len 2 l.place))
