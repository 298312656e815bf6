use Rattle.replay_server.proofs.machine.ServerMachine.take.Goals as goal

pub kept-requires : goal.kept-requires
kept-requires c = c.requires
