use Rattle.std.proofs.Common.{ap, set}
use Rattle.replay_model.specs.World.{Server}
use Rattle.replay_server.proofs.machine.ServerMachine.put_worker.Goals as goal

pub returns : goal.returns
returns c = ap (λ (s : Server). record s { workers = set s.workers c.args.place c.args.worker }) c.self.view_is
