use Rattle.std.proofs.Common.{refl}
use Rattle.replay_server.proofs.step.rests.Goals as goal

pub returns : goal.returns
returns c = record { worker = λ p. refl; did = refl; adds = refl }
