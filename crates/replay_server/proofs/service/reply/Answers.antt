use Rattle.std.proofs.Common.{ℕ, List, ap}
use Rattle.replay_model.specs.Service.{replies}
use Rattle.replay_server.proofs.service.reply.Goals as goal

pub returns : goal.returns
returns c = ap (λ (bytes : List ℕ). replies c.args.total bytes) c.in_ok-from_slice.ensures.items
