use Rattle.std.proofs.Common.{ap}
use Rattle.call_rules.specs.Packet.{Fields}
use Rattle.call_rules.specs.Worker.{answer_header}
use Rattle.replay_server.proofs.answers.answer_header.Goals as goal

pub returns : goal.returns
returns c =
    ap (λ (x : Fields). answer_header (record c.args.packet.now { header = x }) c.args.kind c.args.last c.args.fragment) c.header.ensures.fields
