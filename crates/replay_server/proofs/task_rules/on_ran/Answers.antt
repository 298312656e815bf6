use Rattle.std.proofs.Common.{ap, ◌∙◌}
use Rattle.call_rules.specs.Packet.{Fields}
use Rattle.call_rules.specs.Entry.{Done}
use Rattle.call_rules.specs.declared.worker.Did.TheVariants as did
use Rattle.call_rules.specs.Worker.{on_ran}
use Rattle.replay_server.proofs.Rows.{exchanges_sent}
use Rattle.replay_server.proofs.task_rules.on_ran.Goals as goal

pub returns : goal.returns
unfolding on_ran
returns c =
    let entry = c.new.ensures ∙ ap (λ (x : Fields). Done x.call.number c.args.answer.signal c.args.answer.reply.items) c.header.ensures.fields in
    exchanges_sent c.args.carrier.now c.in_ok-piece.piece _ did.Replies _ c.args.entry.now c.new.result c.rests.result
    entry (c.rests.ensures.worker c.args.carrier.now) c.rests.ensures.did c.rests.ensures.adds c.in_ok-piece.ensures
