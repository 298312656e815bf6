use Rattle.std.proofs.Common.{ℕ, List, ap, ◌∙◌}
use Rattle.call_rules.specs.Packet.{Fields, Packet}
use Rattle.call_rules.specs.Entry.{Gather}
use Rattle.call_rules.specs.declared.worker.Did.TheVariants as did
use Rattle.replay_server.specs.Texts.{gathered_in}
use Rattle.replay_server.proofs.Rows.{exchanges_sent}
use Rattle.replay_server.proofs.task_rules.on_begin.Goals as goal

pub returns : goal.returns
returns c =
    let p : Packet = c.args.carrier.now in
    let bytes : List ℕ = gathered_in c.in_ok-pieces.pieces in
    let next : ℕ = c.in_ok-pieces.pieces.gathered.next in
    let n : ℕ = p.header.call.number in
    let entry = c.new.ensures
    ∙ (ap (λ (x : Fields). Gather x.call.number bytes next) c.header.ensures.fields
    ∙ (ap (λ (xs : List ℕ). Gather n xs next) (c.in_ok-pieces.ensures.0 ∙ c.payload.ensures.data)
    ∙ ap (λ (k : ℕ). Gather n p.payload k) c.in_ok-pieces.ensures.1)) in
    exchanges_sent p c.in_ok-answer.answer _ did.Begins _ c.args.entry.now c.new.result c.rests.result
    entry (c.rests.ensures.worker p) c.rests.ensures.did c.rests.ensures.adds c.in_ok-answer.ensures
