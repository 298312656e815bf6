use Rattle.std.proofs.Common.{length, ap, sym, ◌∙◌}
use Rattle.std.proofs.lemmas.Result.{IfOk-weaker}
use Rattle.call_rules.specs.Packet.{Fields, Packet}
use Rattle.call_rules.specs.Entry.{Word, word_seen, is_same_word, judge}
use Rattle.call_rules.specs.declared.worker.Unfit.TheVariants as unfit
use Rattle.replay_model.specs.World.{has_buffer}
use Rattle.replay_server.proofs.Adding.{begins_full, full_call}
use Rattle.replay_server.proofs.Rows.{exchanges_as, keeps_dropped, keeps_entry, claim_lost, claim_judged}
use Rattle.replay_server.proofs.task_rules.on_claimed.Goals as goal

pub on_judged_claim-requires : goal.on_judged_claim-requires
on_judged_claim-requires c =
    let p : Packet = c.args.carrier.now in
    let full = full_call p c.header.result.now.kind c.header.result.now.last (ap (λ (x : Fields). x.kind) c.header.ensures.fields) (ap (λ (x : Fields). x.last) c.header.ensures.fields) c.header.ensures.full in
    begins_full (word_seen c.args.seen) p.header c.judge-judged.result (length p.payload)
    (c.judge-judged.ensures ∙ ap (λ (x : Fields). judge (word_seen c.args.seen) x) c.header.ensures.fields) full

pub returns-then-not-is_same : goal.returns-then-not-is_same
returns-then-not-is_same c =
    exchanges_as c.args.carrier.now _ _ c.args.entry.now c.args.entry.now c.drops.result
    (claim_lost has_buffer c.args.carrier.now (word_seen c.args.seen) c.args.entry.now
    (ap (λ (x : Word). is_same_word x (word_seen c.args.seen)) (sym c.seen.ensures) ∙ (sym c.is_same.ensures ∙ c.if-not-is_same.true)))
    (keeps_entry c.args.carrier.now _ c.args.entry.now c.drops.result
    (keeps_dropped c.args.carrier.now unfit.Lost c.drops.result (c.drops.ensures.worker c.args.carrier.now) c.drops.ensures.did c.drops.ensures.adds))

pub returns : goal.returns
returns c =
    IfOk-weaker _ _ _
    (λ step h.
    exchanges_as c.args.carrier.now _ _ c.args.entry.now c.on_judged_claim.new.entry step
    (claim_judged has_buffer c.args.carrier.now (word_seen c.args.seen) c.args.entry.now _
    (ap (λ (x : Word). is_same_word x (word_seen c.args.seen)) (sym c.seen.ensures) ∙ (sym c.is_same.ensures ∙ c.if-not-is_same.false))
    (c.judge-judged.ensures ∙ ap (λ (x : Fields). judge (word_seen c.args.seen) x) c.header.ensures.fields))
    h)
    c.on_judged_claim.ensures
