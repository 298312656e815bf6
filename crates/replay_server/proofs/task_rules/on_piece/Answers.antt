use Rattle.std.proofs.Common.{ℕ, ◌<◌, List, ◌++◌, length, take, inl, inr, ap, sym, subst, ◌∙◌, arith}
use Rattle.std.proofs.lemmas.Bool.{not-true}
use Rattle.std.specs.Vec.{with_items}
use Rattle.std.proofs.lemmas.List.{with_items_is}
use Rattle.std.proofs.lemmas.Result.{IfOk-weaker}
use Rattle.fragments.specs.declared.gathered.Gathered.{Gathered}
use Rattle.call_rules.specs.Packet.{Fields}
use Rattle.call_rules.specs.Entry.{Entry, Gather}
use Rattle.call_rules.specs.declared.worker.Did.TheVariants as did
use Rattle.call_rules.specs.declared.worker.Unfit.TheVariants as unfit
use Rattle.call_rules.specs.Worker as rules
use Rattle.replay_server.specs.declared.step.Step.{Step}
use Rattle.replay_server.specs.Rules.{Exchanges}
use Rattle.replay_server.proofs.Adding.{head_added, head_kept}
use Rattle.replay_server.proofs.Rows.{exchanges_as, exchanges_dropped, took_whole, took_more, took_again, took_skipped}
use Rattle.replay_server.proofs.task_rules.on_piece.Goals as goal

pub invariant_of-whole : goal.invariant_of-whole
invariant_of-whole c =
    let same = with_items_is c.args.pieces.text c.push.new.into (omega (arith, c.push.auto.into, c.as_mut_slice.ensures.len)) in
    let whole = (c.push.ensures.whole c.in-Whole.len).0 c.in-Whole.is in
    record {
      room = ap length same ∙ omega (arith, c.push.auto.into, c.as_mut_slice.ensures.len, c.args.pieces.room);
      short = omega (arith, whole.2, c.args.pieces.full, whole.0, c.header.ensures.fragment, c.payload.ensures.short);
    }

pub returns-in-Whole : goal.returns-in-Whole
returns-in-Whole c old =
    let p = c.args.carrier.now in
    let same = with_items_is c.args.pieces.text c.push.new.into (omega (arith, c.push.auto.into, c.as_mut_slice.ensures.len)) in
    let whole = (c.push.ensures.whole c.in-Whole.len).0 c.in-Whole.is in
    let head = head_added c.args.pieces.gathered.len c.in-Whole.len c.as_mut_slice.result.now _ c.payload.result.now (same ∙ c.push.ensures.added whole.0) whole.2 (omega (arith, c.as_mut_slice.ensures.len, c.args.pieces.room)) in
    exchanges_as p _ _ old c.admits.new.entry c.admits.result
    (took_whole p c.args.number.value _ _ c.args.pieces.gathered.next
    (sym (ap (λ (x : Fields). x.fragment) c.header.ensures.fields) ∙ whole.0) (sym (ap (λ (x : Fields). x.last) c.header.ensures.fields) ∙ whole.1)
    (head ∙ (ap (λ (xs : List ℕ). take c.args.pieces.gathered.len xs ++ c.payload.result.now) c.as_mut_slice.ensures.value ∙ ap (λ (xs : List ℕ). take c.args.pieces.gathered.len c.args.pieces.text.items ++ xs) c.payload.ensures.data)))
    (c.admits.ensures old)

pub returns-in-More : goal.returns-in-More
returns-in-More c =
    let p = c.args.carrier.now in
    let g : Gathered = c.args.pieces.gathered in
    let xs : List ℕ = c.args.pieces.text.items in
    let same = with_items_is c.args.pieces.text c.push.new.into (omega (arith, c.push.auto.into, c.as_mut_slice.ensures.len)) in
    let fragment = ap (λ (x : Fields). x.fragment) c.header.ensures.fields in
    let P : Step → Type 0 = λ step. (old : Entry) → Exchanges p (rules.exchanges_and_sends (Gather c.args.number.value (take c.push.new.self.len (with_items c.args.pieces.text c.push.new.into).items) c.push.new.self.next) did.Rests (rules.ack_packet p)) old c.rests_gathering.new.entry step in
    IfOk-weaker _ P _
    (λ step h old.
    exchanges_as p _ _ old c.rests_gathering.new.entry step
    (elim c.in-More.is [
      | inl more ↦
          let due = c.push.ensures.more.0 more in
          let counted = c.push.ensures.counted due.0 in
          took_more p c.args.number.value _ _ g.next _ (sym fragment ∙ due.0) (sym (ap (λ (x : Fields). x.last) c.header.ensures.fields) ∙ not-true _ due.1)
          (head_added g.len c.push.new.self.len c.as_mut_slice.result.now _ c.payload.result.now (same ∙ c.push.ensures.added due.0) (ap (λ (x : Gathered). x.len) counted) (omega (arith, c.as_mut_slice.ensures.len, c.args.pieces.room))
          ∙ (ap (λ (ys : List ℕ). take g.len ys ++ c.payload.result.now) c.as_mut_slice.ensures.value ∙ ap (λ (ys : List ℕ). take g.len xs ++ ys) c.payload.ensures.data))
          (ap (λ (x : Gathered). x.next) counted)
      | inr again ↦
          let past = c.push.ensures.again.0 again in
          let still = c.push.ensures.unchanged (λ e. absurd (omega (arith, e, past))) in
          took_again p c.args.number.value _ _ g.next _ (subst (λ (k : ℕ). k < g.next) fragment past)
          (head_kept g c.push.new.self c.args.pieces.text.items _ still.0 (same ∙ (still.1 ∙ c.as_mut_slice.ensures.value)))
          (ap (λ (x : Gathered). x.next) still.0)
    ])
    (h old))
    c.rests_gathering.ensures

pub returns-in-Skipped : goal.returns-in-Skipped
returns-in-Skipped c old =
    let p = c.args.carrier.now in
    let g : Gathered = c.args.pieces.gathered in
    let same = with_items_is c.args.pieces.text c.push.new.into (omega (arith, c.push.auto.into, c.as_mut_slice.ensures.len)) in
    let fragment = ap (λ (x : Fields). x.fragment) c.header.ensures.fields in
    let ahead = c.push.ensures.skipped.0 c.in-Skipped.is in
    let still = c.push.ensures.unchanged (λ e. absurd (omega (arith, e, ahead))) in
    exchanges_as p _ _ old c.new.result c.drops.result
    (took_skipped p c.args.number.value _ _ g.next _ (subst (λ (k : ℕ). g.next < k) fragment ahead)
    (head_kept g c.push.new.self c.args.pieces.text.items _ still.0 (same ∙ (still.1 ∙ c.as_mut_slice.ensures.value)))
    (ap (λ (x : Gathered). x.next) still.0))
    (exchanges_dropped p unfit.Skipped _ old c.new.result c.drops.result c.new.ensures (c.drops.ensures.worker p) c.drops.ensures.did c.drops.ensures.adds)
