use Rattle.std.proofs.Common.{◌≡◌, ℕ, zero, suc, ◌<◌, List, [], ◌∷◌, length, get_or, ap, sym, subst, refl, arith, ◌∙◌, Option}
use Rattle.std.specs.Prelude.{unwrap_or, slice_get, slice_set}
use Rattle.std.proofs.lemmas.Result.{IfOk-weaker}
use Rattle.std.proofs.lemmas.Option.{unwrap_or-slice_get}
use Rattle.call_rules.specs.Packet.{Fields}
use Rattle.call_rules.specs.Entry.{Entry, Empty}
use Rattle.replay_model.specs.World.{entry_at, with_entry}
use Rattle.replay_server.proofs.Served.{exchanges_in}
use Rattle.replay_server.proofs.worker.on_entries.Goals as goal

-- an item that is there, whatever is given where there is none
get_or_any : (xs : List Entry) (i : ℕ) (d e : Entry) → i < length xs → get_or xs i d ≡ get_or xs i e
get_or_any [] i d e there = absurd (omega arith)
get_or_any (x ∷ xs) zero d e there = refl
get_or_any (x ∷ xs) (suc i) d e there = get_or_any xs i d e (omega arith)

pub returns-in-Some-clause-step : goal.returns-in-Some-clause-step
returns-in-Some-clause-step c =
    let P : List Entry → Type 0 = λ xs. (c.in-Some.place < length xs) × (entry_at xs c.header.result.now.call.activity ≡ slice_get xs c.in-Some.place) × ((e : Entry) → with_entry xs c.header.result.now.call.activity e ≡ slice_set xs c.in-Some.place e) in
    let h : P c.args.entries.now.items = subst P c.as_slice.ensures.value c.in-Some.ensures in
    IfOk-weaker _ _ _
    (λ step made.
    exchanges_in c.args.carrier.now c.args.stage c.args.total.now c.args.entries.now.items _ c.header.result.now.call.activity _ _ step
    (ap (λ (x : Fields). x.call.activity) c.header.ensures.fields)
    (c.index_mut.ensures.value
    ∙ (get_or_any c.args.entries.now.items c.in-Some.place c.index_mut.result.now Empty h.0
    ∙ sym (ap (λ (o : Option Entry). unwrap_or o Empty) h.1 ∙ unwrap_or-slice_get c.args.entries.now.items c.in-Some.place Empty)))
    (sym (h.2 c.on_task.new.entry)) made)
    c.on_task.ensures.step
