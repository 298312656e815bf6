use Rattle.std.proofs.Common.{◌≡◌, ℕ, ◌-◌, ◌≤◌, List, Option, length, set, sym, subst, refl, ◌∙◌, arith, Some, None, ap}
use Rattle.std.proofs.lemmas.Result.{on_ok_weaker}
use Rattle.replay_model.specs.Record.{Impossible, Skips}
use Rattle.replay_model.specs.World.{Client, numbered, World}
use Rattle.replay_model.specs.Step.{Outcome, impossible, with_client, skip_by, skip_event}
use Rattle.replay_client.specs.declared.machine.Skipped.{Skipped}
use Rattle.replay_client.specs.Client as client
use Rattle.replay_client.specs.Client.{SkipsAs}
use Rattle.replay_lines.specs.Page.{Page}
use Rattle.replay_world.specs.Stored.{Stored}
use Rattle.replay_world.specs.Stands.{Stands, IsClient}
use Rattle.replay_world.specs.contracts.world.World.{the_view}
use Rattle.replay_world.proofs.Numbered.{numbered-none}
use Rattle.replay_world.proofs.Standing.{plays_one, plays_as, stands-clients, client_of, clients_with, clients_same}
use Rattle.replay_world.proofs.Zips.{zip-length}
use Rattle.replay_world.proofs.Rising.{keeps_all, rose_none}
use Rattle.replay_world.proofs.world.World.skip.Goals as goal

skip_event-none : (w : World) (m p : ℕ) (o : Option Client) (by : ℕ) → o ≡ None → skip_event w m p o by ≡ impossible w
unfolding skip_event
skip_event-none w m p o by h = ap (λ (x : Option Client). skip_event w m p x by) h

skip_event-some : (w : World) (m p : ℕ) (o : Option Client) (c : Client) (by : ℕ) → o ≡ Some c → skip_event w m p o by ≡ skip_by w m p c (numbered 1 c.lines p) by
unfolding skip_event
skip_event-some w m p o c by h = ap (λ (x : Option Client). skip_event w m p x by) h

-- a process of a client has passed over numbers
skipped_in : (w : World) (machine process by : ℕ) (c old now : Client) (skipped : Option Skipped) → IsClient old c
    → ((v : World) (m : ℕ) → SkipsAs v m now skipped (skip_by v m process old (numbered 1 old.lines process) by))
    → SkipsAs w machine now skipped (skip_by w machine process c (numbered 1 c.lines process) by)
skipped_in w machine process by c old now skipped is told =
    let P : Client → Type 0 = λ x. SkipsAs w machine now skipped (skip_by w machine process x (numbered 1 x.lines process) by) in
    subst P is (told w machine)

pub returns-then-place-len-clause-played : goal.returns-then-place-len-clause-played
returns-then-place-len-clause-played c w h =
    let s : Stored = the_view c.self.inside in
    let before : Page = c.args.out.now in
    let kept : Stands s w = subst (λ (x : Stored). Stands x w) (sym c.self.view_is) h in
    let after : Page = c.put_impossible.new.out in
    let m : ℕ = c.args.machine in
    let same = zip-length IsClient s.clients w.clients kept.clients in
    let past : length w.clients ≤ m - 2 = omega (arith, c.self.inside.clients.ok.0) in
    rw (← c.self.view_is)
    (on_ok_weaker c.put_impossible.result (λ e. plays_as before after s w.records _ (impossible w)
    (skip_event-none w m c.args.process _ c.args.by (numbered-none 2 w.clients m (omega arith) past))
    (plays_one before after s w w.records Impossible e kept)) c.put_impossible.ensures)

pub returns-in_default-clause-played : goal.returns-in_default-clause-played
returns-in_default-clause-played c w h =
    let s : Stored = the_view c.self.inside in
    let before : Page = c.args.out.now in
    let kept : Stands s w = subst (λ (x : Stored). Stands x w) (sym c.self.view_is) h in
    let after : Page = c.put_impossible-in_default.new.out in
    let m : ℕ = c.args.machine in
    let place : ℕ = c.from-place.result in
    let old : Client = c.index_mut.result.now in
    let now : Client = c.skip.new.self in
    let found = client_of s.clients w.clients m place old kept.clients (omega arith) c.from-place.ensures (omega (arith, c.self.inside.clients.ok.0)) c.index_mut.ensures.value in
    let by : Outcome = skip_by w m c.args.process found.client (numbered 1 found.client.lines c.args.process) c.args.by in
    let did : by ≡ impossible w = subst (λ (d : Option Skipped). client.SkipsAs w m now d by) c.in_default.is
    (skipped_in w m c.args.process c.args.by found.client old now c.skip.result found.is_client c.skip.ensures.outcome) in
    let same : now ≡ found.client = c.skip.ensures.impossible c.in_default.is ∙ found.is_client in
    let stands = stands-clients s w (set s.clients place now) w.clients kept (clients_same s.clients w.clients place now found.client now kept.clients refl same found.at_place) in
    on_ok_weaker c.put_impossible-in_default.result (λ e. plays_as before after (record s { clients = set s.clients place now }) w.records _ (impossible w)
    (skip_event-some w m c.args.process _ found.client c.args.by found.there ∙ did)
    (plays_one before after (record s { clients = set s.clients place now }) w w.records Impossible e stands)) c.put_impossible-in_default.ensures

pub returns-clause-played : goal.returns-clause-played
returns-clause-played c w h =
    let s : Stored = the_view c.self.inside in
    let before : Page = c.args.out.now in
    let kept : Stands s w = subst (λ (x : Stored). Stands x w) (sym c.self.view_is) h in
    let after : Page = c.put_skipped.new.out in
    let m : ℕ = c.args.machine in
    let place : ℕ = c.from-place.result in
    let old : Client = c.index_mut.result.now in
    let now : Client = c.skip.new.self in
    let x : Skipped = c.in-Some.skipped in
    let found = client_of s.clients w.clients m place old kept.clients (omega arith) c.from-place.ensures (omega (arith, c.self.inside.clients.ok.0)) c.index_mut.ensures.value in
    let by : Outcome = skip_by w m c.args.process found.client (numbered 1 found.client.lines c.args.process) c.args.by in
    let did = subst (λ (d : Option Skipped). client.SkipsAs w m now d by) c.in-Some.is
    (skipped_in w m c.args.process c.args.by found.client old now c.skip.result found.is_client c.skip.ensures.outcome) in
    let stands = stands-clients s w (set s.clients place now) (set w.clients (m - 2) now) kept (clients_with s.clients w.clients m place now now kept.clients refl c.from-place.ensures) in
    on_ok_weaker c.put_skipped.result (λ e. plays_as before after (record s { clients = set s.clients place now }) w.records _ _
    (skip_event-some w m c.args.process _ found.client c.args.by found.there ∙ did)
    (plays_one before after (record s { clients = set s.clients place now }) (with_client w m now) w.records (Skips x.activity x.next) e stands)) c.put_skipped.ensures

pub returns-then-place-len-clause-keeps : goal.returns-then-place-len-clause-keeps
returns-then-place-len-clause-keeps c = keeps_all c.put_impossible.result c.args.self.now c.args.self.now refl

pub returns-then-place-len-clause-few : goal.returns-then-place-len-clause-few
returns-then-place-len-clause-few c = rose_none c.put_impossible.result 1 c.args.self.now c.args.self.now refl

pub returns-in_default-clause-keeps : goal.returns-in_default-clause-keeps
returns-in_default-clause-keeps c = keeps_all c.put_impossible-in_default.result (the_view c.self.inside) c.args.self.now c.self.view_is

pub returns-in_default-clause-few : goal.returns-in_default-clause-few
returns-in_default-clause-few c = rose_none c.put_impossible-in_default.result 1 (the_view c.self.inside) c.args.self.now c.self.view_is

pub returns-clause-keeps : goal.returns-clause-keeps
returns-clause-keeps c = keeps_all c.put_skipped.result (the_view c.self.inside) c.args.self.now c.self.view_is

pub returns-clause-few : goal.returns-clause-few
returns-clause-few c = rose_none c.put_skipped.result 1 (the_view c.self.inside) c.args.self.now c.self.view_is
