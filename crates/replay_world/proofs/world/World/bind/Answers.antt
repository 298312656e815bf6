use Rattle.std.proofs.Common.{◌≡◌, ℕ, ◌-◌, ◌≤◌, List, ◌++◌, length, set, ap, sym, subst, refl, ◌∙◌, arith, Option, Some, None}
use Rattle.std.proofs.lemmas.Result.{on_ok_weaker}
use Rattle.call_rules.specs.Packet.{Call, call_of}
use Rattle.replay_model.specs.Record.{Records, Impossible, TooFast, Binds, recorded}
use Rattle.replay_model.specs.Lines.{lines_of_act}
use Rattle.replay_model.specs.World.{World, Client, numbered}
use Rattle.replay_model.specs.Step.{Outcome, bind_by, impossible, behind, with_client, bind_event}
use Rattle.replay_client.specs.declared.machine.Called.{Called}
use Rattle.replay_client.specs.declared.machine.Called.TheVariants as called
use Rattle.replay_client.specs.Client.{BindsAs, KeepsImpossible, BeginsAs}
use Rattle.replay_lines.specs.Page.{Page, written}
use Rattle.replay_world.specs.Stored.{Stored}
use Rattle.replay_world.specs.Stands.{Stands, IsClient}
use Rattle.replay_world.specs.contracts.world.World.{the_view}
use Rattle.replay_world.proofs.Numbered.{numbered-none}
use Rattle.replay_world.proofs.Standing.{plays_one, plays_behind, plays_as, stands-clients, stands-beside, client_of, clients_with, clients_same}
use Rattle.replay_world.proofs.Zips.{zip-length}
use Rattle.replay_world.proofs.Rising.{keeps_all, keeps_since, rose_none, rose_since}
use Rattle.replay_world.proofs.world.World.bind.Goals as goal

bind_event-none : (w : World) (m p : ℕ) (o : Option Client) (name : List ℕ) → o ≡ None → bind_event w m p o name ≡ impossible w
unfolding bind_event
bind_event-none w m p o name h = ap (λ (x : Option Client). bind_event w m p x name) h

bind_event-some : (w : World) (m p : ℕ) (o : Option Client) (c : Client) (name : List ℕ) → o ≡ Some c → bind_event w m p o name ≡ bind_by w m p c (numbered 1 c.lines p) name
unfolding bind_event
bind_event-some w m p o c name h = ap (λ (x : Option Client). bind_event w m p x name) h

-- a client has been asked for a bind
bound_in : (w : World) (second machine process : ℕ) (c old now : Client) (name : List ℕ) (called : Called) → second ≡ w.second → IsClient old c
    → ((v : World) → BindsAs (record v { second = second }) machine now called (bind_by (record v { second = second }) machine process old (numbered 1 old.lines process) name))
    → BindsAs w machine now called (bind_by w machine process c (numbered 1 c.lines process) name)
bound_in w second machine process c old now name called at is told =
    let T : ℕ → Type 0 = λ n. BindsAs (record w { second = n }) machine now called (bind_by (record w { second = n }) machine process old (numbered 1 old.lines process) name) in
    let P : Client → Type 0 = λ x. BindsAs w machine now called (bind_by w machine process x (numbered 1 x.lines process) name) in
    subst P is (subst T at (told w))

pub returns-then-place-len-clause-played : goal.returns-then-place-len-clause-played
returns-then-place-len-clause-played c w h =
    let s : Stored = the_view c.self.inside in
    let before : Page = c.args.out.now in
    let after : Page = c.put_impossible.new.out in
    let m : ℕ = c.args.machine in
    let kept : Stands s w = subst (λ (x : Stored). Stands x w) (sym c.self.view_is) h in
    let same = zip-length IsClient s.clients w.clients kept.clients in
    let past : length w.clients ≤ m - 2 = omega (arith, c.self.inside.clients.ok.0) in
    rw (← c.self.view_is)
    (on_ok_weaker c.put_impossible.result (λ e. plays_as before after s w.records _ (impossible w)
    (bind_event-none w m c.args.process _ c.args.name.now (numbered-none 2 w.clients m (omega arith) past))
    (plays_one before after s w w.records Impossible e kept)) c.put_impossible.ensures)

pub returns-in-Impossible-clause-played : goal.returns-in-Impossible-clause-played
returns-in-Impossible-clause-played c w h =
    let s : Stored = the_view c.self.inside in
    let before : Page = c.args.out.now in
    let after : Page = c.put_impossible-in-Impossible.new.out in
    let m : ℕ = c.args.machine in
    let place : ℕ = c.from-place.result in
    let name : List ℕ = c.args.name.now in
    let client : Client = c.index_mut-client.result.now in
    let now : Client = c.bind.new.self in
    let kept : Stands s w = subst (λ (x : Stored). Stands x w) (sym c.self.view_is) h in
    let found = client_of s.clients w.clients m place client kept.clients (omega arith) c.from-place.ensures (omega (arith, c.self.inside.clients.ok.0)) c.index_mut-client.ensures.value in
    let did' = bound_in w s.second m c.args.process found.client client now name c.in_ok-bind.field-0 kept.second found.is_client c.in_ok-bind.ensures.outcome in
    let by : Outcome = bind_by w m c.args.process found.client (numbered 1 found.client.lines c.args.process) name in
    let did : by ≡ impossible w = subst (λ (d : Called). BindsAs w m now d by) c.in-Impossible.is did' in
    let same : now ≡ found.client = subst (λ (d : Called). KeepsImpossible d client now) c.in-Impossible.is c.in_ok-bind.ensures.impossible ∙ found.is_client in
    let stands = stands-clients s w (set s.clients place now) w.clients kept (clients_same s.clients w.clients place now found.client now kept.clients refl same found.at_place) in
    on_ok_weaker c.put_impossible-in-Impossible.result (λ e. plays_as before after (record s { clients = set s.clients place now }) w.records _ (impossible w)
    (bind_event-some w m c.args.process _ found.client name found.there ∙ did)
    (plays_one before after (record s { clients = set s.clients place now }) w w.records Impossible e stands)) c.put_impossible-in-Impossible.ensures

pub returns-in-TooFast-clause-played : goal.returns-in-TooFast-clause-played
returns-in-TooFast-clause-played c w h =
    let s : Stored = the_view c.self.inside in
    let before : Page = c.args.out.now in
    let after : Page = c.put_too_fast.new.out in
    let m : ℕ = c.args.machine in
    let n : ℕ = c.in-TooFast.number in
    let place : ℕ = c.from-place.result in
    let name : List ℕ = c.args.name.now in
    let client : Client = c.index_mut-client.result.now in
    let now : Client = c.bind.new.self in
    let kept : Stands s w = subst (λ (x : Stored). Stands x w) (sym c.self.view_is) h in
    let found = client_of s.clients w.clients m place client kept.clients (omega arith) c.from-place.ensures (omega (arith, c.self.inside.clients.ok.0)) c.index_mut-client.ensures.value in
    let did' = bound_in w s.second m c.args.process found.client client now name c.in_ok-bind.field-0 kept.second found.is_client c.in_ok-bind.ensures.outcome in
    let by : Outcome = bind_by w m c.args.process found.client (numbered 1 found.client.lines c.args.process) name in
    let did : BindsAs w m now (called.TooFast n) by = subst (λ (d : Called). BindsAs w m now d by) c.in-TooFast.is did' in
    let stands = stands-clients s w (set s.clients place now) (set w.clients (m - 2) now) kept (clients_with s.clients w.clients m place now now kept.clients refl c.from-place.ensures) in
    on_ok_weaker c.put_too_fast.result (λ e. plays_as before after (record s { clients = set s.clients place now }) w.records _ _
    (bind_event-some w m c.args.process _ found.client name found.there ∙ did.1)
    (plays_one before after (record s { clients = set s.clients place now }) (with_client w m now) w.records (TooFast did.0 n w.second)
    (e ∙ ap (λ (x : ℕ). written before (lines_of_act (TooFast did.0 n x))) kept.second) stands)) (c.put_too_fast.ensures did.0)

pub returns-in_ok-put_bind-in-Starts-clause-played : goal.returns-in_ok-put_bind-in-Starts-clause-played
returns-in_ok-put_bind-in-Starts-clause-played c w h =
    let s : Stored = the_view c.self.inside in
    let before : Page = c.args.out.now in
    let middle : Page = c.put_bind.new.out in
    let after : Page = c.tell.new.out in
    let m : ℕ = c.args.machine in
    let place : ℕ = c.from-place.result in
    let name : List ℕ = c.args.name.now in
    let client : Client = c.index_mut-client.result.now in
    let now : Client = c.bind.new.self in
    let kept : Stands s w = subst (λ (x : Stored). Stands x w) (sym c.self.view_is) h in
    let found = client_of s.clients w.clients m place client kept.clients (omega arith) c.from-place.ensures (omega (arith, c.self.inside.clients.ok.0)) c.index_mut-client.ensures.value in
    let did' = bound_in w s.second m c.args.process found.client client now name c.in_ok-bind.field-0 kept.second found.is_client c.in_ok-bind.ensures.outcome in
    let by : Outcome = bind_by w m c.args.process found.client (numbered 1 found.client.lines c.args.process) name in
    let w' : World = with_client w m now in
    let did : BeginsAs w' c.in-Starts.told by = subst (λ (d : Called). BindsAs w m now d by) c.in-Starts.is did' in
    let s' : Stored = record s { clients = set s.clients place now } in
    let stands : Stands s' w' = stands-clients s w (set s.clients place now) (set w.clients (m - 2) now) kept (clients_with s.clients w.clients m place now now kept.clients refl c.from-place.ensures) in
    let begun : Call = call_of c.in-Starts.told.call in
    let r : Records = recorded w.records (Binds begun) in
    on_ok_weaker c.tell.result (λ p. plays_as before after c.tell.new.self w.records _ (behind (Binds begun) did.first)
    (bind_event-some w m c.args.process _ found.client name found.there ∙ did.outcome)
    (plays_behind before middle after c.tell.new.self w.records (Binds begun) did.first c.in_ok-put_bind-in-Starts.ensures p))
    (c.tell.ensures.played w' r did.first did.tells (stands-beside s' w' r refl refl refl stands))

pub returns-then-place-len-clause-keeps : goal.returns-then-place-len-clause-keeps
returns-then-place-len-clause-keeps c = keeps_all c.put_impossible.result c.args.self.now c.args.self.now refl

pub returns-then-place-len-clause-few : goal.returns-then-place-len-clause-few
returns-then-place-len-clause-few c = rose_none c.put_impossible.result 1 c.args.self.now c.args.self.now refl

pub returns-in-Impossible-clause-keeps : goal.returns-in-Impossible-clause-keeps
returns-in-Impossible-clause-keeps c = keeps_all c.put_impossible-in-Impossible.result (the_view c.self.inside) c.args.self.now c.self.view_is

pub returns-in-Impossible-clause-few : goal.returns-in-Impossible-clause-few
returns-in-Impossible-clause-few c = rose_none c.put_impossible-in-Impossible.result 1 (the_view c.self.inside) c.args.self.now c.self.view_is

pub returns-in-TooFast-clause-keeps : goal.returns-in-TooFast-clause-keeps
returns-in-TooFast-clause-keeps c = keeps_all c.put_too_fast.result (the_view c.self.inside) c.args.self.now c.self.view_is

pub returns-in-TooFast-clause-few : goal.returns-in-TooFast-clause-few
returns-in-TooFast-clause-few c = rose_none c.put_too_fast.result 1 (the_view c.self.inside) c.args.self.now c.self.view_is

pub returns-in_ok-put_bind-in-Starts-clause-keeps : goal.returns-in_ok-put_bind-in-Starts-clause-keeps
returns-in_ok-put_bind-in-Starts-clause-keeps c = keeps_since c.tell.result (the_view c.self.inside) c.args.self.now c.tell.new.self c.self.view_is c.tell.ensures.keeps

pub returns-in_ok-put_bind-in-Starts-clause-few : goal.returns-in_ok-put_bind-in-Starts-clause-few
returns-in_ok-put_bind-in-Starts-clause-few c = rose_since c.tell.result 1 (the_view c.self.inside) c.args.self.now c.tell.new.self c.self.view_is c.tell.ensures.few
