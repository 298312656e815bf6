use Rattle.std.proofs.Common.{◌≡◌, ℕ, ◌-◌, ◌≤◌, List, ◌++◌, length, set, ap, sym, subst, refl, ◌∙◌, arith, Option, Some, None}
use Rattle.std.proofs.lemmas.Result.{on_ok_weaker}
use Rattle.replay_model.specs.declared.event.CallWord.{CallWord}
use Rattle.replay_model.specs.Record.{Records, Impossible, TooFast, Starts, recorded}
use Rattle.replay_model.specs.Lines.{lines_of_act}
use Rattle.replay_model.specs.World.{World, Client, numbered}
use Rattle.replay_model.specs.Step.{Outcome, call_by, impossible, behind, with_client, call_event}
use Rattle.replay_client.specs.declared.machine.Called.{Called}
use Rattle.replay_client.specs.declared.machine.Called.TheVariants as called
use Rattle.replay_client.specs.Client.{CallsAs, KeepsImpossible, StartsAs}
use Rattle.replay_lines.specs.Page.{Page, written}
use Rattle.replay_world.specs.Stored.{Stored}
use Rattle.replay_world.specs.Stands.{Stands, IsClient}
use Rattle.replay_world.specs.contracts.world.World.{the_view}
use Rattle.replay_world.proofs.Numbered.{numbered-none}
use Rattle.replay_world.proofs.Standing.{plays_one, plays_behind, plays_as, stands-clients, stands-start, client_of, clients_with, clients_same}
use Rattle.replay_world.proofs.Zips.{zip-length}
use Rattle.replay_world.proofs.Rising.{keeps_all, keeps_since, rose_none}
use Rattle.replay_world.proofs.world.World.call.Goals as goal

call_event-none : (w : World) (m p : ℕ) (o : Option Client) (asked : CallWord) → o ≡ None → call_event w m p o asked ≡ impossible w
unfolding call_event
call_event-none w m p o asked h = ap (λ (x : Option Client). call_event w m p x asked) h

call_event-some : (w : World) (m p : ℕ) (o : Option Client) (c : Client) (asked : CallWord) → o ≡ Some c → call_event w m p o asked ≡ call_by w m p c (numbered 1 c.lines p) asked
unfolding call_event
call_event-some w m p o c asked h = ap (λ (x : Option Client). call_event w m p x asked) h

-- a client has been asked for a call, and the machine stands for this one
record Asked (w : World) (machine process : ℕ) (c now : Client) (asked : CallWord) (called : Called) : Type 0 where
  pub client : Client
  pub is_client : IsClient now client
  pub outcome : CallsAs w machine client called (call_by w machine process c (numbered 1 c.lines process) asked)
  pub impossible : KeepsImpossible called c client

asked_in : (w : World) (second machine process : ℕ) (c old now : Client) (asked : CallWord) (called : Called) → second ≡ w.second → IsClient old c
    → ((v : World) → CallsAs (record v { second = second }) machine now called (call_by (record v { second = second }) machine process old (numbered 1 old.lines process) asked))
    → KeepsImpossible called old now → Asked w machine process c now asked called
asked_in w second machine process c old now asked called at is told impossible =
    let T : ℕ → Type 0 = λ n. CallsAs (record w { second = n }) machine now called (call_by (record w { second = n }) machine process old (numbered 1 old.lines process) asked) in
    let P : Client → Type 0 = λ x. CallsAs w machine now called (call_by w machine process x (numbered 1 x.lines process) asked) in
    let Q : Client → Type 0 = λ x. KeepsImpossible called x now in
    record { client = now; is_client = refl; outcome = subst P is (subst T at (told w)); impossible = subst Q is impossible }

pub returns-then-place-len-clause-played : goal.returns-then-place-len-clause-played
returns-then-place-len-clause-played c w h =
    let s : Stored = the_view c.self.inside in
    let before : Page = c.args.out.now in
    let after : Page = c.put_impossible.new.out in
    let m : ℕ = c.args.machine in
    let kept : Stands s w = subst (λ (x : Stored). Stands x w) (sym c.self.view_is) h in
    let same = zip-length IsClient s.clients w.clients kept.clients in
    let past : length w.clients ≤ m - 2 = omega (arith, c.self.inside.clients.ok.0) in
    rw (← c.self.view_is)
    (on_ok_weaker c.put_impossible.result (λ e. plays_as before after s w.records _ (impossible w)
    (call_event-none w m c.args.process _ c.args.word (numbered-none 2 w.clients m (omega arith) past))
    (plays_one before after s w w.records Impossible e kept)) c.put_impossible.ensures)

pub returns-in-Impossible-clause-played : goal.returns-in-Impossible-clause-played
returns-in-Impossible-clause-played c w h =
    let s : Stored = the_view c.self.inside in
    let before : Page = c.args.out.now in
    let after : Page = c.put_impossible-in-Impossible.new.out in
    let m : ℕ = c.args.machine in
    let place : ℕ = c.from-place.result in
    let word : CallWord = c.args.word in
    let client : Client = c.index_mut-client.result.now in
    let now : Client = c.call.new.self in
    let kept : Stands s w = subst (λ (x : Stored). Stands x w) (sym c.self.view_is) h in
    let found = client_of s.clients w.clients m place client kept.clients (omega arith) c.from-place.ensures (omega (arith, c.self.inside.clients.ok.0)) c.index_mut-client.ensures.value in
    let asked = asked_in w s.second m c.args.process found.client client now word c.in_ok-call.field-0 kept.second found.is_client c.in_ok-call.ensures.outcome c.in_ok-call.ensures.impossible in
    let by : Outcome = call_by w m c.args.process found.client (numbered 1 found.client.lines c.args.process) word in
    let did : by ≡ impossible w = subst (λ (d : Called). CallsAs w m asked.client d by) c.in-Impossible.is asked.outcome in
    let same : asked.client ≡ found.client = subst (λ (d : Called). KeepsImpossible d found.client asked.client) c.in-Impossible.is asked.impossible in
    let stands = stands-clients s w (set s.clients place now) w.clients kept (clients_same s.clients w.clients place now found.client asked.client kept.clients asked.is_client same found.at_place) in
    on_ok_weaker c.put_impossible-in-Impossible.result (λ e. plays_as before after (record s { clients = set s.clients place now }) w.records _ (impossible w)
    (call_event-some w m c.args.process _ found.client word found.there ∙ did)
    (plays_one before after (record s { clients = set s.clients place now }) w w.records Impossible e stands)) c.put_impossible-in-Impossible.ensures

pub returns-in-TooFast-clause-played : goal.returns-in-TooFast-clause-played
returns-in-TooFast-clause-played c w h =
    let s : Stored = the_view c.self.inside in
    let before : Page = c.args.out.now in
    let after : Page = c.put_too_fast.new.out in
    let m : ℕ = c.args.machine in
    let n : ℕ = c.in-TooFast.number in
    let place : ℕ = c.from-place.result in
    let word : CallWord = c.args.word in
    let client : Client = c.index_mut-client.result.now in
    let now : Client = c.call.new.self in
    let kept : Stands s w = subst (λ (x : Stored). Stands x w) (sym c.self.view_is) h in
    let found = client_of s.clients w.clients m place client kept.clients (omega arith) c.from-place.ensures (omega (arith, c.self.inside.clients.ok.0)) c.index_mut-client.ensures.value in
    let asked = asked_in w s.second m c.args.process found.client client now word c.in_ok-call.field-0 kept.second found.is_client c.in_ok-call.ensures.outcome c.in_ok-call.ensures.impossible in
    let by : Outcome = call_by w m c.args.process found.client (numbered 1 found.client.lines c.args.process) word in
    let did : CallsAs w m asked.client (called.TooFast n) by = subst (λ (d : Called). CallsAs w m asked.client d by) c.in-TooFast.is asked.outcome in
    let stands = stands-clients s w (set s.clients place now) (set w.clients (m - 2) asked.client) kept (clients_with s.clients w.clients m place now asked.client kept.clients asked.is_client c.from-place.ensures) in
    on_ok_weaker c.put_too_fast.result (λ e. plays_as before after (record s { clients = set s.clients place now }) w.records _ _
    (call_event-some w m c.args.process _ found.client word found.there ∙ did.1)
    (plays_one before after (record s { clients = set s.clients place now }) (with_client w m asked.client) w.records (TooFast did.0 n w.second)
    (e ∙ ap (λ (x : ℕ). written before (lines_of_act (TooFast did.0 n x))) kept.second) stands)) (c.put_too_fast.ensures did.0)

pub returns-in_ok-put_start-in-Starts-clause-played : goal.returns-in_ok-put_start-in-Starts-clause-played
returns-in_ok-put_start-in-Starts-clause-played c w h =
    let s : Stored = the_view c.self.inside in
    let before : Page = c.args.out.now in
    let middle : Page = c.put_start.new.out in
    let after : Page = c.tell.new.out in
    let m : ℕ = c.args.machine in
    let place : ℕ = c.from-place.result in
    let word : CallWord = c.args.word in
    let client : Client = c.index_mut-client.result.now in
    let now : Client = c.call.new.self in
    let kept : Stands s w = subst (λ (x : Stored). Stands x w) (sym c.self.view_is) h in
    let found = client_of s.clients w.clients m place client kept.clients (omega arith) c.from-place.ensures (omega (arith, c.self.inside.clients.ok.0)) c.index_mut-client.ensures.value in
    let asked = asked_in w s.second m c.args.process found.client client now word c.in_ok-call.field-0 kept.second found.is_client c.in_ok-call.ensures.outcome c.in_ok-call.ensures.impossible in
    let by : Outcome = call_by w m c.args.process found.client (numbered 1 found.client.lines c.args.process) word in
    let w' : World = with_client w m asked.client in
    let did : StartsAs w' c.in-Starts.told by = subst (λ (d : Called). CallsAs w m asked.client d by) c.in-Starts.is asked.outcome in
    let s' : Stored = record s { clients = set s.clients place now } in
    let stands : Stands s' w' = stands-clients s w (set s.clients place now) (set w.clients (m - 2) asked.client) kept (clients_with s.clients w.clients m place now asked.client kept.clients asked.is_client c.from-place.ensures) in
    let r : Records = recorded w.records (Starts did.start) in
    on_ok_weaker c.tell.result (λ p. plays_as before after c.tell.new.self w.records _ (behind (Starts did.start) did.first)
    (call_event-some w m c.args.process _ found.client word found.there ∙ did.outcome)
    (plays_behind before middle after c.tell.new.self w.records (Starts did.start) did.first (c.in_ok-put_start-in-Starts.ensures did.start did.call) p))
    (c.tell.ensures.played w' r did.first did.tells (stands-start s' w' did.start stands))

pub returns-then-place-len-clause-keeps : goal.returns-then-place-len-clause-keeps
returns-then-place-len-clause-keeps c = keeps_all c.put_impossible.result c.args.self.now c.args.self.now refl

pub returns-then-place-len-clause-few : goal.returns-then-place-len-clause-few
returns-then-place-len-clause-few c = rose_none c.put_impossible.result 2 c.args.self.now c.args.self.now refl

pub returns-in-Impossible-clause-keeps : goal.returns-in-Impossible-clause-keeps
returns-in-Impossible-clause-keeps c = keeps_all c.put_impossible-in-Impossible.result (the_view c.self.inside) c.args.self.now c.self.view_is

pub returns-in-Impossible-clause-few : goal.returns-in-Impossible-clause-few
returns-in-Impossible-clause-few c = rose_none c.put_impossible-in-Impossible.result 2 (the_view c.self.inside) c.args.self.now c.self.view_is

pub returns-in-TooFast-clause-keeps : goal.returns-in-TooFast-clause-keeps
returns-in-TooFast-clause-keeps c = keeps_all c.put_too_fast.result (the_view c.self.inside) c.args.self.now c.self.view_is

pub returns-in-TooFast-clause-few : goal.returns-in-TooFast-clause-few
returns-in-TooFast-clause-few c = rose_none c.put_too_fast.result 2 (the_view c.self.inside) c.args.self.now c.self.view_is

pub returns-in_ok-put_start-in-Starts-clause-keeps : goal.returns-in_ok-put_start-in-Starts-clause-keeps
returns-in_ok-put_start-in-Starts-clause-keeps c = keeps_since c.tell.result (the_view c.self.inside) c.args.self.now c.tell.new.self c.self.view_is c.tell.ensures.keeps
