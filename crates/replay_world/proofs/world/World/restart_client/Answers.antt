use Rattle.std.proofs.Common.{◌≡◌, ℕ, ◌+◌, ◌-◌, ◌≤◌, List, ◌++◌, Bool, Some, length, set, ap, sym, subst, refl, ◌∙◌, arith, [], ◌∷◌, true, false, cond}
use Rattle.std.proofs.lemmas.Result.{on_ok_weaker}
use Rattle.std.specs.Prelude.{nat_lt}
use Rattle.replay_model.specs.Record.{Impossible, Restarts}
use Rattle.replay_model.specs.Lines.{lines_of_act}
use Rattle.replay_model.specs.World.{Client, numbered, World, booted_client}
use Rattle.replay_model.specs.Step.{Outcome, impossible, with_client, boots_client}
use Rattle.replay_model.specs.OpenCalls.{open_of, lost_of}
use Rattle.replay_client.specs.Client as client
use Rattle.replay_lines.specs.Page.{Page, written}
use Rattle.replay_world.specs.Stored.{Stored}
use Rattle.replay_world.specs.Stands.{Stands, IsClient}
use Rattle.replay_world.specs.contracts.world.World.{the_view}
use Rattle.replay_world.proofs.Numbered.{numbered-none}
use Rattle.replay_world.proofs.Standing.{on_ok_always, plays_one, plays_as, stands-clients, stands-lost, client_of, clients_with, clients_same}
use Rattle.replay_world.proofs.Zips.{zip-length}
use Rattle.replay_world.proofs.Rising.{rose_none}
use Rattle.replay_world.proofs.world.World.restart_client.Goals as goal

-- a client has booted anew, or hasn't
client_boots_in : (w : World) (second machine : ℕ) (c old now : Client) (booted : Bool) → second ≡ w.second → IsClient old c
    → ((v : World) → client.RestartsAs (record v { second = second }) machine old now booted (boots_client (record v { second = second }) machine (Some old)))
    → client.RestartsAs w machine c now booted (boots_client w machine (Some c))
client_boots_in w second machine c old now booted at is told =
    let T : ℕ → Type 0 = λ n. client.RestartsAs (record w { second = n }) machine old now booted (boots_client (record w { second = n }) machine (Some old)) in
    let P : Client → Type 0 = λ x. client.RestartsAs w machine x now booted (boots_client w machine (Some x)) in
    subst P is (subst T at (told w))

-- the calls that a client has lost where it has booted anew, and where it hasn't
lost_late : (late : Bool) (w : World) (machine : ℕ) (c now : Client)
    → cond late (record { world = with_client w machine (booted_client w.second machine); acts = Restarts machine w.second ∷ [] }) (impossible w) ≡ record { world = with_client w machine now; acts = Restarts machine w.second ∷ [] }
    → cond late (open_of c) 0 ≡ open_of c
lost_late true w machine c now h = refl
lost_late false w machine c now h = let acts = ap (λ (o : Outcome). o.acts) h in absurd (cc)

lost_booted : (w : World) (machine : ℕ) (c now : Client) → client.RestartsAs w machine c now true (boots_client w machine (Some c)) → lost_of w (Some c) ≡ open_of c
lost_booted w machine c now h = lost_late (nat_lt c.read w.second) w machine c now h

lost_early : (late : Bool) (w : World) (machine : ℕ) (c : Client)
    → cond late (record { world = with_client w machine (booted_client w.second machine); acts = Restarts machine w.second ∷ [] }) (impossible w) ≡ impossible w
    → cond late (open_of c) 0 ≡ 0
lost_early true w machine c h = let acts = ap (λ (o : Outcome). o.acts) h in absurd (cc)
lost_early false w machine c h = refl

lost_stayed : (w : World) (machine : ℕ) (c now : Client) → client.RestartsAs w machine c now false (boots_client w machine (Some c)) → lost_of w (Some c) ≡ 0
lost_stayed w machine c now h = lost_early (nat_lt c.read w.second) w machine c h.0

pub returns-then-place-len-clause-played : goal.returns-then-place-len-clause-played
returns-then-place-len-clause-played c w h =
    let s : Stored = the_view c.self.inside in
    let before : Page = c.args.out.now in
    let kept : Stands s w = subst (λ (x : Stored). Stands x w) (sym c.self.view_is) h in
    let after : Page = c.put_impossible.new.out in
    let m : ℕ = c.args.machine in
    let same = zip-length IsClient s.clients w.clients kept.clients in
    let past : length w.clients ≤ m - 2 = omega (arith, c.self.inside.clients.ok.0) in
    rw (← c.self.view_is)
    (on_ok_weaker c.put_impossible.result (λ e. plays_as before after s w.records _ (impossible w)
    (ap (boots_client w m) (numbered-none 2 w.clients m (omega arith) past))
    (plays_one before after s w w.records Impossible e kept)) c.put_impossible.ensures)

pub returns-clause-played : goal.returns-clause-played
returns-clause-played c w h =
    let s : Stored = the_view c.self.inside in
    let before : Page = c.args.out.now in
    let kept : Stands s w = subst (λ (x : Stored). Stands x w) (sym c.self.view_is) h in
    let after : Page = c.put_restarted.new.out in
    let m : ℕ = c.args.machine in
    let place : ℕ = c.from-place.result in
    let old : Client = c.index_mut-client.result.now in
    let now : Client = c.restart.new.self in
    let found = client_of s.clients w.clients m place old kept.clients (omega arith) c.from-place.ensures (omega (arith, c.self.inside.clients.ok.0)) c.index_mut-client.ensures.value in
    let o : Outcome = boots_client w m (Some found.client) in
    let did = subst (λ (d : Bool). client.RestartsAs w m found.client now d o) c.if-not-booted.false (client_boots_in w s.second m found.client old now c.in_ok-booted.booted kept.second found.is_client c.in_ok-booted.ensures) in
    let s' : Stored = record s { clients = set s.clients place now; lost = s.lost + c.open_calls-interrupted.result } in
    let stands = stands-lost _ _ s'.lost (stands-clients s w s'.clients (set w.clients (m - 2) now) kept (clients_with s.clients w.clients m place now now kept.clients refl c.from-place.ensures)) in
    on_ok_weaker c.put_restarted.result (λ e. plays_as before after s' w.records _ _
    (ap (boots_client w m) found.there ∙ did)
    (plays_one before after s' (with_client w m now) w.records (Restarts m w.second)
    (e ∙ ap (λ (x : ℕ). written before (lines_of_act (Restarts m x))) kept.second) stands)) c.put_restarted.ensures

pub returns-then-not-booted-clause-played : goal.returns-then-not-booted-clause-played
returns-then-not-booted-clause-played c w h =
    let s : Stored = the_view c.self.inside in
    let before : Page = c.args.out.now in
    let kept : Stands s w = subst (λ (x : Stored). Stands x w) (sym c.self.view_is) h in
    let after : Page = c.put_impossible-then-not-booted.new.out in
    let m : ℕ = c.args.machine in
    let place : ℕ = c.from-place.result in
    let old : Client = c.index_mut-client.result.now in
    let now : Client = c.restart.new.self in
    let found = client_of s.clients w.clients m place old kept.clients (omega arith) c.from-place.ensures (omega (arith, c.self.inside.clients.ok.0)) c.index_mut-client.ensures.value in
    let o : Outcome = boots_client w m (Some found.client) in
    let did = subst (λ (d : Bool). client.RestartsAs w m found.client now d o) c.if-not-booted.true (client_boots_in w s.second m found.client old now c.in_ok-booted.booted kept.second found.is_client c.in_ok-booted.ensures) in
    let stands = stands-clients s w (set s.clients place now) w.clients kept (clients_same s.clients w.clients place now found.client now kept.clients refl did.1 found.at_place) in
    on_ok_weaker c.put_impossible-then-not-booted.result (λ e. plays_as before after (record s { clients = set s.clients place now }) w.records _ (impossible w)
    (ap (boots_client w m) found.there ∙ did.0)
    (plays_one before after (record s { clients = set s.clients place now }) w w.records Impossible e stands)) c.put_impossible-then-not-booted.ensures

pub returns-then-place-len-clause-lost : goal.returns-then-place-len-clause-lost
returns-then-place-len-clause-lost c w h =
    let s : Stored = the_view c.self.inside in
    let kept : Stands s w = subst (λ (x : Stored). Stands x w) (sym c.self.view_is) h in
    let m : ℕ = c.args.machine in
    let same = zip-length IsClient s.clients w.clients kept.clients in
    let past : length w.clients ≤ m - 2 = omega (arith, c.self.inside.clients.ok.0) in
    let none = ap (lost_of w) (numbered-none 2 w.clients m (omega arith) past) in
    on_ok_always c.put_impossible.result (omega (arith, none))

pub returns-clause-lost : goal.returns-clause-lost
returns-clause-lost c w h =
    let s : Stored = the_view c.self.inside in
    let kept : Stands s w = subst (λ (x : Stored). Stands x w) (sym c.self.view_is) h in
    let m : ℕ = c.args.machine in
    let place : ℕ = c.from-place.result in
    let old : Client = c.index_mut-client.result.now in
    let now : Client = c.restart.new.self in
    let found = client_of s.clients w.clients m place old kept.clients (omega arith) c.from-place.ensures (omega (arith, c.self.inside.clients.ok.0)) c.index_mut-client.ensures.value in
    let o : Outcome = boots_client w m (Some found.client) in
    let did = subst (λ (d : Bool). client.RestartsAs w m found.client now d o) c.if-not-booted.false (client_boots_in w s.second m found.client old now c.in_ok-booted.booted kept.second found.is_client c.in_ok-booted.ensures) in
    let lost : lost_of w (numbered 2 w.clients m) ≡ open_of found.client = ap (lost_of w) found.there ∙ lost_booted w m found.client now did in
    let counted : c.open_calls-interrupted.result ≡ open_of found.client = c.open_calls-interrupted.ensures.exact ∙ ap open_of found.is_client in
    let before : s.lost ≡ c.args.self.now.lost = ap (λ (x : Stored). x.lost) c.self.view_is in
    on_ok_always c.put_restarted.result (omega arith)

pub returns-then-not-booted-clause-lost : goal.returns-then-not-booted-clause-lost
returns-then-not-booted-clause-lost c w h =
    let s : Stored = the_view c.self.inside in
    let kept : Stands s w = subst (λ (x : Stored). Stands x w) (sym c.self.view_is) h in
    let m : ℕ = c.args.machine in
    let place : ℕ = c.from-place.result in
    let old : Client = c.index_mut-client.result.now in
    let now : Client = c.restart.new.self in
    let found = client_of s.clients w.clients m place old kept.clients (omega arith) c.from-place.ensures (omega (arith, c.self.inside.clients.ok.0)) c.index_mut-client.ensures.value in
    let o : Outcome = boots_client w m (Some found.client) in
    let did = subst (λ (d : Bool). client.RestartsAs w m found.client now d o) c.if-not-booted.true (client_boots_in w s.second m found.client old now c.in_ok-booted.booted kept.second found.is_client c.in_ok-booted.ensures) in
    let lost : lost_of w (numbered 2 w.clients m) ≡ 0 = ap (lost_of w) found.there ∙ lost_stayed w m found.client now did in
    let before : s.lost ≡ c.args.self.now.lost = ap (λ (x : Stored). x.lost) c.self.view_is in
    on_ok_always c.put_impossible-then-not-booted.result (omega arith)

pub returns-then-place-len-clause-few : goal.returns-then-place-len-clause-few
returns-then-place-len-clause-few c = rose_none c.put_impossible.result 8 c.args.self.now c.args.self.now refl

pub returns-then-not-booted-clause-few : goal.returns-then-not-booted-clause-few
returns-then-not-booted-clause-few c = rose_none c.put_impossible-then-not-booted.result 8 (the_view c.self.inside) c.args.self.now c.self.view_is

pub returns-clause-keeps : goal.returns-clause-keeps
returns-clause-keeps c = on_ok_always c.put_restarted.result (ap (λ (x : Stored). x.forgotten) c.self.view_is)

pub returns-then-not-booted-clause-keeps : goal.returns-then-not-booted-clause-keeps
returns-then-not-booted-clause-keeps c = on_ok_always c.put_impossible-then-not-booted.result (ap (λ (x : Stored). x.forgotten) c.self.view_is)
