use Rattle.std.proofs.Common.{◌≡◌, ℕ, ◌-◌, ◌≤◌, List, length, set, true, false, Option, Ok, ap, sym, subst, refl, ◌∙◌, arith, Some, None}
use Rattle.call_rules.specs.Packet.{Call, call_of}
use Rattle.replay_model.specs.World.{World, Client, numbered}
use Rattle.replay_model.specs.Step.{Outcome, nothing, tells, tick, ticks_line, with_client, ticks_client}
use Rattle.replay_model.specs.Process as process
use Rattle.replay_model.specs.declared.limits.TheConstants.{FIRST_CLIENT}
use Rattle.replay_client.specs.declared.told.Said.{Said}
use Rattle.replay_client.specs.declared.told.Said.TheVariants as said
use Rattle.replay_client.specs.declared.told.Told.{Told}
use Rattle.replay_client.specs.Told.{Says, TellsAs}
use Rattle.replay_client.specs.Client.{TicksAs}
use Rattle.replay_lines.specs.Page.{Page}
use Rattle.replay_world.specs.Stored.{Stored, RoseByAtMost, Keeps}
use Rattle.replay_world.specs.Stands.{Stands, IsClient}
use Rattle.replay_world.specs.Played.{PlaysTick, is_silent}
use Rattle.replay_world.specs.contracts.world.World.{the_view}
use Rattle.replay_world.proofs.Numbered.{numbered-none}
use Rattle.replay_world.proofs.Rising.{still}
use Rattle.replay_world.proofs.Standing.{plays_none, plays_as, stands-clients, client_of, clients_with, clients_same}
use Rattle.replay_world.proofs.Zips.{zip-length}
use Rattle.replay_world.proofs.world.World.tick.Goals as goal
use Rattle.replay_world.proofs.world.World.tick.Goals.{in-Nothing, in_default-matches}

tick-none : (w : World) (m p : ℕ) → numbered FIRST_CLIENT w.clients m ≡ None → tick w m p ≡ nothing w
unfolding tick
tick-none w m p h = ap (ticks_client w m p) h

tick-some : (w : World) (m p : ℕ) (c : Client) → numbered FIRST_CLIENT w.clients m ≡ Some c → tick w m p ≡ ticks_line w m p c (numbered 1 c.lines p)
unfolding tick
tick-some w m p c h = ap (ticks_client w m p) h

-- a process of a client has had a tick
record Ticked (w : World) (machine process : ℕ) (c now : Client) (told : Option Told) : Type 0 where
  pub client : Client
  pub is_client : IsClient now client
  pub outcome : TicksAs w machine client told (ticks_line w machine process c (numbered 1 c.lines process))
  pub nobody : told ≡ None → client ≡ c

ticked_in : (w : World) (machine process : ℕ) (c old now : Client) (told : Option Told) → IsClient old c
    → ((v : World) → TicksAs v machine now told (ticks_line v machine process old (numbered 1 old.lines process))) → (told ≡ None → now ≡ old) → Ticked w machine process c now told
ticked_in w machine process c old now told is by nobody =
    let P : Client → Type 0 = λ x. TicksAs w machine now told (ticks_line w machine process x (numbered 1 x.lines process)) in
    record { client = now; is_client = refl; outcome = subst P is (by w); nobody = λ none. nobody none ∙ is }

-- a tick in which nothing happens
quietly : (before : Page) (s : Stored) (w : World) (o : Outcome) → Stands s w → o ≡ nothing w → PlaysTick true before before s w.records o
quietly before s w o h e =
    record { plays = plays_as before before s w.records o (nothing w) e (plays_none before s w h); silent = sym (ap (λ (x : Outcome). is_silent x.acts) e) }

-- what says something has an act
silent : (w : World) (call : Call) (s : process.Said) → Says call said.Nothing s → is_silent (tells w call s).acts ≡ true
silent w call s h = ap (λ (x : process.Said). is_silent (tells w call x).acts) h

loud : (w : World) (call : Call) (x : Said) (s : process.Said) → Says call x s → (x ≡ said.Nothing → ⊥) → is_silent (tells w call s).acts ≡ false
loud w call said.Nothing s h other = absurd (other refl)
loud w call (said.Sends p) s h other = ap (λ (y : process.Said). is_silent (tells w call y).acts) h
loud w call said.Waits s h other = ap (λ (y : process.Said). is_silent (tells w call y).acts) h
loud w call (said.Returned signal reply) s h other = ap (λ (y : process.Said). is_silent (tells w call y).acts) h.returned
loud w call (said.Fails cause) s h other = ap (λ (y : process.Said). is_silent (tells w call y).acts) h
loud w call said.BindFails s h other = ap (λ (y : process.Said). is_silent (tells w call y).acts) h
loud w call (said.BoundTo export) s h other = ap (λ (y : process.Said). is_silent (tells w call y).acts) h
loud w call said.NotBound s h other = ap (λ (y : process.Said). is_silent (tells w call y).acts) h

pub returns-then-place-len-clause-played : goal.returns-then-place-len-clause-played
returns-then-place-len-clause-played c w h =
    let s : Stored = the_view c.self.inside in
    let m : ℕ = c.args.machine in
    let kept : Stands s w = subst (λ (x : Stored). Stands x w) (sym c.self.view_is) h in
    let same = zip-length IsClient s.clients w.clients kept.clients in
    let past : length w.clients ≤ m - 2 = omega (arith, c.self.inside.clients.ok.0) in
    quietly c.args.out.now c.args.self.now w _ h (tick-none w m c.args.process (numbered-none 2 w.clients m (omega arith) past))

pub returns-in_default-clause-played : goal.returns-in_default-clause-played
returns-in_default-clause-played c w h =
    let s : Stored = the_view c.self.inside in
    let m : ℕ = c.args.machine in
    let place : ℕ = c.from-place.result in
    let client : Client = c.index_mut-client.result.now in
    let now : Client = c.tick.new.self in
    let kept : Stands s w = subst (λ (x : Stored). Stands x w) (sym c.self.view_is) h in
    let found = client_of s.clients w.clients m place client kept.clients (omega arith) c.from-place.ensures (omega (arith, c.self.inside.clients.ok.0)) c.index_mut-client.ensures.value in
    let ticked = ticked_in w m c.args.process found.client client now c.in_ok-told.field-0 found.is_client c.in_ok-told.ensures.outcome (λ e. c.in_ok-told.ensures.nobody (ap (λ (x : Option Told). Ok x) e)) in
    let by : Outcome = ticks_line w m c.args.process found.client (numbered 1 found.client.lines c.args.process) in
    let did : by ≡ nothing w = subst (λ (d : Option Told). TicksAs w m ticked.client d by) c.in_default.is ticked.outcome in
    let same : ticked.client ≡ found.client = ticked.nobody c.in_default.is in
    let stands = stands-clients s w (set s.clients place now) w.clients kept (clients_same s.clients w.clients place now found.client ticked.client kept.clients ticked.is_client same found.at_place) in
    quietly c.args.out.now (record s { clients = set s.clients place now }) w _ stands (tick-some w m c.args.process found.client found.there ∙ did)

pub returns-clause-played : goal.returns-clause-played
returns-clause-played c w h =
    let s : Stored = the_view c.self.inside in
    let before : Page = c.args.out.now in
    let after : Page = c.tell.new.out in
    let m : ℕ = c.args.machine in
    let place : ℕ = c.from-place.result in
    let client : Client = c.index_mut-client.result.now in
    let now : Client = c.tick.new.self in
    let told : Told = c.in-Some.told in
    let kept : Stands s w = subst (λ (x : Stored). Stands x w) (sym c.self.view_is) h in
    let found = client_of s.clients w.clients m place client kept.clients (omega arith) c.from-place.ensures (omega (arith, c.self.inside.clients.ok.0)) c.index_mut-client.ensures.value in
    let ticked = ticked_in w m c.args.process found.client client now c.in_ok-told.field-0 found.is_client c.in_ok-told.ensures.outcome (λ e. c.in_ok-told.ensures.nobody (ap (λ (x : Option Told). Ok x) e)) in
    let by : Outcome = ticks_line w m c.args.process found.client (numbered 1 found.client.lines c.args.process) in
    let w' : World = with_client w m ticked.client in
    let did : TellsAs w' told by = subst (λ (d : Option Told). TicksAs w m ticked.client d by) c.in-Some.is ticked.outcome in
    let stands = stands-clients s w (set s.clients place now) (set w.clients (m - 2) ticked.client) kept (clients_with s.clients w.clients m place now ticked.client kept.clients ticked.is_client c.from-place.ensures) in
    let same : tick w m c.args.process ≡ by = tick-some w m c.args.process found.client found.there in
    let acts : is_silent by.acts ≡ is_silent (tells w' (call_of told.call) did.said).acts = ap (λ (x : Outcome). is_silent x.acts) did.outcome in
    let quiet : c.match-matches.matches ≡ is_silent by.acts = elim c.match-matches.branch [
      | in-Nothing v ↦ v.matches-is ∙ sym (acts ∙ silent w' (call_of told.call) did.said (subst (λ (x : Said). Says (call_of told.call) x did.said) v.in-Nothing.is did.says))
      | in_default-matches v ↦ v.matches-is ∙ sym (acts ∙ loud w' (call_of told.call) told.said did.said did.says v.in_default-matches.not-Nothing)
    ] in
    record {
      plays = plays_as before after c.tell.new.self w.records _ by same (c.in_ok-tell.ensures.played w' w.records by did stands);
      silent = quiet ∙ sym (ap (λ (x : Outcome). is_silent x.acts) same);
    }

pub returns-clause-keeps : goal.returns-clause-keeps
returns-clause-keeps c = subst (λ (x : Stored). Keeps x c.tell.new.self) c.self.view_is c.in_ok-tell.ensures.keeps

pub returns-clause-few : goal.returns-clause-few
returns-clause-few c = subst (λ (x : Stored). RoseByAtMost 1 x c.tell.new.self) c.self.view_is c.in_ok-tell.ensures.few

pub returns-in_default-clause-keeps : goal.returns-in_default-clause-keeps
returns-in_default-clause-keeps c = (ap (λ (x : Stored). x.forgotten) c.self.view_is, ap (λ (x : Stored). x.lost) c.self.view_is)

pub returns-in_default-clause-few : goal.returns-in_default-clause-few
returns-in_default-clause-few c = still 1 (the_view c.self.inside) c.args.self.now c.self.view_is
