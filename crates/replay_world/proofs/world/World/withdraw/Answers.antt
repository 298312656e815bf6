use Rattle.std.proofs.Common.{ℕ, List, Option, sym, subst, refl}
use Rattle.std.proofs.lemmas.Result.{on_ok_weaker}
use Rattle.replay_model.specs.Record.{Impossible, Withdraws}
use Rattle.replay_model.specs.World.{Server, World}
use Rattle.replay_model.specs.Step.{Outcome, withdraw_event}
use Rattle.replay_server.specs.Lives as server
use Rattle.replay_server.specs.Lives.{WithdrawsAs}
use Rattle.replay_lines.specs.Page.{Page}
use Rattle.replay_world.specs.Stored.{Stored}
use Rattle.replay_world.specs.Stands.{Stands, IsServer}
use Rattle.replay_world.specs.contracts.world.World.{the_view}
use Rattle.replay_world.proofs.Standing.{plays_one, plays_as, stands-server}
use Rattle.replay_world.proofs.Rising.{keeps_all, rose_none}
use Rattle.replay_world.proofs.world.World.withdraw.Goals as goal

-- the server has taken an export back, or hasn't
withdrawn_in : (w : World) (old now : Server) (name : List ℕ) (index : Option ℕ) → IsServer old w.server
    → ((v : World) → WithdrawsAs (record v { server = old }) now index (withdraw_event (record v { server = old }) name))
    → WithdrawsAs w now index (withdraw_event w name)
withdrawn_in w old now name index is told =
    let P : Server → Type 0 = λ s. WithdrawsAs (record w { server = s }) now index (withdraw_event (record w { server = s }) name) in
    subst P is (told w)

pub returns-in_default-clause-played : goal.returns-in_default-clause-played
returns-in_default-clause-played c w h =
    let s : Stored = the_view c.self.inside in
    let before : Page = c.args.out.now in
    let kept : Stands s w = subst (λ (x : Stored). Stands x w) (sym c.self.view_is) h in
    let after : Page = c.put_impossible.new.out in
    let now : Server = c.withdraw.new.self in
    let o : Outcome = withdraw_event w c.args.name.now in
    let did = subst (λ (d : Option ℕ). server.WithdrawsAs w now d o) c.in_default.is (withdrawn_in w s.server now c.args.name.now c.withdraw.result kept.server c.withdraw.ensures) in
    let stands : Stands (record s { server = now }) w = subst (λ (x : Server). Stands (record s { server = now }) (record w { server = x })) (sym did.1) (stands-server s w now now kept refl) in
    on_ok_weaker c.put_impossible.result (λ e. plays_as before after (record s { server = now }) w.records o _ did.0
    (plays_one before after (record s { server = now }) w w.records Impossible e stands)) c.put_impossible.ensures

pub returns-clause-played : goal.returns-clause-played
returns-clause-played c w h =
    let s : Stored = the_view c.self.inside in
    let before : Page = c.args.out.now in
    let kept : Stands s w = subst (λ (x : Stored). Stands x w) (sym c.self.view_is) h in
    let after : Page = c.put_withdrawn.new.out in
    let now : Server = c.withdraw.new.self in
    let o : Outcome = withdraw_event w c.args.name.now in
    let did = subst (λ (d : Option ℕ). server.WithdrawsAs w now d o) c.in-Some.is (withdrawn_in w s.server now c.args.name.now c.withdraw.result kept.server c.withdraw.ensures) in
    on_ok_weaker c.put_withdrawn.result (λ e. plays_as before after (record s { server = now }) w.records o _ did
    (plays_one before after (record s { server = now }) (record w { server = now }) w.records (Withdraws c.in-Some.index) e (stands-server s w now now kept refl))) c.put_withdrawn.ensures

pub returns-in_default-clause-keeps : goal.returns-in_default-clause-keeps
returns-in_default-clause-keeps c = keeps_all c.put_impossible.result (the_view c.self.inside) c.args.self.now c.self.view_is

pub returns-in_default-clause-few : goal.returns-in_default-clause-few
returns-in_default-clause-few c = rose_none c.put_impossible.result 1 (the_view c.self.inside) c.args.self.now c.self.view_is

pub returns-clause-keeps : goal.returns-clause-keeps
returns-clause-keeps c = keeps_all c.put_withdrawn.result (the_view c.self.inside) c.args.self.now c.self.view_is

pub returns-clause-few : goal.returns-clause-few
returns-clause-few c = rose_none c.put_withdrawn.result 1 (the_view c.self.inside) c.args.self.now c.self.view_is
