use Rattle.std.proofs.Common.{ℕ, List, ◌++◌, Bool, ap, sym, subst, refl, ◌∙◌, ◌≡◌}
use Rattle.std.proofs.lemmas.Result.{on_ok_weaker}
use Rattle.replay_model.specs.Record.{Impossible, Restarts}
use Rattle.replay_model.specs.Lines.{lines_of_act}
use Rattle.replay_model.specs.World.{Server, World}
use Rattle.replay_model.specs.Step.{Outcome, boots_server}
use Rattle.replay_server.specs.Lives as server
use Rattle.replay_lines.specs.Page.{Page, written}
use Rattle.replay_world.specs.Stored.{Stored}
use Rattle.replay_world.specs.Stands.{Stands, IsServer}
use Rattle.replay_world.specs.contracts.world.World.{the_view}
use Rattle.replay_world.proofs.Standing.{plays_one, plays_as, stands-server}
use Rattle.replay_world.proofs.Rising.{keeps_all, rose_none}
use Rattle.replay_world.proofs.world.World.restart_server.Goals as goal

-- the server has booted anew, or hasn't
server_boots_in : (w : World) (second : ℕ) (old now : Server) (booted : Bool) → second ≡ w.second → IsServer old w.server
    → ((v : World) → server.RestartsAs (record v { server = old; second = second }) old now booted (boots_server (record v { server = old; second = second })))
    → server.RestartsAs w w.server now booted (boots_server w)
server_boots_in w second old now booted at is told =
    let T : ℕ → Type 0 = λ n. server.RestartsAs (record w { server = old; second = n }) old now booted (boots_server (record w { server = old; second = n })) in
    let P : Server → Type 0 = λ s. server.RestartsAs (record w { server = s }) s now booted (boots_server (record w { server = s })) in
    subst P is (subst T at (told w))

pub returns-clause-played : goal.returns-clause-played
returns-clause-played c w h =
    let s : Stored = the_view c.self.inside in
    let before : Page = c.args.out.now in
    let kept : Stands s w = subst (λ (x : Stored). Stands x w) (sym c.self.view_is) h in
    let after : Page = c.put_restarted.new.out in
    let now : Server = c.restart.new.self in
    let o : Outcome = boots_server w in
    let did = subst (λ (d : Bool). server.RestartsAs w w.server now d o) c.if-not-booted.false (server_boots_in w s.second s.server now c.in_ok-booted.booted kept.second kept.server c.in_ok-booted.ensures) in
    on_ok_weaker c.put_restarted.result (λ e. plays_as before after (record s { server = now }) w.records o _ did
    (plays_one before after (record s { server = now }) (record w { server = now }) w.records (Restarts 1 w.second)
    (e ∙ ap (λ (x : ℕ). written before (lines_of_act (Restarts 1 x))) kept.second) (stands-server s w now now kept refl))) c.put_restarted.ensures

pub returns-then-not-booted-clause-played : goal.returns-then-not-booted-clause-played
returns-then-not-booted-clause-played c w h =
    let s : Stored = the_view c.self.inside in
    let before : Page = c.args.out.now in
    let kept : Stands s w = subst (λ (x : Stored). Stands x w) (sym c.self.view_is) h in
    let after : Page = c.put_impossible.new.out in
    let now : Server = c.restart.new.self in
    let o : Outcome = boots_server w in
    let did = subst (λ (d : Bool). server.RestartsAs w w.server now d o) c.if-not-booted.true (server_boots_in w s.second s.server now c.in_ok-booted.booted kept.second kept.server c.in_ok-booted.ensures) in
    let stands : Stands (record s { server = now }) w = subst (λ (x : Server). Stands (record s { server = now }) (record w { server = x })) did.1 (stands-server s w now now kept refl) in
    on_ok_weaker c.put_impossible.result (λ e. plays_as before after (record s { server = now }) w.records o _ did.0
    (plays_one before after (record s { server = now }) w w.records Impossible e stands)) c.put_impossible.ensures

pub returns-clause-keeps : goal.returns-clause-keeps
returns-clause-keeps c = keeps_all c.put_restarted.result (the_view c.self.inside) c.args.self.now c.self.view_is

pub returns-clause-few : goal.returns-clause-few
returns-clause-few c = rose_none c.put_restarted.result 1 (the_view c.self.inside) c.args.self.now c.self.view_is

pub returns-then-not-booted-clause-keeps : goal.returns-then-not-booted-clause-keeps
returns-then-not-booted-clause-keeps c = keeps_all c.put_impossible.result (the_view c.self.inside) c.args.self.now c.self.view_is

pub returns-then-not-booted-clause-few : goal.returns-then-not-booted-clause-few
returns-then-not-booted-clause-few c = rose_none c.put_impossible.result 1 (the_view c.self.inside) c.args.self.now c.self.view_is
