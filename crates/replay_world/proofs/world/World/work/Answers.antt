use Rattle.std.proofs.Common.{◌≡◌, ℕ, List, sym, subst, refl}
use Rattle.std.proofs.lemmas.Result.{on_ok_weaker}
use Rattle.replay_model.specs.Record.{Impossible, Idles}
use Rattle.replay_model.specs.World.{Server, numbered, World}
use Rattle.replay_model.specs.Step.{Outcome, work_event, impossible}
use Rattle.replay_server.specs.declared.step.Worked.{Worked}
use Rattle.replay_server.specs.declared.step.Worked.TheVariants as worked
use Rattle.replay_server.specs.Stepped.{WorksAs, KeepsIdle, StepsAs}
use Rattle.replay_lines.specs.Page.{Page}
use Rattle.replay_world.specs.Stored.{Stored}
use Rattle.replay_world.specs.Stands.{Stands, IsServer}
use Rattle.replay_world.specs.contracts.world.World.{the_view}
use Rattle.replay_world.proofs.Standing.{plays_one, plays_as, stands-server}
use Rattle.replay_world.proofs.Rising.{keeps_all, keeps_since, rose_none, rose_since}
use Rattle.replay_world.proofs.world.World.work.Goals as goal

-- a worker has stepped, and the machine stands for this server
record Worker (w : World) (who : ℕ) (now : Server) (worked : Worked) : Type 0 where
  pub server : Server
  pub is_server : IsServer now server
  pub outcome : WorksAs w who server worked (work_event w who (numbered 1 w.server.workers who))
  pub idle : KeepsIdle worked w.server server

worker_in : (w : World) (who : ℕ) (old now : Server) (worked : Worked) → IsServer old w.server
    → ((v : World) → WorksAs (record v { server = old }) who now worked (work_event (record v { server = old }) who (numbered 1 old.workers who))) → KeepsIdle worked old now
    → Worker w who now worked
worker_in w who old now worked is told idle =
    let P : Server → Type 0 = λ s. WorksAs (record w { server = s }) who now worked (work_event (record w { server = s }) who (numbered 1 s.workers who)) in
    let Q : Server → Type 0 = λ s. KeepsIdle worked s now in
    record { server = now; is_server = refl; outcome = subst P is (told w); idle = subst Q is idle }

pub returns-in-Impossible-clause-played : goal.returns-in-Impossible-clause-played
returns-in-Impossible-clause-played c w h =
    let s : Stored = the_view c.self.inside in
    let before : Page = c.args.out.now in
    let after : Page = c.put_impossible.new.out in
    let who : ℕ = c.args.worker in
    let now : Server = c.work.new.self in
    let kept : Stands s w = subst (λ (x : Stored). Stands x w) (sym c.self.view_is) h in
    let k = worker_in w who s.server now c.in_ok-work.field-0 kept.server c.in_ok-work.ensures.outcome c.in_ok-work.ensures.idle in
    let o : Outcome = work_event w who (numbered 1 w.server.workers who) in
    let did : o ≡ impossible w = subst (λ (d : Worked). WorksAs w who k.server d o) c.in-Impossible.is k.outcome in
    let same : k.server ≡ w.server = subst (λ (d : Worked). KeepsIdle d w.server k.server) c.in-Impossible.is k.idle in
    let stands : Stands (record s { server = now }) w = subst (λ (x : Server). Stands (record s { server = now }) (record w { server = x })) same (stands-server s w now k.server kept k.is_server) in
    on_ok_weaker c.put_impossible.result (λ e. plays_as before after (record s { server = now }) w.records o (impossible w) did
    (plays_one before after (record s { server = now }) w w.records Impossible e stands)) c.put_impossible.ensures

pub returns-in-Idle-clause-played : goal.returns-in-Idle-clause-played
returns-in-Idle-clause-played c w h =
    let s : Stored = the_view c.self.inside in
    let before : Page = c.args.out.now in
    let after : Page = c.put_idle.new.out in
    let who : ℕ = c.args.worker in
    let now : Server = c.work.new.self in
    let kept : Stands s w = subst (λ (x : Stored). Stands x w) (sym c.self.view_is) h in
    let k = worker_in w who s.server now c.in_ok-work.field-0 kept.server c.in_ok-work.ensures.outcome c.in_ok-work.ensures.idle in
    let o : Outcome = work_event w who (numbered 1 w.server.workers who) in
    let did : WorksAs w who k.server worked.Idle o = subst (λ (d : Worked). WorksAs w who k.server d o) c.in-Idle.is k.outcome in
    let same : k.server ≡ w.server = subst (λ (d : Worked). KeepsIdle d w.server k.server) c.in-Idle.is k.idle in
    let stands : Stands (record s { server = now }) w = subst (λ (x : Server). Stands (record s { server = now }) (record w { server = x })) same (stands-server s w now k.server kept k.is_server) in
    on_ok_weaker c.put_idle.result (λ e. plays_as before after (record s { server = now }) w.records o _ did
    (plays_one before after (record s { server = now }) w w.records (Idles who) e stands)) c.put_idle.ensures

pub returns-in-Step-clause-played : goal.returns-in-Step-clause-played
returns-in-Step-clause-played c w h =
    let s : Stored = the_view c.self.inside in
    let who : ℕ = c.args.worker in
    let now : Server = c.work.new.self in
    let kept : Stands s w = subst (λ (x : Stored). Stands x w) (sym c.self.view_is) h in
    let k = worker_in w who s.server now c.in_ok-work.field-0 kept.server c.in_ok-work.ensures.outcome c.in_ok-work.ensures.idle in
    let o : Outcome = work_event w who (numbered 1 w.server.workers who) in
    let did : StepsAs w who k.server c.in-Step.stepped o = subst (λ (d : Worked). WorksAs w who k.server d o) c.in-Step.is k.outcome in
    c.tell_step.ensures.played w k.server w.records o did (stands-server s w now k.server kept k.is_server)

pub returns-in-Impossible-clause-keeps : goal.returns-in-Impossible-clause-keeps
returns-in-Impossible-clause-keeps c = keeps_all c.put_impossible.result (the_view c.self.inside) c.args.self.now c.self.view_is

pub returns-in-Impossible-clause-few : goal.returns-in-Impossible-clause-few
returns-in-Impossible-clause-few c = rose_none c.put_impossible.result 1 (the_view c.self.inside) c.args.self.now c.self.view_is

pub returns-in-Idle-clause-keeps : goal.returns-in-Idle-clause-keeps
returns-in-Idle-clause-keeps c = keeps_all c.put_idle.result (the_view c.self.inside) c.args.self.now c.self.view_is

pub returns-in-Idle-clause-few : goal.returns-in-Idle-clause-few
returns-in-Idle-clause-few c = rose_none c.put_idle.result 1 (the_view c.self.inside) c.args.self.now c.self.view_is

pub returns-in-Step-clause-keeps : goal.returns-in-Step-clause-keeps
returns-in-Step-clause-keeps c = keeps_since c.tell_step.result (the_view c.self.inside) c.args.self.now c.tell_step.new.self c.self.view_is c.tell_step.ensures.keeps

pub returns-in-Step-clause-few : goal.returns-in-Step-clause-few
returns-in-Step-clause-few c = rose_since c.tell_step.result 1 (the_view c.self.inside) c.args.self.now c.tell_step.new.self c.self.view_is c.tell_step.ensures.few
