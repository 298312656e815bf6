use Rattle.std.proofs.Common.{ℕ, ◌≤◌, List, sym, subst, arith, ◌≡◌, ◌<◌, [], ◌∷◌, refl}
use Rattle.std.proofs.lemmas.Result.{on_ok_weaker}
use Rattle.std.proofs.lemmas.Bool.{cond-true, cond-false, le-ltb, lt-ltb}
use Rattle.replay_model.specs.Record.{Impossible, Seconds}
use Rattle.replay_model.specs.Step.{impossible, second_event}
use Rattle.replay_model.specs.World.{World}
use Rattle.replay_lines.specs.Page.{Page}
use Rattle.replay_world.specs.Stored.{Stored}
use Rattle.replay_world.specs.Stands.{Stands}
use Rattle.replay_world.specs.contracts.world.World.{the_view}
use Rattle.replay_world.proofs.Standing.{plays_one, plays_as, stands-second}
use Rattle.replay_world.proofs.Rising.{keeps_all, rose_none}
use Rattle.replay_world.proofs.world.World.pass.Goals as goal

second_event-late : (w : World) (second : ℕ) → second ≤ w.second → second_event w second ≡ impossible w
second_event-late w second h = cond-false _ _ _ (le-ltb w.second second h)

second_event-passes : (w : World) (second : ℕ) → w.second < second → second_event w second ≡ record { world = record w { second = second }; acts = Seconds second ∷ [] }
second_event-passes w second h = cond-true _ _ _ (lt-ltb w.second second h)

pub returns-then-second-self-clause-played : goal.returns-then-second-self-clause-played
returns-then-second-self-clause-played c w h =
    let s : Stored = the_view c.self.inside in
    let before : Page = c.args.out.now in
    let kept : Stands s w = subst (λ (x : Stored). Stands x w) (sym c.self.view_is) h in
    let after : Page = c.put_impossible.new.out in
    let late : c.args.second ≤ w.second = omega (arith, kept.second) in
    rw (← c.self.view_is)
    (on_ok_weaker c.put_impossible.result (λ e. plays_as before after s w.records _ (impossible w) (second_event-late w c.args.second late)
    (plays_one before after s w w.records Impossible e kept)) c.put_impossible.ensures)

pub returns-clause-played : goal.returns-clause-played
returns-clause-played c w h =
    let s : Stored = the_view c.self.inside in
    let before : Page = c.args.out.now in
    let kept : Stands s w = subst (λ (x : Stored). Stands x w) (sym c.self.view_is) h in
    let after : Page = c.put_second.new.out in
    let n : ℕ = c.args.second in
    on_ok_weaker c.put_second.result (λ e. plays_as before after (record s { second = n }) w.records _ _ (second_event-passes w n (omega (arith, kept.second)))
    (plays_one before after (record s { second = n }) (record w { second = n }) w.records (Seconds n) e (stands-second s w n kept))) c.put_second.ensures

pub returns-then-second-self-clause-keeps : goal.returns-then-second-self-clause-keeps
returns-then-second-self-clause-keeps c = keeps_all c.put_impossible.result c.args.self.now c.args.self.now refl

pub returns-then-second-self-clause-few : goal.returns-then-second-self-clause-few
returns-then-second-self-clause-few c = rose_none c.put_impossible.result 1 c.args.self.now c.args.self.now refl

pub returns-clause-keeps : goal.returns-clause-keeps
returns-clause-keeps c = keeps_all c.put_second.result (the_view c.self.inside) c.args.self.now c.self.view_is

pub returns-clause-few : goal.returns-clause-few
returns-clause-few c = rose_none c.put_second.result 1 (the_view c.self.inside) c.args.self.now c.self.view_is
