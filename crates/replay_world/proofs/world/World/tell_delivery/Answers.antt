use Rattle.std.proofs.Common.{ℕ, List, sym, subst, refl}
use Rattle.std.proofs.lemmas.Result.{on_ok_weaker}
use Rattle.call_rules.specs.Packet.{call_of}
use Rattle.replay_model.specs.Record.{Hears, recorded}
use Rattle.replay_model.specs.Step.{behind}
use Rattle.replay_client.specs.Client.{HearsAs}
use Rattle.replay_lines.specs.Page.{Page}
use Rattle.replay_world.specs.Delivery.{TakenAs}
use Rattle.replay_world.specs.declared.delivery.Taken.{Taken}
use Rattle.replay_world.specs.Stored.{Stored}
use Rattle.replay_world.proofs.Pages.{written-nothing}
use Rattle.replay_world.proofs.Standing.{plays_behind, plays_as, stands-beside}
use Rattle.replay_world.proofs.Rising.{keeps_all, rose_none}
use Rattle.replay_world.proofs.world.World.tell_delivery.Goals as goal

pub returns-in-Hears-clause-played : goal.returns-in-Hears-clause-played
returns-in-Hears-clause-played c w o taken h =
    let s : Stored = c.args.self.now in
    let before : Page = c.args.out.now in
    let after : Page = c.tell.new.out in
    let k : ℕ = c.args.number in
    let heard : HearsAs w k c.in-Hears.told o = subst (λ (t : Taken). TakenAs w k t o) c.in-Hears.is taken in
    let act = Hears (call_of c.in-Hears.told.call).activity k in
    on_ok_weaker c.tell.result (λ p.
    plays_as before after c.tell.new.self w.records o (behind act heard.rest) heard.outcome
    (plays_behind before before after c.tell.new.self w.records act heard.rest (sym (written-nothing before)) p))
    (c.tell.ensures.played w (recorded w.records act) heard.rest heard.tells (stands-beside s w (recorded w.records act) refl refl refl h))

pub returns-in-Readied-clause-keeps : goal.returns-in-Readied-clause-keeps
returns-in-Readied-clause-keeps c = keeps_all c.put_ready.result c.args.self.now c.args.self.now refl

pub returns-in-Readied-clause-few : goal.returns-in-Readied-clause-few
returns-in-Readied-clause-few c = rose_none c.put_ready.result 1 c.args.self.now c.args.self.now refl

pub returns-in-Dropped-clause-keeps : goal.returns-in-Dropped-clause-keeps
returns-in-Dropped-clause-keeps c = keeps_all c.put_discard.result c.args.self.now c.args.self.now refl

pub returns-in-Dropped-clause-few : goal.returns-in-Dropped-clause-few
returns-in-Dropped-clause-few c = rose_none c.put_discard.result 1 c.args.self.now c.args.self.now refl
