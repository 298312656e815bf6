use Rattle.std.proofs.Common.{◌≡◌, ◌≤◌, ◌<◌, arith}
use Rattle.std.proofs.lemmas.Result.{on_ok_weaker}
use Rattle.commands.specs.Rounds.{world_at}
use Rattle.commands.proofs.DrawnRounds.{kind_of_start, kind_of_delivery, kind_of_work, kind_of_tick, kind_of_damage, kind_of_restart}
use Rattle.commands.proofs.PlayedRounds.{plays_same}
use Rattle.commands.proofs.rounds.Player.play.Goals as goal

pub returns-in-0-to-2 : goal.returns-in-0-to-2
returns-in-0-to-2 c =
    let old = c.args.self.now in
    on_ok_weaker c.start.result
    (plays_same old c.start.new.self c.start.new.draws _ _ (kind_of_start old.options.calls (world_at old) c.args.kind c.args.draws.now (omega arith)))
    c.start.ensures

pub returns-in-3-to-7 : goal.returns-in-3-to-7
returns-in-3-to-7 c =
    let old = c.args.self.now in
    on_ok_weaker c.deliver.result
    (plays_same old c.deliver.new.self c.deliver.new.draws _ _ (kind_of_delivery old.options.calls (world_at old) c.args.kind c.args.draws.now (omega arith) (omega arith)))
    c.deliver.ensures

pub returns-in-8-to-11 : goal.returns-in-8-to-11
returns-in-8-to-11 c =
    let old = c.args.self.now in
    on_ok_weaker c.work.result
    (plays_same old c.work.new.self c.work.new.draws _ _ (kind_of_work old.options.calls (world_at old) c.args.kind c.args.draws.now (omega arith) (omega arith)))
    c.work.ensures

pub returns-in-12 : goal.returns-in-12
returns-in-12 c =
    let old = c.args.self.now in
    on_ok_weaker c.tick.result
    (plays_same old c.tick.new.self c.tick.new.draws _ _ (kind_of_tick old.options.calls (world_at old) c.args.kind c.args.draws.now (omega arith) (omega arith)))
    c.tick.ensures

pub returns-in-14 : goal.returns-in-14
returns-in-14 c =
    let old = c.args.self.now in
    on_ok_weaker c.damage.result
    (plays_same old c.damage.new.self c.damage.new.draws _ _ (kind_of_damage old.options.calls (world_at old) c.args.kind c.args.draws.now (omega arith)))
    c.damage.ensures

pub returns-in_default : goal.returns-in_default
returns-in_default c =
    let old = c.args.self.now in
    on_ok_weaker c.restart.result
    (plays_same old c.restart.new.self c.restart.new.draws _ _ (kind_of_restart old.options.calls (world_at old) c.args.kind c.args.draws.now (omega arith)))
    c.restart.ensures
