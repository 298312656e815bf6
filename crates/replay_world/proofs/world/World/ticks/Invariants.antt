use Rattle.replay_model.specs.World.{World}
use Rattle.replay_world.specs.Stored.{RoseByAtMost, Keeps}
use Rattle.replay_world.specs.Stands.{Stands}
use Rattle.replay_world.proofs.Ticking.{Passed}
use Rattle.replay_world.proofs.world.World.ticks.Given as goal

abbrev pub invariant-loop-passed : goal.invariant-loop-passed
invariant-loop-passed l = record {
  few : RoseByAtMost l._passed l.fn.self l.self;
  keeps : Keeps l.fn.self l.self;
  played : (w : World) → Stands l.fn.self w → Passed w l.fn.machine l.fn.process l._passed l.fn.out l.out l.self l.is_quiet;
}
