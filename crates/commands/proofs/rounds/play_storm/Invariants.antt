use Rattle.std.proofs.Common.{◌≡◌, ◌-◌}
use Rattle.commands.specs.Rounds.{Reached, storm_at}
use Rattle.commands.proofs.rounds.play_storm.Given as goal

abbrev pub decreases-loop-player : goal.decreases-loop-player
decreases-loop-player l = l.rounds - l.player.rounds

abbrev pub invariant-loop-player : goal.invariant-loop-player
invariant-loop-player l = record {
  reached : Reached l.player;
  draws : l.draws ≡ (storm_at l.player).x;
  options : l.player.options ≡ l.options;
}
