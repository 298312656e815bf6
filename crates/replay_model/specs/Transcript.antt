-- What is printed of a script: the lines of its events, over the run from the first world.
use Rattle.std.specs.Prelude.{ℕ, List, [], ◌∷◌, ◌++◌}
use Rattle.replay_model.specs.declared.event.Event.{Event}
use Rattle.replay_model.specs.World.{World, first_world}
use Rattle.replay_model.specs.Step.{outcome, step, run}
use Rattle.replay_model.specs.Lines.{lines_of}
use Rattle.replay_model.specs.Script.{Script}

-- the lines that an event prints over a world
unfoldable pub lines : World → Event → List ℕ
lines w e = lines_of (outcome w e).acts

-- the lines of the events, one after another
abbrev pub lines_from : World → List Event → List ℕ
lines_from w [] = []
lines_from w (e ∷ es) = lines w e ++ lines_from (step w e) es

abbrev pub transcript : Script → List ℕ
transcript s = lines_from (first_world s.small s.long) s.events

-- the world after all events of a script
abbrev pub last_world : Script → World
last_world s = run (first_world s.small s.long) s.events
