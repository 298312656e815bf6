-- That an outcome of the model was played on the stored world.
use Rattle.std.specs.Prelude.{◌≡◌, ℕ, List, [], ◌∷◌, Bool, true, false}
use Rattle.call_rules.specs.Packet.{Call}
use Rattle.replay_model.specs.Record.{Act, Records, Cause, Fails, recorded_all}
use Rattle.replay_model.specs.World.{World}
use Rattle.replay_model.specs.Step.{Outcome}
use Rattle.replay_model.specs.Lines.{lines_of}
use Rattle.replay_lines.specs.Page.{Page, written}
use Rattle.replay_world.specs.Stands.{Stands}
use Rattle.replay_world.specs.Stored.{Stored}

-- the lines of the outcome were printed onto a page, and s stands for the world after it. r are the records before it
pub record Plays (before after : Page) (s : Stored) (r : Records) (o : Outcome) : Type 0 where
  pub printed : after ≡ written before (lines_of o.acts)
  pub stands : Stands s (record o.world { records = recorded_all r o.acts })

abbrev pub is_silent : List Act → Bool
is_silent [] = true
is_silent (a ∷ acts) = false

-- the same of a tick, which was quiet or not
pub record PlaysTick (quiet : Bool) (before after : Page) (s : Stored) (r : Records) (o : Outcome) : Type 0 where
  pub plays : Plays before after s r o
  pub silent : quiet ≡ is_silent o.acts

-- a call fails, for a cause
abbrev pub fails : World → Call → Cause → Outcome
fails w call cause = record { world = w; acts = Fails call cause ∷ [] }
