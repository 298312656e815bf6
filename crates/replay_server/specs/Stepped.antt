-- What a worker's step stands for: a row's step, and an outcome of the model.
use Rattle.std.specs.Prelude.{◌≡◌, ℕ, [], ◌∷◌}
use Rattle.call_rules.specs.Worker.{Run}
use Rattle.call_rules.specs.Worker as rules
use Rattle.replay_model.specs.Digests.{run_digest}
use Rattle.replay_model.specs.Record.{Idles, Works}
use Rattle.replay_model.specs.World.{World, Server}
use Rattle.replay_model.specs.Step.{Outcome, adds, impossible}
use Rattle.replay_server.specs.declared.step.Adds.{Adds}
use Rattle.replay_server.specs.declared.step.Adds.TheVariants as added
use Rattle.replay_server.specs.declared.step.Stepped.{Stepped}
use Rattle.replay_server.specs.declared.step.Worked.{Worked}
use Rattle.replay_server.specs.declared.step.Worked.TheVariants as worked

-- the same is added; of a run its digests are kept
abbrev pub StandsFor : Adds → rules.Adds → Type 0
StandsFor added.Nothing adds = adds ≡ rules.Nothing
StandsFor (added.Run line) adds = (run : Run) × (adds ≡ rules.ARun run) × (line ≡ run_digest run)
StandsFor (added.Packet p) adds = adds ≡ rules.APacket p
StandsFor (added.Rejection p) adds = adds ≡ rules.ARejection p

-- the outcome of a worker's step; s is the server after it
pub record StepsAs (w : World) (who : ℕ) (s : Server) (x : Stepped) (o : Outcome) : Type 0 where
  pub added : rules.Adds
  pub stands : StandsFor x.adds added
  pub outcome : o ≡ adds (record w { server = s }) (Works who x.number.value x.did) added

-- the outcome that a worker's answer stands for; s is the server after it
abbrev pub WorksAs : World → (who : ℕ) → Server → Worked → Outcome → Type 0
WorksAs w who s worked.Impossible o = o ≡ impossible w
WorksAs w who s worked.Idle o = o ≡ record { world = w; acts = Idles who ∷ [] }
WorksAs w who s (worked.Step x) o = StepsAs w who s x o

-- a worker that does nothing changes nothing
abbrev pub KeepsIdle : Worked → (old new : Server) → Type 0
KeepsIdle (worked.Step x) old new = Unit {0}
KeepsIdle _ old new = new ≡ old
