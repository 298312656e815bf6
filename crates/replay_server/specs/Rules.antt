-- That what a function gives is a row's step.
use Rattle.std.specs.Prelude.{◌≡◌, ℕ, None, unwrap_or}
use Rattle.call_rules.specs.Packet.{Packet}
use Rattle.call_rules.specs.Entry.{Entry, word_seen}
use Rattle.call_rules.specs.Worker as rules
use Rattle.replay_model.specs.Service.{served}
use Rattle.replay_model.specs.World.{has_buffer}
use Rattle.replay_server.specs.declared.step.Step.{Step}
use Rattle.replay_server.specs.declared.stage.Stage.{Stage}
use Rattle.replay_server.specs.declared.stage.Stage.TheVariants as stage
use Rattle.replay_server.specs.Service.{answer_of}
use Rattle.replay_server.specs.Stepped.{StandsFor}
use Rattle.replay_server.specs.Worker.{arguments_in, worker_after}

-- the step of a worker whose packet is p is the row's, which leaves the entry
pub record Keeps (p : Packet) (row : rules.Step) (step : Step) : Type 0 where
  pub worker : worker_after p step.next ≡ row.worker
  pub entry : row.entry ≡ None
  pub did : step.did ≡ row.did
  pub adds : StandsFor step.adds row.adds

-- the step of a worker whose packet is p is the row's, and so is the entry after it
pub record Exchanges (p : Packet) (row : rules.Step) (old new : Entry) (step : Step) : Type 0 where
  pub worker : worker_after p step.next ≡ row.worker
  pub entry : new ≡ unwrap_or row.entry old
  pub did : step.did ≡ row.did
  pub adds : StandsFor step.adds row.adds

-- the row for a worker that holds a packet
abbrev pub row_at : Packet → Stage → (total : ℕ) → Entry → rules.Step
row_at p (stage.Claimed seen) total e = rules.on_claimed has_buffer p (word_seen seen) e
row_at p stage.Took total e = rules.on_took p e
row_at p (stage.Admitted arguments) total e =
    rules.on_admitted has_buffer p (arguments_in arguments p.payload) (served total p.header.procedure (arguments_in arguments p.payload)).answer
row_at p (stage.Ran answer) total e = rules.on_ran p (answer_of answer)
row_at p stage.Fetched total e = rules.on_fetched p e

-- the total of the service after that
abbrev pub total_at : Packet → Stage → (total : ℕ) → ℕ
total_at p (stage.Admitted arguments) total = (served total p.header.procedure (arguments_in arguments p.payload)).total
total_at p _ total = total
