-- What a step makes of a worker, of the service's total and of the entries.
use Rattle.std.specs.Prelude.{◌≡◌, ℕ, List, Option, Some, None, unwrap_or, slice_get, slice_set}
use Rattle.call_rules.specs.Packet.{Packet}
use Rattle.call_rules.specs.Entry.{Entry, Empty}
use Rattle.call_rules.specs.Worker as rules
use Rattle.replay_model.specs.World.{Server, entry_at}
use Rattle.replay_model.specs.Step.{exchanged}
use Rattle.replay_server.specs.declared.step.Step.{Step}
use Rattle.replay_server.specs.declared.step.Stepped.{Stepped}
use Rattle.replay_server.specs.declared.stage.Stage.{Stage}
use Rattle.replay_server.specs.Rules.{row_at, total_at}
use Rattle.replay_server.specs.Stepped.{StandsFor}
use Rattle.replay_server.specs.Worker.{worker_at, worker_after}

-- the row for a worker that holds a packet, over the entries
abbrev pub row_over : Packet → Stage → (total : ℕ) → List Entry → rules.Step
row_over p s total es = row_at p s total (unwrap_or (entry_at es p.header.call.activity) Empty)

-- the step of a worker whose packet is p is the row's, and so are the entries after it
pub record ExchangesIn (p : Packet) (row : rules.Step) (old new : List Entry) (step : Step) : Type 0 where
  pub worker : worker_after p step.next ≡ row.worker
  pub entries : new ≡ exchanged old p.header.call.activity row.entry
  pub did : step.did ≡ row.did
  pub adds : StandsFor step.adds row.adds

-- a worker that held a packet has gone on, by the row for it
pub record GoesOn (w0 w1 : rules.Worker) (t0 t1 : ℕ) (es0 es1 : List Entry) (x : Stepped) : Type 0 where
  pub carrier : Packet
  pub stage : Stage
  pub was : w0 ≡ worker_at carrier stage
  pub worker : w1 ≡ (row_over carrier stage t0 es0).worker
  pub entries : es1 ≡ exchanged es0 carrier.header.call.activity (row_over carrier stage t0 es0).entry
  pub total : t1 ≡ total_at carrier stage t0
  pub number : x.number.value ≡ carrier.header.call.number
  pub did : x.did ≡ (row_over carrier stage t0 es0).did
  pub adds : StandsFor x.adds (row_over carrier stage t0 es0).adds

-- an idle worker changes nothing
abbrev pub Goes : (w0 w1 : rules.Worker) → (t0 t1 : ℕ) → (es0 es1 : List Entry) → Option Stepped → Type 0
Goes w0 w1 t0 t1 es0 es1 None = (w0 ≡ rules.Resting) × (w1 ≡ w0) × (t1 ≡ t0) × (es1 ≡ es0)
Goes w0 w1 t0 t1 es0 es1 (Some x) = GoesOn w0 w1 t0 t1 es0 es1 x

-- the worker at a place of a server has gone on
pub record GoesOnAt (place : ℕ) (old new : Server) (x : Option Stepped) : Type 0 where
  pub before : rules.Worker
  pub after : rules.Worker
  pub there : slice_get old.workers place ≡ Some before
  pub server : new ≡ record old { workers = slice_set old.workers place after; entries = new.entries; total = new.total }
  pub goes : Goes before after old.total new.total old.entries new.entries x
