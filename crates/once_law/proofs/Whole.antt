-- The invariant holds after any events, and `Once` follows from it.
use Rattle.std.proofs.Common.{suc, List, [], ◌∷◌, arith}
use Rattle.std.specs.Prelude.{ℕ, All, Contains}
use Rattle.call_rules.specs.Packet.{Packet}
use Rattle.replay_model.specs.declared.event.Event.{Event}
use Rattle.replay_model.specs.Once.{Once, WasStarted, TellsRun, FailedFor}
use Rattle.replay_model.specs.Record.{Failure}
use Rattle.replay_model.specs.Forms.{InRange}
use Rattle.replay_model.specs.Step.{step, run}
use Rattle.replay_model.specs.World.{World, first_world}
use Rattle.once_law.proofs.Lists.{all_of_members}
use Rattle.once_law.proofs.Places.{packet_number}
use Rattle.once_law.proofs.Parts.{Holds}
use Rattle.once_law.proofs.Laws.{Laws}
use Rattle.once_law.proofs.Arriving.{CanArrive, sent_can_arrive}
use Rattle.once_law.proofs.Steps.{Holds-step}
use Rattle.once_law.proofs.Booting.{Holds-first}

Holds-run : Laws → (w : World) (events : List Event) → All InRange events → Holds w → Holds (run w events)
Holds-run laws w [] r h = h
Holds-run laws w (e ∷ es) r h =
    Holds-run laws (step w e) es (λ k d l. r (suc k) d (omega (arith, l))) (Holds-step laws w e (r 0 e (omega arith)) h)

-- after any events that a line of a script can have
pub Holds-after : Laws → (small long : ℕ) (events : List Event) → All InRange events → Holds (run (first_world small long) events)
Holds-after laws small long events r = Holds-run laws (first_world small long) events r (Holds-first laws.exports small long)

-- each packet that was sent in the course of any events can arrive
pub all_can_arrive : Laws → (small long : ℕ) (events : List Event) (p : Packet) → All InRange events → Contains (run (first_world small long) events).bag p → CanArrive p
all_can_arrive laws small long events p r c =
    let n = packet_number (run (first_world small long) events).bag p c in
    sent_can_arrive ((Holds-after laws small long events r).sent n.0 p n.1)

pub once_holds : (w : World) → Holds w → Once w
once_holds w h =
    record {
      runs_once = h.told.runs_once;
      runs_were_started = all_of_members (WasStarted w.records) w.records.journal
          (λ r c.
          let s = h.told.runs_started r c in
          record { start = s.start; is_listed = s.is_listed; same_call = s.same_call; same_procedure = s.same_procedure; same_arguments = s.same_arguments });
      returns_tell_their_run = all_of_members (TellsRun w.records) w.records.returns
          (λ x c.
          let t = h.told.returns_run x c in
          record { run = t.run; is_listed = t.is_listed; same_call = t.same_call; same_signal = t.same_signal; same_reply = t.same_reply });
      returns_once = h.told.returns_once;
      failures_have_their_cause = all_of_members (λ (f : Failure). FailedFor w.records.started w.records.rejects w.bag f f.cause) w.records.failures h.told.failed;
    }
