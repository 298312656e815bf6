-- What is positive stays true as more becomes known.
use Rattle.std.proofs.Common.{◌≡◌, ℕ, ◌-◌, List, [], ◌∷◌, Option, Bool, refl}
use Rattle.std.specs.Prelude.{All}
use Rattle.std.proofs.lemmas.List.Elements.{All-weaker, Contains-append_left}
use Rattle.rpc_header.specs.declared.Activity.{Activity}
use Rattle.rpc_header.specs.declared.Kind.{Kind}
use Rattle.rpc_header.specs.declared.Kind.TheVariants as kind
use Rattle.binder.specs.declared.row.ExportRow.{ExportRow}
use Rattle.call_rules.specs.Packet.{Call, Packet}
use Rattle.call_rules.specs.Entry.{Entry}
use Rattle.call_rules.specs.Entry as entry
use Rattle.call_rules.specs.Worker.{Worker, Resting, Claimed, Took, Admitted, Ran, Fetched, Run, Adds, Nothing, ARun, APacket, ARejection}
use Rattle.call_rules.specs.Caller.{Caller, State, current_call}
use Rattle.call_rules.specs.Caller as caller
use Rattle.replay_model.specs.Once.{IsTransmission, FailedFor}
use Rattle.replay_model.specs.Process.{Line, Said, Sends}
use Rattle.replay_model.specs.Record.{Start, Failure, Cause, Unanswered, RefusedFor}
use Rattle.lawful_rules.specs.Known.{Known, Grows, with_start, with_sent, with_adds}
use Rattle.lawful_rules.specs.Facts.{Life, HasRun, Requests, IsRequest, Answers, IsAnswer, IsSent, Gathers, IsEntry, IsCarrier, HasNotRun, IsWorkerAt, IsCall, IsOpenIn, IsLine, AreAlike, IsMarkedIn, IsMarked}
use Rattle.lawful_rules.specs.Lawful.{Way, ByStart, ByBind, ByPacket, ByTick, known_by, known_after}
use Rattle.once_law.proofs.Places.{packet_kept}
use Rattle.once_law.proofs.Parts.{IsStartedRun}

-- What grows.

pub Grows-itself : (k : Known) → Grows k k
Grows-itself k = record { started = λ s c. c; journal = λ r c. c; rejects = λ r c. c; bag = λ n p e. e }

pub Grows-then : {a b c : Known} → Grows a b → Grows b c → Grows a c
Grows-then g h =
    record {
      started = λ s x. h.started s (g.started s x);
      journal = λ r x. h.journal r (g.journal r x);
      rejects = λ r x. h.rejects r (g.rejects r x);
      bag = λ n p x. h.bag n p (g.bag n p x);
    }

pub Grows-with_start : (k : Known) (s : Start) → Grows k (with_start k s)
Grows-with_start k s =
    record { started = λ t c. Contains-append_left k.started (s ∷ []) t c; journal = λ r c. c; rejects = λ r c. c; bag = λ n p e. e }

pub Grows-with_sent : (k : Known) (q : Packet) → Grows k (with_sent k q)
Grows-with_sent k q =
    record { started = λ s c. c; journal = λ r c. c; rejects = λ r c. c; bag = λ n p e. packet_kept k.bag q n p e }

pub Grows-with_adds : (k : Known) (rows : List (Option ExportRow)) (a : Adds) → Grows k (with_adds k rows a)
Grows-with_adds k rows Nothing = Grows-itself k
Grows-with_adds k rows (ARun r) =
    record { started = λ s c. c; journal = λ t c. Contains-append_left k.journal (r ∷ []) t c; rejects = λ t c. c; bag = λ n p e. e }
Grows-with_adds k rows (APacket q) = Grows-with_sent k q
Grows-with_adds k rows (ARejection q) =
    record {
      started = λ s c. c;
      journal = λ r c. c;
      rejects = λ r c. Contains-append_left k.rejects _ r c;
      bag = λ n p e. packet_kept k.bag q n p e;
    }

pub Grows-known_by : (k : Known) (way : Way) → Grows k (known_by k way)
Grows-known_by k (ByStart s) = Grows-with_start k s
Grows-known_by k (ByPacket n p) = Grows-itself k
Grows-known_by k (ByBind call) = Grows-itself k
Grows-known_by k ByTick = Grows-itself k

pub Grows-known_after : (k : Known) (said : Said) → Grows k (known_after k said)
Grows-known_after k (Sends p) = Grows-with_sent k p
Grows-known_after k _ = Grows-itself k

-- Runs and packets.

pub HasRun-grows : {a b : Known} {call : Call} {signal : Bool} {reply : List ℕ} → Grows a b → HasRun a call signal reply → HasRun b call signal reply
HasRun-grows g h =
    record { run = h.run; is_listed = g.journal h.run h.is_listed; same_call = h.same_call; same_signal = h.same_signal; same_reply = h.same_reply }

pub IsStartedRun-grows : {a b : Known} {r : Run} → Grows a b → IsStartedRun a r → IsStartedRun b r
IsStartedRun-grows g h =
    record {
      start = h.start;
      is_listed = g.started h.start h.is_listed;
      same_call = h.same_call;
      same_procedure = h.same_procedure;
      same_arguments = h.same_arguments;
    }

Requests-grows : {a b : Known} → Grows a b → (p : Packet) (k : Kind) → Requests a p k → Requests b p k
Requests-grows g p kind.Call h = record { arguments = h.arguments; was_started = g.started _ h.was_started; carries = h.carries }
Requests-grows g p kind.Ack h = record { arguments = h.arguments; was_started = g.started _ h.was_started }
Requests-grows g p kind.Probe h = record { arguments = h.arguments; was_started = g.started _ h.was_started }
Requests-grows g p _ h = h

pub IsRequest-grows : {a b : Known} {p : Packet} → Grows a b → IsRequest a p → IsRequest b p
IsRequest-grows {a} {b} {p} g h =
    record {
      from_client = h.from_client;
      to_server = h.to_server;
      names_sender = h.names_sender;
      has_entry = h.has_entry;
      requests = Requests-grows g p p.header.kind h.requests;
      framed = h.framed;
    }

Answers-grows : {a b : Known} → Grows a b → (n : ℕ) (p : Packet) (k : Kind) → Answers a n p k → Answers b n p k
Answers-grows g n p kind.Result h = record { reply = h.reply; has_run = HasRun-grows g h.has_run; carries = h.carries }
Answers-grows g n p kind.Signal h = record { reply = h.reply; has_run = HasRun-grows g h.has_run; carries = h.carries }
Answers-grows g n p kind.Reject h =
    record {
      arguments = h.arguments;
      was_started = g.started _ h.was_started;
      rejection = h.rejection;
      is_listed = g.rejects h.rejection h.is_listed;
      of_packet = h.of_packet;
      answered = h.answered;
    }
Answers-grows g n p _ h = h

pub IsAnswer-grows : {a b : Known} {n : ℕ} {p : Packet} → Grows a b → IsAnswer a n p → IsAnswer b n p
IsAnswer-grows {a} {b} {n} {p} g h =
    record {
      to_client = h.to_client;
      names_receiver = h.names_receiver;
      answers = Answers-grows g n p p.header.kind h.answers;
      framed = h.framed;
    }

pub IsSent-grows : {a b : Known} {n : ℕ} {p : Packet} → Grows a b → IsSent a n p → IsSent b n p
IsSent-grows g h = record { to_server = λ e. IsRequest-grows g (h.to_server e); to_client = λ e. IsAnswer-grows g (h.to_client e) }

-- Entries and workers.

Gathers-grows : {a b : Known} {call : Call} {bytes : List ℕ} {next : ℕ} → Grows a b → Gathers a call bytes next → Gathers b call bytes next
Gathers-grows g h =
    record {
      export = h.export;
      procedure = h.procedure;
      arguments = h.arguments;
      was_started = g.started _ h.was_started;
      gathered = h.gathered;
      begun = h.begun;
      within = h.within;
    }

pub IsEntry-grows : {a b : Known} → Grows a b → (activity : Activity) (e : Entry) → IsEntry a activity e → IsEntry b activity e
IsEntry-grows g activity entry.Empty h = h
IsEntry-grows g activity (entry.Gather n bytes next) h = Gathers-grows g h
IsEntry-grows g activity (entry.Filling n bytes next) h = Gathers-grows g h
IsEntry-grows g activity (entry.Running n) h = h
IsEntry-grows g activity (entry.Done n signal reply) h = HasRun-grows g h
IsEntry-grows g activity (entry.Sending n signal reply) h = HasRun-grows g h

IsCarrier-grows : {a b : Known} {f : Life} {p : Packet} → Grows a b → IsCarrier a f p → IsCarrier b f p
IsCarrier-grows g h =
    record { request = IsRequest-grows g h.request; no_bind = h.no_bind; after_boot = h.after_boot; up_to_read = h.up_to_read }

-- of an admitted call there is still no run
pub IsWorkerAt-grows : {a b : Known} → Grows a b → (f : Life) (v : Worker) (e : Entry) → ((p : Packet) (arguments : List ℕ) → v ≡ Admitted p arguments → HasNotRun a p → HasNotRun b p) → IsWorkerAt a f v e → IsWorkerAt b f v e
IsWorkerAt-grows g f Resting e n h = h
IsWorkerAt-grows g f (Claimed p seen) e n h = IsCarrier-grows g h
IsWorkerAt-grows g f (Took p) e n h = (IsCarrier-grows g h.0, h.1, h.2)
IsWorkerAt-grows g f (Admitted p arguments) e n h = (IsCarrier-grows g h.0, h.1, g.started _ h.2, n p arguments refl h.3)
IsWorkerAt-grows g f (Ran p answer) e n h = (IsCarrier-grows g h.0, h.1, HasRun-grows g h.2)
IsWorkerAt-grows g f (Fetched p) e n h = (IsCarrier-grows g h.0, h.1)

-- Processes.

IsCall-grows : {a b : Known} {l : Line} → Grows a b → IsCall a l → IsCall b l
IsCall-grows g h = record { was_started = g.started _ h.was_started; final_is = h.final_is }

IsOpenIn-grows : {a b : Known} → Grows a b → (l : Line) (s : State) → IsOpenIn a l s → IsOpenIn b l s
IsOpenIn-grows g l caller.Idle h = h
IsOpenIn-grows g l (caller.Sending i) h = (IsCall-grows g h.0, h.1, h.2)
IsOpenIn-grows g l caller.Waiting h = (IsCall-grows g h.0, h.1)
IsOpenIn-grows g l (caller.Receiving j) h = (
  IsCall-grows g h.0,
  record { reply = h.1.reply; has_run = HasRun-grows g h.1.has_run; begun = h.1.begun; within = h.1.within; kept = h.1.kept },
)
IsOpenIn-grows g l caller.Binding h = h

pub IsLine-grows : {a b : Known} {m p : ℕ} {l : Line} → Grows a b → IsLine a m p l → IsLine b m p l
IsLine-grows {a} {b} {m} {p} {l} g h =
    record {
      own_activity = h.own_activity;
      has_entry = h.has_entry;
      has_room = h.has_room;
      is_open = IsOpenIn-grows g l l.caller.state h.is_open;
    }

-- Marks and failures.

IsTransmission-grows : {a b : Known} {call : Call} {k : Kind} {fragment n : ℕ} → Grows a b → IsTransmission a.bag call k fragment n → IsTransmission b.bag call k fragment n
IsTransmission-grows {a} {b} {call} {k} {fragment} {n} g h =
    record {
      packet = h.packet;
      is_there = g.bag n h.packet h.is_there;
      same_call = h.same_call;
      same_kind = h.same_kind;
      same_fragment = h.same_fragment;
    }

alike_grows : {a b : Known} → Grows a b → (call : Call) (k : Kind) (fragment : ℕ) (sent : List ℕ) → All (IsTransmission a.bag call k fragment) sent → All (IsTransmission b.bag call k fragment) sent
alike_grows {a} {b} g call k fragment sent h =
    All-weaker (IsTransmission a.bag call k fragment) (IsTransmission b.bag call k fragment) (λ n t. IsTransmission-grows g t) sent h

AreAlike-grows : {a b : Known} → Grows a b → (c : Caller) (k : Kind) (fragment : ℕ) (sent : List ℕ) → AreAlike a.bag c k fragment sent → AreAlike b.bag c k fragment sent
AreAlike-grows g c k fragment sent h =
    record { counted = h.counted; within = h.within; alike = alike_grows g (current_call c) k fragment sent h.alike }

IsMarkedIn-grows : {a b : Known} → Grows a b → (c : Caller) (s : State) (sent : List ℕ) → IsMarkedIn a.bag c s sent → IsMarkedIn b.bag c s sent
IsMarkedIn-grows g c caller.Idle sent h = h
IsMarkedIn-grows g c (caller.Sending i) sent h = AreAlike-grows g c kind.Call i sent h
IsMarkedIn-grows g c caller.Waiting sent h = AreAlike-grows g c kind.Probe c.final sent h
IsMarkedIn-grows g c (caller.Receiving j) sent h = AreAlike-grows g c kind.Ack (j - 1) sent h
IsMarkedIn-grows g c caller.Binding sent h = h

pub IsMarked-grows : {a b : Known} → Grows a b → (c : Caller) (sent : List ℕ) → IsMarked a.bag c sent → IsMarked b.bag c sent
IsMarked-grows g c sent h = IsMarkedIn-grows g c c.state sent h

pub FailedFor-grows : {a b : Known} → Grows a b → (f : Failure) (cause : Cause) → FailedFor a.started a.rejects a.bag f cause → FailedFor b.started b.rejects b.bag f cause
FailedFor-grows g f Unanswered h =
    record { kind = h.kind; fragment = h.fragment; eight = h.eight; alike = alike_grows g f.call h.kind h.fragment _ h.alike }
FailedFor-grows g f (RefusedFor reason) h =
    record {
      number = h.number;
      packet = h.packet;
      is_there = g.bag h.number h.packet h.is_there;
      is_reject = h.is_reject;
      same_call = h.same_call;
      same_reason = h.same_reason;
      was_heard = h.was_heard;
      rejection = h.rejection;
      is_rejection = g.rejects h.rejection h.is_rejection;
      of_packet = h.of_packet;
      start = h.start;
      is_started = g.started h.start h.is_started;
      start_of_call = h.start_of_call;
      answered = h.answered;
    }
