-- The invariant, as parts: each is a record over exactly what it reads of the world. `Once` follows from them.
use Rattle.std.proofs.Common.{◌≡◌, ◌≢◌, ℕ, ◌^◌, ◌<◌, ◌≤◌, ◌+◌, List, length, map, Option, Some, None, true, false}
use Rattle.std.specs.Prelude.{Contains}
use Rattle.binder.specs.Exports.{Exports}
use Rattle.binder.specs.Sound.{AreSound}
use Rattle.rpc_header.specs.declared.Activity.{Activity}
use Rattle.call_rules.specs.Packet.{Packet}
use Rattle.call_rules.specs.Entry.{Entry, word_of}
use Rattle.call_rules.specs.Worker.{Worker, Resting, Claimed, Took, Admitted, Ran, Fetched, Run}
use Rattle.call_rules.specs.Caller.{is_idle, current_call}
use Rattle.replay_model.specs.Once.{NoneTwice, call_of_run, call_of_return, sent_since, FailedFor}
use Rattle.replay_model.specs.Process.{Line}
use Rattle.replay_model.specs.Record.{Start, Return, Failure, Marked}
use Rattle.replay_model.specs.World.{World, Client, numbered, packet_at, entry_at, is_entry_activity, number_limit}
use Rattle.lawful_rules.specs.Known.{Known, known}
use Rattle.lawful_rules.specs.Facts.{Life, HasReply, HasRun, IsRequest, IsSent, IsEntry, Remembers, carrier, IsWorkerAt, IsLine, IsMarked}
use Rattle.once_law.proofs.Places.{EachLine}

-- the server's life
abbrev pub life : World → Life
life w = record { boot = w.server.boot; read = w.server.read }

pub record Names (clients : List Client) (started : List Start) : Type 0 where
  -- a process has started only calls of numbers below its next
  pub below_next : EachLine clients (λ m p l. (s : Start) → Contains started s → s.call.activity ≡ l.caller.activity → s.call.number < l.next)
  -- a call has one start
  pub one_start : (s t : Start) → Contains started s → Contains started t → s.call ≡ t.call → s ≡ t

-- what holds of each client
abbrev pub EachClient : List Client → (ℕ → Client → Type 0) → Type 0
EachClient clients P = (m : ℕ) (c : Client) → numbered 2 clients m ≡ Some c → P m c

pub record Reads (second : ℕ) (clients : List Client) (started : List Start) : Type 0 where
  -- a client read no second that is still to come
  pub read_first : EachClient clients (λ m c. c.read ≤ second)
  -- it has started only calls whose numbers a later second than those that it has read doesn't give
  pub below_read : EachClient clients (λ m c. (s : Start) → Contains started s → s.call.activity.machine ≡ m → s.call.number < number_limit c.read)

pub record Lives (second : ℕ) (f : Life) (exports : Exports) (started : List Start) (journal : List Run) : Type 0 where
  -- the server read the second when it booted, and no second that is still to come
  pub boot_first : f.boot ≤ f.read
  pub read_first : f.read ≤ second
  -- the numbers of calls have room in a header
  pub second_fits : second < 2 ^ 32
  -- the server's exports are of this life, and the next identifier is at most one ahead of the seconds read
  pub sound : AreSound f.boot exports
  pub next_read : exports.next ≤ f.read + 1
  -- what ran was bound to an export that is there by now
  pub runs_read : (r : Run) → Contains journal r → (s : Start) → Contains started s → s.call ≡ r.call → s.export.identifier ≤ f.read

-- each process is as its state says
abbrev pub Lines : Known → List Client → Type 0
Lines k clients = EachLine clients (IsLine k)

abbrev pub HasNoReturn : List Return → Line → Type 0
HasNoReturn returns l = is_idle l.caller.state ≡ false → (x : Return) → Contains returns x → x.call ≢ current_call l.caller

-- a call that is open didn't return
abbrev pub Unreturned : List Client → List Return → Type 0
Unreturned clients returns = EachLine clients (λ m p l. HasNoReturn returns l)

-- what a process sent since its last begin or counted packet is as its state says
abbrev pub Marks : List Client → List Marked → List Packet → Type 0
Marks clients marks bag = EachLine clients (λ m p l. IsMarked bag l.caller (sent_since l.caller.activity marks))

-- each packet in the bag was sent by a caller or by the server
abbrev pub Sent : Known → Type 0
Sent k = (n : ℕ) (p : Packet) → packet_at k.bag n ≡ Some p → IsSent k n p

-- each packet that is ready was sent by a caller
abbrev pub Ready : Known → List Packet → Type 0
Ready k ready = (p : Packet) → Contains ready p → IsRequest k p

-- the packet of a worker that has its entry's item, or its entry's call, in hand
abbrev pub owned : Worker → Option Packet
owned Resting = None
owned (Claimed p seen) = None
owned (Took p) = Some p
owned (Admitted p arguments) = Some p
owned (Ran p answer) = Some p
owned (Fetched p) = Some p

-- a worker owns nothing of this activity
abbrev pub OwnsElsewhere : Activity → Worker → Type 0
OwnsElsewhere a v = (p : Packet) → owned v ≡ Some p → p.header.call.activity ≢ a

-- a worker, by the entry of its packet's activity
pub record IsWorker (k : Known) (f : Life) (entries : List Entry) (v : Worker) : Type 0 where
  pub has_entry : (p : Packet) → carrier v ≡ Some p → is_entry_activity p.header.call.activity ≡ true
  pub at_entry : (p : Packet) → carrier v ≡ Some p → (e : Entry) → entry_at entries p.header.call.activity ≡ Some e → IsWorkerAt k f v e

pub record Workers (k : Known) (f : Life) (entries : List Entry) (workers : List Worker) : Type 0 where
  -- each worker is as its state says
  pub works : (i : ℕ) (v : Worker) → numbered 1 workers i ≡ Some v → IsWorker k f entries v
  -- no two workers own of one activity
  pub apart : (i j : ℕ) (v u : Worker) → numbered 1 workers i ≡ Some v → numbered 1 workers j ≡ Some u → i ≢ j →
      (p : Packet) → owned v ≡ Some p → OwnsElsewhere p.header.call.activity u

-- this entry remembers each run of an activity that was bound in this life
abbrev pub RemembersRuns : Known → Life → Activity → Entry → Type 0
RemembersRuns k f a e =
    (r : Run) → Contains k.journal r → r.call.activity ≡ a →
    (s : Start) → Contains k.started s → s.call ≡ r.call → f.boot ≤ s.export.identifier → Remembers (word_of e) r.call.number

pub record Entries (k : Known) (f : Life) (entries : List Entry) : Type 0 where
  -- there is one for each process of each client
  pub count : length entries ≡ 64
  -- each entry is as its state says
  pub each : (a : Activity) (e : Entry) → entry_at entries a ≡ Some e → IsEntry k a e
  -- each entry remembers the runs of this life
  pub remembered : (a : Activity) (e : Entry) → entry_at entries a ≡ Some e → RemembersRuns k f a e

-- a run is of a call that was started, with its procedure and its arguments
pub record IsStartedRun (k : Known) (r : Run) : Type 0 where
  pub start : Start
  pub is_listed : Contains k.started start
  pub same_call : start.call ≡ r.call
  pub same_procedure : start.procedure ≡ r.procedure
  pub same_arguments : start.arguments ≡ r.arguments

pub record Told (k : Known) (returns : List Return) (failures : List Failure) : Type 0 where
  -- each run was started
  pub runs_started : (r : Run) → Contains k.journal r → IsStartedRun k r
  -- the reply of each run can be sent
  pub replies : (r : Run) → Contains k.journal r → HasReply r.signal r.reply
  -- no call ran twice
  pub runs_once : NoneTwice (map call_of_run k.journal)
  -- each return tells its run
  pub returns_run : (x : Return) → Contains returns x → HasRun k x.call x.signal x.reply
  -- no call returned twice
  pub returns_once : NoneTwice (map call_of_return returns)
  -- each failure has its cause
  pub failed : (f : Failure) → Contains failures f → FailedFor k.started k.rejects k.bag f f.cause

-- the invariant
pub record Holds (w : World) : Type 0 where
  pub names : Names w.clients w.records.started
  pub reads : Reads w.second w.clients w.records.started
  pub lives : Lives w.second (life w) w.server.exports w.records.started w.records.journal
  pub lines : Lines (known w) w.clients
  pub unreturned : Unreturned w.clients w.records.returns
  pub marks : Marks w.clients w.records.marks w.bag
  pub sent : Sent (known w)
  pub ready : Ready (known w) w.server.ready
  pub workers : Workers (known w) (life w) w.server.entries w.server.workers
  pub entries : Entries (known w) (life w) w.server.entries
  pub told : Told (known w) w.records.returns w.records.failures
