-- What happens in an event, and the records that are kept of it. They belong to the world and outlive
-- restarts of its machines.
use Rattle.std.specs.Prelude.{ℕ, List, [], ◌∷◌, ◌++◌, length, filter, Option, Bool, true, false, not}
use Rattle.rpc_header.specs.declared.Activity.{Activity}
use Rattle.rpc_header.specs.declared.Export.{Export}
use Rattle.binder.specs.declared.row.ExportRow.{ExportRow}
use Rattle.binder.specs.declared.row.ExportFault.{ExportFault}
use Rattle.call_rules.specs.Packet.{Call, Packet}
use Rattle.call_rules.specs.Worker.{Run}
use Rattle.call_rules.specs.declared.worker.Did.{Did}
use Rattle.replay_model.specs.declared.discard.Discard.{Discard}

-- an accepted start of a call
pub record Start : Type 0 where
  pub call : Call
  pub export : Export
  pub procedure : ℕ
  pub arguments : List ℕ

-- a call that returned, with its reply or its signal
pub record Return : Type 0 where
  pub call : Call
  pub signal : Bool
  pub reply : List ℕ

pub data Cause : Type 0 where
  Unanswered : Cause
  RefusedFor : (reason : ℕ) → Cause

-- what an activity saw: the begin of a call or a bind, a packet of its own by its number, and a counted
-- packet that was delivered to it
pub data Mark : Type 0 where
  Begin : Mark
  SentPacket : (packet : ℕ) → Mark
  Heard : (packet : ℕ) → Mark

pub record Marked : Type 0 where
  pub activity : Activity
  pub mark : Mark

-- a call that failed, with the marks of that moment
pub record Failure : Type 0 where
  pub call : Call
  pub cause : Cause
  pub marks : List Marked

-- a Reject that was sent, by its number, with the server's export rows at that step
pub record Rejection : Type 0 where
  pub packet : ℕ
  pub rows : List (Option ExportRow)

-- the newest mark is the first
pub record Records : Type 0 where
  pub started : List Start
  pub journal : List Run
  pub returns : List Return
  pub failures : List Failure
  pub marks : List Marked
  pub rejects : List Rejection

abbrev pub no_records : Records
no_records = record { started = []; journal = []; returns = []; failures = []; marks = []; rejects = [] }

-- the counts of calls that the last line of a transcript has
pub record Counts : Type 0 where
  pub runs : ℕ
  pub returned : ℕ
  pub signalled : ℕ
  pub failed : ℕ
  pub refused : ℕ

abbrev pub is_unanswered : Cause → Bool
is_unanswered Unanswered = true
is_unanswered (RefusedFor reason) = false

abbrev pub counts_of : Records → Counts
counts_of r =
    record {
      runs = length r.journal;
      returned = length (filter (λ (x : Return). not x.signal) r.returns);
      signalled = length (filter (λ (x : Return). x.signal) r.returns);
      failed = length (filter (λ (f : Failure). is_unanswered f.cause) r.failures);
      refused = length (filter (λ (f : Failure). not (is_unanswered f.cause)) r.failures);
    }

-- one thing that happens in an event
pub data Act : Type 0 where
  Impossible : Act
  -- the world's second is this one now
  Seconds : (second : ℕ) → Act
  Starts : Start → Act
  Binds : Call → Act
  -- a refused start, with the number that it would have had, and the second
  TooFast : (activity : Activity) → (number : ℕ) → (second : ℕ) → Act
  -- a client, or the server, sends a packet, which has this number
  CallerSends : (number : ℕ) → Packet → Act
  ServerSends : (number : ℕ) → Packet → Act
  -- a packet comes to the server's list of ready packets
  Readies : (number : ℕ) → Act
  -- a counted packet comes to an activity
  Hears : Activity → (number : ℕ) → Act
  -- the server has the call, and works on it
  TellsWaiting : Call → Act
  Returns : Return → Act
  Fails : Call → Cause → Act
  BindFails : Call → Act
  BindsTo : Call → Export → Act
  Unbinds : Call → Act
  -- ticks in which nothing happens
  Quiet : Act
  Discards : Discard → Act
  -- a worker finds nothing to do, or does one step for a call of this number
  Idles : (worker : ℕ) → Act
  Works : (worker : ℕ) → (number : ℕ) → Did → Act
  -- a body has run
  HasRun : Run → Act
  -- a packet that was sent is a Reject; rows are the export rows at that step
  Rejects : (packet : ℕ) → (rows : List (Option ExportRow)) → Act
  -- a name is exported, or not, or an export is taken back
  Exports : Export → Act
  NoExport : ExportFault → Act
  Withdraws : (index : ℕ) → Act
  -- a machine has booted in this second
  Restarts : (machine second : ℕ) → Act
  -- an activity's next number is this one now
  Skips : Activity → (next : ℕ) → Act
  -- the frame of a packet is printed
  Shows : (number : ℕ) → (bytes : List ℕ) → Act
  ListsRuns : List Run → Act
  Ends : Counts → Act

abbrev pub with_mark : Records → Activity → Mark → Records
with_mark r activity mark = record r { marks = record { activity = activity; mark = mark } ∷ r.marks }

-- what is kept of one thing that happens
abbrev pub recorded : Records → Act → Records
recorded r (Starts s) = record (with_mark r s.call.activity Begin) { started = r.started ++ s ∷ [] }
recorded r (Binds call) = with_mark r call.activity Begin
recorded r (CallerSends k p) = with_mark r p.header.call.activity (SentPacket k)
recorded r (Hears activity k) = with_mark r activity (Heard k)
recorded r (Returns x) = record r { returns = r.returns ++ x ∷ [] }
recorded r (Fails call cause) = record r { failures = r.failures ++ record { call = call; cause = cause; marks = r.marks } ∷ [] }
recorded r (HasRun run) = record r { journal = r.journal ++ run ∷ [] }
recorded r (Rejects k rows) = record r { rejects = r.rejects ++ record { packet = k; rows = rows } ∷ [] }
recorded r _ = r

abbrev pub recorded_all : Records → List Act → Records
recorded_all r [] = r
recorded_all r (a ∷ acts) = recorded_all (recorded r a) acts
