-- The rules of a worker: for its state, its packet and the entry of the packet's activity, the new worker state,
-- the new entry where it changes, what the worker did, and what that adds: a run, a packet, or a rejection.
-- A call is begun or admitted only where the entry is empty or has a lesser number, after Birrell and Nelson's RPC; the
-- states are this project's own. What the exports say, and whether the pool has a buffer, are arguments of the rows that ask.
use Rattle.std.specs.Prelude.{ℕ, ◌+◌, List, [], ◌++◌, length, Option, Some, None, unwrap_or, is_some, Bool, true, false, not, ◌==◌, nat_lt, nat_le, if◌then◌else◌}
use Rattle.rpc_header.specs.declared.Export.{Export}
use Rattle.rpc_header.specs.declared.Kind.{Kind}
use Rattle.rpc_header.specs.declared.Kind.TheVariants as kind
use Rattle.fragments.specs.Pieces.{last_piece, piece}
use Rattle.call_rules.specs.Packet.{Call, Fields, Packet, no_export}
use Rattle.call_rules.specs.Entry.{Entry, Gather, Filling, Running, Done, Sending, Word, word_of, is_same_word, judge}
use Rattle.call_rules.specs.declared.entry.Judged.{Judged}
use Rattle.call_rules.specs.declared.entry.Judged.TheVariants as judged
use Rattle.call_rules.specs.declared.worker.Did.{Did}
use Rattle.call_rules.specs.declared.worker.Did.TheVariants as did
use Rattle.call_rules.specs.declared.worker.Unfit.{Unfit}
use Rattle.call_rules.specs.declared.worker.Unfit.TheVariants as unfit

-- what a body answers
pub record Answer : Type 0 where
  pub signal : Bool
  pub reply : List ℕ

-- a worker that isn't idle holds the packet that it claimed, its carrier
pub data Worker : Type 0 where
  Resting : Worker
  Claimed : (carrier : Packet) → (seen : Word) → Worker
  Took : (carrier : Packet) → Worker
  Admitted : (carrier : Packet) → (arguments : List ℕ) → Worker
  Ran : (carrier : Packet) → Answer → Worker
  Fetched : (carrier : Packet) → Worker

-- one run of a body
pub record Run : Type 0 where
  pub call : Call
  pub procedure : ℕ
  pub arguments : List ℕ
  pub signal : Bool
  pub reply : List ℕ

-- what the server's exports say to a packet: of a Bind, the name that it asks for, if it asks for one, and that
-- name's export, if it has one; of another packet, the reason for which its call is refused, if it is
pub record Asked : Type 0 where
  pub named : Option (Option Export)
  pub refused : Option ℕ

-- what a step adds to the world
pub data Adds : Type 0 where
  Nothing : Adds
  ARun : Run → Adds
  APacket : Packet → Adds
  ARejection : Packet → Adds

-- a step that changes the entry has the new one
pub record Step : Type 0 where
  pub worker : Worker
  pub entry : Option Entry
  pub did : Did
  pub adds : Adds

-- What a server answers: to where a packet came from, with the call, the hint, the export and the procedure of it.
abbrev pub answer_header : Packet → Kind → (last : Bool) → (fragment : ℕ) → Fields
answer_header p kind last fragment =
    record {
      kind = kind;
      please_ack = not last;
      last = last;
      reason = 0;
      call = p.header.call;
      hint = p.header.hint;
      fragment = fragment;
      export = p.header.export;
      procedure = p.header.procedure;
    }

abbrev pub answer_to : Packet → Fields → (payload : List ℕ) → Packet
answer_to p header payload = record { from = p.to; to = p.from; header = header; payload = payload }

-- an acknowledgement of the packet
abbrev pub ack_packet : Packet → Packet
ack_packet p = answer_to p (answer_header p kind.Ack true p.header.fragment) []

abbrev pub reject_packet : Packet → (reason : ℕ) → Packet
reject_packet p reason = answer_to p (record (answer_header p kind.Reject true 0) { reason = reason }) []

-- the export that was found, with reason 0, or none, with reason 1
abbrev pub bound_packet : Packet → Option Export → Packet
bound_packet p found =
    answer_to p
    (record (answer_header p kind.Bound true 0) { reason = if is_some found then 0 else 1; export = unwrap_or found no_export })
    []

abbrev pub answer_kind : (signal : Bool) → Kind
answer_kind signal = if signal then kind.Signal else kind.Result

-- piece i of a reply
abbrev pub reply_packet : Packet → Answer → (i : ℕ) → Packet
reply_packet p answer i =
    answer_to p (answer_header p (answer_kind answer.signal) (i == last_piece (length answer.reply)) i) (piece answer.reply i)

-- The shapes of rows.

-- the packet is given back, and nothing else changes
abbrev pub drops : Unfit → Step
drops why = record { worker = Resting; entry = None; did = did.Drops why; adds = Nothing }

-- a packet is sent, and nothing else changes
abbrev pub answers : Did → Packet → Step
answers what p = record { worker = Resting; entry = None; did = what; adds = APacket p }

abbrev pub rejects : Packet → (reason : ℕ) → Step
rejects p reason = record { worker = Resting; entry = None; did = did.Rejects reason; adds = ARejection (reject_packet p reason) }

-- the word that was seen is kept
abbrev pub claims : Packet → Word → Step
claims p seen = record { worker = Claimed p seen; entry = None; did = did.Claims; adds = Nothing }

-- the call of the packet is to run with these arguments
abbrev pub admits : Packet → (arguments : List ℕ) → Step
admits p arguments =
    record { worker = Admitted p arguments; entry = Some (Running p.header.call.number); did = did.Admits; adds = Nothing }

-- the worker has an item of the entry in hand, or gives one back
abbrev pub exchanges : Worker → Entry → Did → Step
exchanges worker e what = record { worker = worker; entry = Some e; did = what; adds = Nothing }

-- the entry is exchanged, and a packet is sent
abbrev pub exchanges_and_sends : Entry → Did → Packet → Step
exchanges_and_sends e what p = record { worker = Resting; entry = Some e; did = what; adds = APacket p }

-- Idle, with a packet.

-- a Bind: the answer to the name that it asks for
abbrev pub on_bind : Option (Option Export) → Packet → Step
on_bind None p = drops unfit.BadName
on_bind (Some found) p = answers did.Answers (bound_packet p found)

-- by the packet's judgement
abbrev pub on_judged : Judged → Word → Packet → Step
on_judged judged.Older seen p = drops unfit.Older
on_judged judged.Same seen p = drops unfit.Same
on_judged judged.Busy seen p = drops unfit.Busy
on_judged judged.Unknown seen p = drops unfit.Unknown
on_judged judged.Skipped seen p = drops unfit.Skipped
on_judged judged.Ack seen p = answers did.Acks (ack_packet p)
on_judged judged.Admit seen p = claims p seen
on_judged judged.Begin seen p = claims p seen
on_judged judged.More seen p = claims p seen
on_judged judged.Fetch seen p = claims p seen

-- a packet of an accepted call, by the entry of its activity, if there is one to be had
abbrev pub on_accepted : Option Entry → Packet → Step
on_accepted None p = drops unfit.Full
on_accepted (Some e) p = on_judged (judge (word_of e) p.header) (word_of e) p

-- a packet that is no Bind: the exports are asked first
abbrev pub on_call : (refused : Option ℕ) → Option Entry → Packet → Step
on_call (Some reason) e p = rejects p reason
on_call None e p = on_accepted e p

abbrev pub on_kind : Kind → Asked → Option Entry → Packet → Step
on_kind kind.Bind asked e p = on_bind asked.named p
on_kind _ asked e p = on_call asked.refused e p

unfoldable pub on_idle : Asked → Option Entry → Packet → Step
on_idle asked e p = on_kind p.header.kind asked e p

-- Claimed.

-- Begin: piece 0 is kept in a long buffer, if the pool has one
abbrev pub on_begin : (long : Bool) → Packet → Step
on_begin false p = drops unfit.NoBuffer
on_begin true p = exchanges_and_sends (Gather p.header.call.number p.payload 1) did.Begins (ack_packet p)

-- More: what is gathered is taken in hand
abbrev pub on_more : Packet → Entry → Step
on_more p (Gather n bytes next) = exchanges (Took p) (Filling n bytes next) did.Takes
on_more p _ = drops unfit.Lost

-- Fetch: the reply is taken in hand
abbrev pub on_fetch : Packet → Entry → Step
on_fetch p (Done n signal reply) = exchanges (Fetched p) (Sending n signal reply) did.Fetches
on_fetch p _ = drops unfit.Lost

abbrev pub on_judged_claim : Judged → (long : Bool) → Packet → Entry → Step
on_judged_claim judged.Admit long p e = admits p p.payload
on_judged_claim judged.Begin long p e = on_begin long p
on_judged_claim judged.More long p e = on_more p e
on_judged_claim judged.Fetch long p e = on_fetch p e
on_judged_claim _ long p e = drops unfit.Lost

-- by the judgement of the packet, unless the entry's word isn't the word seen
unfoldable pub on_claimed : (long : Bool) → Packet → Word → Entry → Step
on_claimed long p seen e =
    if is_same_word (word_of e) seen then on_judged_claim (judge seen p.header) long p e else drops unfit.Lost

-- Took: the packet's piece is compared with the one that is due.

-- the piece that is due: the last makes the call whole, and another is acknowledged
abbrev pub on_due : Packet → (n : ℕ) → (bytes : List ℕ) → (next : ℕ) → Step
on_due p n bytes next =
    if p.header.last
    then admits p (bytes ++ p.payload)
    else exchanges_and_sends (Gather n (bytes ++ p.payload) (next + 1)) did.Rests (ack_packet p)

-- another piece: one that was gathered is acknowledged again
abbrev pub on_other : Packet → (n : ℕ) → (bytes : List ℕ) → (next : ℕ) → Step
on_other p n bytes next =
    if nat_lt p.header.fragment next
    then exchanges_and_sends (Gather n bytes next) did.Rests (ack_packet p)
    else exchanges Resting (Gather n bytes next) (did.Drops unfit.Skipped)

unfoldable pub on_took : Packet → Entry → Step
on_took p (Filling n bytes next) = if p.header.fragment == next then on_due p n bytes next else on_other p n bytes next
on_took p _ = drops unfit.Lost

-- Admitted: the body runs, if the pool has a buffer for its reply

-- the run of an admitted call
abbrev pub run_of : Packet → (arguments : List ℕ) → Answer → Run
run_of p arguments answer =
    record {
      call = p.header.call;
      procedure = p.header.procedure;
      arguments = arguments;
      signal = answer.signal;
      reply = answer.reply;
    }

unfoldable pub on_admitted : (buffer : Bool) → Packet → (arguments : List ℕ) → Answer → Step
on_admitted false p arguments answer = record { worker = Admitted p arguments; entry = None; did = did.Waits; adds = Nothing }
on_admitted true p arguments answer =
    record { worker = Ran p answer; entry = None; did = did.Runs; adds = ARun (run_of p arguments answer) }

-- Ran: the first piece of the reply is sent, and the entry keeps the reply
unfoldable pub on_ran : Packet → Answer → Step
on_ran p answer =
    exchanges_and_sends (Done p.header.call.number answer.signal answer.reply) did.Replies (reply_packet p answer 0)

-- Fetched: the piece that is asked for is sent, if there is one.

-- a caller's acknowledgement asks for the piece behind its fragment, and what else fetches asks for the first
abbrev pub piece_behind : Kind → (fragment : ℕ) → ℕ
piece_behind kind.Ack fragment = fragment + 1
piece_behind _ fragment = 0

abbrev pub wanted_piece : Fields → ℕ
wanted_piece h = piece_behind h.kind h.fragment

abbrev pub resends : Packet → (n : ℕ) → Answer → (i : ℕ) → Step
resends p n answer i =
    if nat_le i (last_piece (length answer.reply))
    then exchanges_and_sends (Done n answer.signal answer.reply) did.Resends (reply_packet p answer i)
    else exchanges Resting (Done n answer.signal answer.reply) (did.Drops unfit.Same)

unfoldable pub on_fetched : Packet → Entry → Step
on_fetched p (Sending n signal reply) = resends p n (record { signal = signal; reply = reply }) (wanted_piece p.header)
on_fetched p _ = drops unfit.Lost
