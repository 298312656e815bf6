-- What a worker's packet says, what it may be answered, and the shapes of lawful steps.
use Rattle.std.proofs.Common.{◌≡◌, ◌≢◌, ℕ, ◌<◌, ◌≤◌, ◌^◌, List, [], ◌∷◌, ◌++◌, length, Some, None, Option, Bool, true, false, refl, ap, sym, ◌∙◌, subst, inl, inr, ◌⊎◌}
use Rattle.std.proofs.lemmas.Bool.{false≢true}
use Rattle.std.proofs.lemmas.Option.{none-some, same_Some}
use Rattle.fragments.specs.Pieces.{last_piece}
use Rattle.rpc_header.specs.declared.Activity.{Activity}
use Rattle.rpc_header.specs.declared.Export.{Export}
use Rattle.rpc_header.specs.declared.Kind.{Kind}
use Rattle.rpc_header.specs.declared.Kind.TheVariants as kind
use Rattle.binder.specs.declared.row.ExportRow.{ExportRow}
use Rattle.call_rules.specs.Packet.{Call, Packet}
use Rattle.call_rules.specs.Entry.{Entry, word_of}
use Rattle.call_rules.specs.declared.worker.Did.{Did}
use Rattle.call_rules.specs.declared.worker.Did.TheVariants as did
use Rattle.call_rules.specs.declared.worker.Unfit.{Unfit}
use Rattle.call_rules.specs.Worker.{Worker, Resting, Answer, Run, Adds, Nothing, answer_kind, ack_packet, bound_packet, reply_packet, drops}
use Rattle.lawful_rules.specs.Known.{Known, with_adds, with_sent}
use Rattle.lawful_rules.specs.Facts.{Life, HasReply, HasRun, IsCallPiece, IsOfCall, Requests, IsRequest, IsReplyPiece, Answers, IsAnswer, Gathers, IsEntry, Remembers, carrier, IsCarrier, HasNotRun, IsWorkerAt}
use Rattle.lawful_rules.specs.Lawful.{Grounds, owns, is_owned, is_run, Advances, AreLawfulAdds, LawfulStep}
use Rattle.lawful_rules.proofs.Pieces.{PieceLaws}
use Rattle.lawful_rules.proofs.Framing.{ack_framed, bound_framed, reply_framed}

-- What a worker's packet says.

-- a packet that is no Bind is of a call that was started
pub of_call : (k : Known) (p : Packet) (kd : Kind) → Requests k p kd → kd ≢ kind.Bind → IsOfCall k p
of_call k p kind.Call r ne = record { arguments = r.arguments; was_started = r.was_started }
of_call k p kind.Ack r ne = r
of_call k p kind.Probe r ne = r
of_call k p kind.Bind r ne = absurd (ne refl)
of_call k p _ r ne = absurd r

pub start_of : {k : Known} {f : Life} {p : Packet} → IsCarrier k f p → IsOfCall k p
start_of {k} {f} {p} c = of_call k p p.header.kind c.request.requests c.no_bind

pub call_piece : {k : Known} {f : Life} {p : Packet} → IsCarrier k f p → p.header.kind ≡ kind.Call → IsCallPiece k p
call_piece {k} {f} {p} c e = subst (Requests k p) e c.request.requests

-- where no run of the packet's number is remembered, its call hasn't run
pub not_run : {k : Known} {f : Life} {p : Packet} {e : Entry} → Grounds k f p.header.call.activity e → IsCarrier k f p → (Remembers (word_of e) p.header.call.number → ⊥) → HasNotRun k p
not_run {k} {f} {p} {e} g c never r listed same =
    let s = start_of c in
    never (subst (λ n. Remembers (word_of e) n) (ap (λ x. x.number) same)
    (g.remembered r listed (ap (λ x. x.activity) same)
    (record { call = p.header.call; export = p.header.export; procedure = p.header.procedure; arguments = s.arguments })
    s.was_started (sym same) c.after_boot))

-- Answers.

pub ack_answer : (k : Known) (n : ℕ) {j : Known} {p : Packet} → IsRequest j p → IsAnswer k n (ack_packet p)
ack_answer k n {j} {p} r =
    record { to_client = r.from_client; names_receiver = r.names_sender; answers = tt; framed = ack_framed p r.framed }

pub bound_answer : (k : Known) (n : ℕ) {j : Known} {p : Packet} (found : Option Export) → IsRequest j p → ((x : Export) → found ≡ Some x → (x.identifier < 256 ^ 4) × (x.index < 256 ^ 2)) → IsAnswer k n (bound_packet p found)
bound_answer k n {j} {p} found r room =
    record { to_client = r.from_client; names_receiver = r.names_sender; answers = tt; framed = bound_framed p found room r.framed }

pub tells_reply : (k : Known) (n : ℕ) (q : Packet) (signal : Bool) → IsReplyPiece k q signal → Answers k n q (answer_kind signal)
tells_reply k n q true h = h
tells_reply k n q false h = h

pub reply_answer : PieceLaws → (k : Known) (n : ℕ) {j : Known} {p : Packet} (answer : Answer) (i : ℕ) → IsRequest j p → HasReply answer.signal answer.reply → i ≤ last_piece (length answer.reply) → HasRun k p.header.call answer.signal answer.reply → IsAnswer k n (reply_packet p answer i)
reply_answer laws k n {j} {p} answer i r reply within run =
    record {
      to_client = r.from_client;
      names_receiver = r.names_sender;
      answers = tells_reply k n (reply_packet p answer i) answer.signal
          (record { reply = answer.reply; has_run = run; carries = record { payload = refl; is_last = refl; within = within } });
      framed = reply_framed laws p answer i reply within r.framed;
    }

-- the reply of a run can be sent
pub reply_of_run : {k : Known} {f : Life} {a : Activity} {e : Entry} {call : Call} {signal : Bool} {reply : List ℕ} → Grounds k f a e → HasRun k call signal reply → HasReply signal reply
reply_of_run {signal = signal} {reply = reply} g h =
    subst (λ s. HasReply s reply) h.same_signal (subst (HasReply h.run.signal) h.same_reply (g.replies h.run h.is_listed))

-- a run stays as more packets are sent
pub more_sent_run : {k : Known} (q : Packet) {call : Call} {signal : Bool} {reply : List ℕ} → HasRun k call signal reply → HasRun (with_sent k q) call signal reply
more_sent_run q h = record { run = h.run; is_listed = h.is_listed; same_call = h.same_call; same_signal = h.same_signal; same_reply = h.same_reply }

-- and so does what is gathered
pub more_sent_gathers : {k : Known} (q : Packet) {call : Call} {bytes : List ℕ} {next : ℕ} → Gathers k call bytes next → Gathers (with_sent k q) call bytes next
more_sent_gathers q h =
    record {
      export = h.export;
      procedure = h.procedure;
      arguments = h.arguments;
      was_started = h.was_started;
      gathered = h.gathered;
      begun = h.begun;
      within = h.within;
    }

-- a request stays as a body runs
pub more_runs_request : {k : Known} (r : Run) {p : Packet} → IsRequest k p → IsRequest (record k { journal = k.journal ++ r ∷ [] }) p
more_runs_request {k} r {p} h =
    record {
      from_client = h.from_client;
      to_server = h.to_server;
      names_sender = h.names_sender;
      has_entry = h.has_entry;
      requests = says p.header.kind h.requests;
      framed = h.framed;
    }
  where
    says : (kd : Kind) → Requests k p kd → Requests (record k { journal = k.journal ++ r ∷ [] }) p kd
    says kind.Call x = record { arguments = x.arguments; was_started = x.was_started; carries = x.carries }
    says kind.Ack x = record { arguments = x.arguments; was_started = x.was_started }
    says kind.Probe x = record { arguments = x.arguments; was_started = x.was_started }
    says kind.Bind x = tt
    says _ x = absurd x

-- Shapes of steps.

-- the packet is given back, no entry is exchanged, and nothing runs
pub gives_back : {k : Known} {f : Life} {rows : List (Option ExportRow)} {p : Packet} {v : Worker} {e : Entry} (what : Did) (adds : Adds) → is_run adds ≡ false → AreLawfulAdds k rows p v None adds → LawfulStep k f rows p v e (record { worker = Resting; entry = None; did = what; adds = adds })
gives_back what adds runs lawful =
    record {
      carries = λ q h. absurd (none-some q h);
      worker = tt;
      alone = λ h. elim h [ inl x ↦ absurd (false≢true x) | inr y ↦ elim y [ inl x ↦ absurd (false≢true x) | inr x ↦ absurd (false≢true (sym runs ∙ x)) ] ];
      entry = λ x h. absurd (none-some x h);
      adds = lawful;
    }

pub dropped : {k : Known} {f : Life} {rows : List (Option ExportRow)} {p : Packet} {v : Worker} {e : Entry} (why : Unfit) → LawfulStep k f rows p v e (drops why)
dropped why = gives_back (did.Drops why) Nothing refl tt

-- the entry is exchanged, by its owner or where it has none
pub exchange : {k : Known} {f : Life} {rows : List (Option ExportRow)} {p : Packet} {v : Worker} {e : Entry} (worker : Worker) (x : Entry) (what : Did) (adds : Adds) → ((q : Packet) → carrier worker ≡ Some q → q ≡ p) → IsWorkerAt (with_adds k rows adds) f worker x → (owns v ≡ true) ⊎ (is_owned (word_of e).phase ≡ false) → IsEntry (with_adds k rows adds) p.header.call.activity x → Advances (word_of e) (word_of x) → AreLawfulAdds k rows p v (Some x) adds → LawfulStep k f rows p v e (record { worker = worker; entry = Some x; did = what; adds = adds })
exchange {k} {f} {rows} {p} {v} {e} worker x what adds carries at alone is advances lawful =
    record {
      carries = carries;
      worker = at;
      alone = λ h. alone;
      entry = λ y h. subst (λ z. IsEntry (with_adds k rows adds) p.header.call.activity z × Advances (word_of e) (word_of z)) (same_Some x y h) (is, advances);
      adds = lawful;
    }

pub no_carrier : (p q : Packet) → carrier Resting ≡ Some q → q ≡ p
no_carrier p q h = absurd (none-some q h)

pub own_carrier : (p q : Packet) → Some p ≡ Some q → q ≡ p
own_carrier p q h = sym (same_Some p q h)
