-- Each lawful step of a process keeps the invariant.
use Rattle.std.proofs.Common.{◌≡◌, ◌≢◌, ℕ, ◌≤◌, List, [], ◌∷◌, ◌++◌, map, Some, Bool, refl, ap, sym, ◌∙◌, subst, arith}
use Rattle.std.specs.Prelude.{Contains}
use Rattle.std.proofs.lemmas.Bool.{both_ways}
use Rattle.rpc_header.specs.declared.Activity.{Activity}
use Rattle.call_rules.specs.Packet.{Call}
use Rattle.call_rules.specs.Caller.{is_idle, current_call}
use Rattle.replay_model.specs.Once.{NoneTwice, call_of_run, call_of_return, sent_since, FailedFor}
use Rattle.replay_model.specs.Process.{Line, LineStep, Said, SaysNothing, Sends, Waits, Returned, Fails, BindFails, BoundTo, NotBound}
use Rattle.replay_model.specs.Record.{Return, Failure, Cause, Unanswered, RefusedFor, Marked, Heard, Starts, Binds, Hears}
use Rattle.replay_model.specs.Step.{Outcome, behind, settled, with_line, does}
use Rattle.replay_model.specs.World.{World, Client, numbered, with_numbered}
use Rattle.lawful_rules.specs.Known.{Known, known, next_packet}
use Rattle.lawful_rules.specs.Facts.{HasRun, Answers, IsRejection}
use Rattle.lawful_rules.specs.Lawful.{Way, ByStart, ByBind, ByPacket, ByTick, known_by, sent_by, IsNext, HasCause, IsLawfulSaying, LawfulAct}
use Rattle.once_law.proofs.Lists.{members_push, none_twice_push}
use Rattle.once_law.proofs.Places.{rewritten, rewrites}
use Rattle.once_law.proofs.Parts.{life, Names, HasNoReturn, Unreturned, Told, Holds}
use Rattle.once_law.proofs.Grows.{Grows-known_by, Grows-known_after, HasRun-grows, IsStartedRun-grows, IsRequest-grows, FailedFor-grows}
use Rattle.once_law.proofs.Sending.{marks_by, marks_after}
use Rattle.once_law.proofs.Acting.{IsAct, known_acted, Grows-acted, journal_is, run_back, is_other, has_no_run, next_has_no_run, IsDated, Names-acted, Reads-acted, Lives-acted, Lines-acted, Marks-acted, Sent-acted, Entries-acted}
use Rattle.once_law.proofs.Owning.{Workers-known}

-- What is recorded of what a process says.

abbrev returns_after : Said → List Return → List Return
returns_after (Returned x) returns = returns ++ x ∷ []
returns_after _ returns = returns

abbrev failures_after : Said → Call → List Marked → List Failure → List Failure
failures_after (Fails cause) call marks failures = failures ++ record { call = call; cause = cause; marks = marks } ∷ []
failures_after _ call marks failures = failures

-- A process that is open after the step was open before with the same call, or has started it.

same_call : (old new : Line) → new.caller.number ≡ old.caller.number → new.caller.activity ≡ old.caller.activity → current_call new.caller ≡ current_call old.caller
same_call old new n a = λ i. record { activity = a i; number = n i }

own_unreturned : {k : Known} {cs ds : List Client} {m p : ℕ} {l : Line} (way : Way) {sent : List ℕ} {s : LineStep} {returns : List Return} {failures : List Failure} → IsAct k cs ds m p l way sent s → Names cs k.started → Told k returns failures → Unreturned cs returns → HasNoReturn returns s.line
own_unreturned (ByStart t) at names told h opened x c e =
    let r = told.returns_run x c in
    has_no_run at names told r.run r.is_listed (r.same_call ∙ e ∙ at.lawful.next.2)
own_unreturned (ByBind call) at names told h opened x c e =
    let r = told.returns_run x c in
    next_has_no_run at names told r.run r.is_listed (r.same_call ∙ e ∙ at.lawful.next.2 ∙ at.lawful.next.1)
own_unreturned {k} {cs} {ds} {m} {p} {l} (ByPacket n q) {sent} {s} at names told h opened x c e =
    h m p l at.rewrites.was (at.lawful.kept_open opened) x c (e ∙ same_call l s.line at.lawful.next.1 at.lawful.same_activity)
own_unreturned {k} {cs} {ds} {m} {p} {l} ByTick {sent} {s} at names told h opened x c e =
    h m p l at.rewrites.was (at.lawful.kept_open opened) x c (e ∙ same_call l s.line at.lawful.next.1 at.lawful.same_activity)

-- a return is of the process that returns, which is idle now
returned_own : (k : Known) (l new : Line) (way : Way) (sent : List ℕ) (said : Said) (returns : List Return) → IsLawfulSaying k l way sent (is_idle new.caller.state) said → HasNoReturn returns new → HasNoReturn (returns_after said returns) new
returned_own k l new way sent (Returned x) returns saying h = λ opened. absurd (both_ways (is_idle new.caller.state) opened saying.1)
returned_own k l new way sent _ returns saying h = h

returned_other : (k : Known) (l other : Line) (way : Way) (sent : List ℕ) (now_idle : Bool) (said : Said) (returns : List Return) → IsLawfulSaying k l way sent now_idle said → l.caller.activity ≢ other.caller.activity → HasNoReturn returns other → HasNoReturn (returns_after said returns) other
returned_other k l other way sent now_idle (Returned x) returns saying ne h =
    λ opened. members_push (λ y. y.call ≢ current_call other.caller) returns x (h opened)
    (λ e. ne (ap (λ c. c.activity) (sym saying.0.same_call ∙ e)))
returned_other k l other way sent now_idle _ returns saying ne h = h

Unreturned-acted : {k : Known} {cs ds : List Client} {m p : ℕ} {l : Line} {way : Way} {sent : List ℕ} {s : LineStep} {returns : List Return} {failures : List Failure} → IsAct k cs ds m p l way sent s → Names cs k.started → Told k returns failures → Unreturned cs returns → Unreturned ds (returns_after s.said returns)
Unreturned-acted {k} {cs} {ds} {m} {p} {l} {way} {sent} {s} {returns} at names told h =
    rewritten at.rewrites (λ n q j. HasNoReturn (returns_after s.said returns) j)
    (λ n q j g ne. returned_other (known_by k way) l j way (sent_by way sent) (is_idle s.line.caller.state) s.said returns at.lawful.saying (is_other at n q j g ne) (h n q j g))
    (returned_own (known_by k way) l s.line way (sent_by way sent) s.said returns at.lawful.saying (own_unreturned way at names told h))

-- What is told.

-- a return has its run
return_has_run : (k : Known) (l : Line) (way : Way) (sent : List ℕ) (now_idle : Bool) (said : Said) (returns : List Return) → IsLawfulSaying k l way sent now_idle said → ((x : Return) → Contains returns x → HasRun k x.call x.signal x.reply) → (x : Return) → Contains (returns_after said returns) x → HasRun k x.call x.signal x.reply
return_has_run k l way sent now_idle (Returned y) returns saying h x c =
    members_push (λ x. HasRun k x.call x.signal x.reply) returns y h saying.0.has_run x c
return_has_run k l way sent now_idle _ returns saying h x c = h x c

-- the process that returns was open, so its call had not returned
return_is_new : (k : Known) (l : Line) (way : Way) (sent : List ℕ) (now_idle : Bool) (said : Said) (returns : List Return) → IsLawfulSaying k l way sent now_idle said → HasNoReturn returns l → NoneTwice (map call_of_return returns) → NoneTwice (map call_of_return (returns_after said returns))
return_is_new k l way sent now_idle (Returned y) returns saying h once =
    none_twice_push call_of_return returns y once (λ x c e. h saying.0.was_open x c (e ∙ saying.0.same_call))
return_is_new k l way sent now_idle _ returns saying h once = once

-- a failure has its cause in the marks of its moment
failed_for : (k : Known) (l new : Line) (way : Way) (marks : List Marked) (cause : Cause) → IsNext way l new → new.caller.activity ≡ l.caller.activity → HasCause (known_by k way) l way (sent_by way (sent_since l.caller.activity marks)) cause → FailedFor (known_by k way).started (known_by k way).rejects (known_by k way).bag (record { call = current_call new.caller; cause = cause; marks = marks_by way l.caller.activity marks }) cause
failed_for k l new (ByStart t) marks Unanswered next same h = absurd (omega (arith, h.eight))
failed_for k l new (ByStart t) marks (RefusedFor reason) next same h = absurd h
failed_for k l new (ByBind call) marks Unanswered next same h = absurd (omega (arith, h.eight))
failed_for k l new (ByBind call) marks (RefusedFor reason) next same h = absurd h
failed_for k l new (ByPacket n q) marks Unanswered next same h = absurd (omega (arith, h.eight))
failed_for k l new (ByPacket n q) marks (RefusedFor reason) next same h =
    let r : IsRejection k n q = subst (Answers k n q) h.is_reject h.is_answer.answers in
    subst (λ c. FailedFor k.started k.rejects k.bag (record { call = c; cause = RefusedFor reason; marks = record { activity = l.caller.activity; mark = Heard n } ∷ marks }) (RefusedFor reason))
    (sym (same_call l new next.1 same))
    (record {
      number = n;
      packet = q;
      is_there = h.is_there;
      is_reject = h.is_reject;
      same_call = h.same_call;
      same_reason = h.same_reason;
      was_heard = (0, omega arith, refl);
      rejection = r.rejection;
      is_rejection = r.is_listed;
      of_packet = r.of_packet;
      start = record { call = q.header.call; export = q.header.export; procedure = q.header.procedure; arguments = r.arguments };
      is_started = r.was_started;
      start_of_call = h.same_call;
      answered = r.answered ∙ ap Some h.same_reason;
    })
failed_for k l new ByTick marks Unanswered next same h =
    subst (λ c. FailedFor k.started k.rejects k.bag (record { call = c; cause = Unanswered; marks = marks }) Unanswered)
    (sym (same_call l new next.1 same)) (record { kind = h.kind; fragment = h.fragment; eight = h.eight; alike = h.alike })
failed_for k l new ByTick marks (RefusedFor reason) next same h = absurd h

failures_have_cause : (k : Known) (l new : Line) (way : Way) (marks : List Marked) (said : Said) (failures : List Failure) → IsNext way l new → new.caller.activity ≡ l.caller.activity → IsLawfulSaying (known_by k way) l way (sent_by way (sent_since l.caller.activity marks)) (is_idle new.caller.state) said → ((f : Failure) → Contains failures f → FailedFor k.started k.rejects k.bag f f.cause) → (f : Failure) → Contains (failures_after said (current_call new.caller) (marks_by way l.caller.activity marks) failures) f → FailedFor (known_acted k way said).started (known_acted k way said).rejects (known_acted k way said).bag f f.cause
failures_have_cause k l new way marks (Fails cause) failures next same saying h f c =
    members_push (λ f. FailedFor (known_by k way).started (known_by k way).rejects (known_by k way).bag f f.cause) failures
    (record { call = current_call new.caller; cause = cause; marks = marks_by way l.caller.activity marks })
    (λ f c. FailedFor-grows (Grows-known_by k way) f f.cause (h f c)) (failed_for k l new way marks cause next same saying) f c
failures_have_cause k l new way marks said failures next same saying h f c =
    FailedFor-grows (Grows-acted k way said) f f.cause (h f c)

Told-acted : {k : Known} {cs ds : List Client} {m p : ℕ} {l : Line} {way : Way} {s : LineStep} (marks : List Marked) (returns : List Return) (failures : List Failure) → IsAct k cs ds m p l way (sent_since l.caller.activity marks) s → Unreturned cs returns → Told k returns failures → Told (known_acted k way s.said) (returns_after s.said returns) (failures_after s.said (current_call s.line.caller) (marks_by way l.caller.activity marks) failures)
Told-acted {k} {cs} {ds} {m} {p} {l} {way} {s} marks returns failures at unreturned h =
    let g = Grows-acted k way s.said in
    record {
      runs_started = λ r c. IsStartedRun-grows g (h.runs_started r (run_back k way s.said r c));
      replies = λ r c. h.replies r (run_back k way s.said r c);
      runs_once = subst (λ runs. NoneTwice (map call_of_run runs)) (sym (journal_is k way s.said)) h.runs_once;
      returns_run = λ x c. HasRun-grows (Grows-known_after (known_by k way) s.said)
          (return_has_run (known_by k way) l way (sent_by way (sent_since l.caller.activity marks)) (is_idle s.line.caller.state) s.said returns at.lawful.saying
          (λ y d. HasRun-grows (Grows-known_by k way) (h.returns_run y d)) x c);
      returns_once = return_is_new (known_by k way) l way (sent_by way (sent_since l.caller.activity marks)) (is_idle s.line.caller.state) s.said returns at.lawful.saying
          (unreturned m p l at.rewrites.was) h.returns_once;
      failed = failures_have_cause k l s.line way marks s.said failures at.lawful.next at.lawful.same_activity at.lawful.saying h.failed;
    }

-- The world after a step.

-- what a process does, behind what it came by
abbrev pub behind_way : Way → Activity → Outcome → Outcome
behind_way (ByStart t) a o = behind (Starts t) o
behind_way (ByBind call) a o = behind (Binds call) o
behind_way (ByPacket n q) a o = behind (Hears a n) o
behind_way ByTick a o = o

abbrev acted : World → List Client → Way → Activity → Call → Said → World
acted w clients way a call said =
    let k : Known = known_acted (known w) way said in
    record w {
      clients = clients;
      bag = k.bag;
      records = record w.records {
        started = k.started;
        journal = k.journal;
        returns = returns_after said w.records.returns;
        failures = failures_after said call (marks_by way a w.records.marks) w.records.failures;
        marks = marks_after (next_packet (known w)) said (marks_by way a w.records.marks);
        rejects = k.rejects;
      };
    }

acted_is : (w : World) (m p : ℕ) (c : Client) (new : Line) (way : Way) (a : Activity) (said : Said) → settled w (behind_way way a (does w m p c (record { line = new; said = said }))) ≡ acted w (with_numbered 2 w.clients m (with_line c p new)) way a (current_call new.caller) said
unfolding does
acted_is w m p c new (ByStart t) a SaysNothing = refl
acted_is w m p c new (ByStart t) a (Sends q) = refl
acted_is w m p c new (ByStart t) a Waits = refl
acted_is w m p c new (ByStart t) a (Returned x) = refl
acted_is w m p c new (ByStart t) a (Fails cause) = refl
acted_is w m p c new (ByStart t) a BindFails = refl
acted_is w m p c new (ByStart t) a (BoundTo export) = refl
acted_is w m p c new (ByStart t) a NotBound = refl
acted_is w m p c new (ByBind call) a SaysNothing = refl
acted_is w m p c new (ByBind call) a (Sends q) = refl
acted_is w m p c new (ByBind call) a Waits = refl
acted_is w m p c new (ByBind call) a (Returned x) = refl
acted_is w m p c new (ByBind call) a (Fails cause) = refl
acted_is w m p c new (ByBind call) a BindFails = refl
acted_is w m p c new (ByBind call) a (BoundTo export) = refl
acted_is w m p c new (ByBind call) a NotBound = refl
acted_is w m p c new (ByPacket n x) a (Sends q) = refl
acted_is w m p c new (ByPacket n x) a _ = refl
acted_is w m p c new ByTick a (Sends q) = refl
acted_is w m p c new ByTick a _ = refl

-- a line is no part of what a client has read
dated_line : (way : Way) (m : ℕ) (c : Client) (p : ℕ) (l : Line) → IsDated way m c → IsDated way m (with_line c p l)
dated_line (ByStart t) m c p l h = h
dated_line _ m c p l h = tt

pub does-keeps : (w : World) (m p : ℕ) (b c : Client) (l : Line) (way : Way) (s : LineStep) → Holds w → numbered 2 w.clients m ≡ Some b → numbered 1 b.lines p ≡ Some l → c.lines ≡ b.lines → b.read ≤ c.read → c.read ≤ w.second → IsDated way m c → LawfulAct (known w) l way (sent_since l.caller.activity w.records.marks) s → Holds (settled w (behind_way way l.caller.activity (does w m p c s)))
does-keeps w m p b c l way s h eb el same old now dated lawful =
    let at : IsAct (known w) w.clients (with_numbered 2 w.clients m (with_line c p s.line)) m p l way (sent_since l.caller.activity w.records.marks) s = record {
      rewrites = rewrites w.clients m p b (with_line c p s.line) l s.line eb el (ap (λ lines. with_numbered 1 lines p s.line) same);
      lines = h.lines;
      lawful = lawful;
    } in
    let g = Grows-acted (known w) way s.said in
    subst Holds (sym (acted_is w m p c s.line way l.caller.activity s.said))
    (record {
      names = Names-acted at h.names;
      reads = Reads-acted (known w) w.second w.clients m b (with_line c p s.line) way s.said eb old now (dated_line way m c p s.line dated) h.reads;
      lives = Lives-acted w.second (life w) w.server.exports at h.names h.told h.lives;
      lines = Lines-acted at;
      unreturned = Unreturned-acted at h.names h.told h.unreturned;
      marks = Marks-acted w.records.marks at h.marks;
      sent = Sent-acted at h.sent;
      ready = λ q d. IsRequest-grows g (h.ready q d);
      workers = Workers-known g (λ r d. run_back (known w) way s.said r d) h.workers;
      entries = Entries-acted (life w) w.server.entries at h.names h.told h.entries;
      told = Told-acted w.records.marks w.records.returns w.records.failures at h.unreturned h.told;
    })
