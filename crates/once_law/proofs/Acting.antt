-- The parts of the invariant that a lawful step of a process keeps, but for what is told.
use Rattle.std.proofs.Common.{◌≡◌, ◌≢◌, ℕ, ◌<◌, ◌≤◌, List, [], ◌∷◌, ◌++◌, Some, Bool, true, refl, ap, sym, ◌∙◌, subst, arith, inl, inr}
use Rattle.std.specs.Prelude.{Contains}
use Rattle.std.proofs.lemmas.List.Elements.{Contains-push_cases}
use Rattle.binder.specs.Exports.{Exports}
use Rattle.call_rules.specs.Entry.{Entry}
use Rattle.call_rules.specs.Worker.{Run}
use Rattle.call_rules.specs.Caller.{is_idle}
use Rattle.replay_model.specs.Once.{sent_since}
use Rattle.replay_model.specs.Process.{Line, LineStep, Said, Sends}
use Rattle.replay_model.specs.Record.{Start, Return, Failure, Marked}
use Rattle.replay_model.specs.World.{Client, numbered, with_numbered, line_at, is_entry_activity, number_limit}
use Rattle.lawful_rules.specs.Known.{Known, Grows, next_packet, with_sent}
use Rattle.lawful_rules.specs.Facts.{Life, IsSent, IsLine, IsMarked}
use Rattle.lawful_rules.specs.Lawful.{Way, ByStart, ByBind, ByPacket, ByTick, known_by, known_after, sent_by, sent_after, IsLawfulSaying, LawfulAct}
use Rattle.once_law.proofs.Lists.{members_push}
use Rattle.once_law.proofs.Places.{Rewrites, rewritten, packet_cases, numbered_read, numbered_set}
use Rattle.once_law.proofs.Parts.{Names, Reads, Lives, Lines, Marks, Sent, Entries, Told}
use Rattle.once_law.proofs.Grows.{Grows-then, Grows-with_sent, Grows-known_by, Grows-known_after, IsRequest-grows, IsSent-grows, IsEntry-grows, IsLine-grows, IsMarked-grows}
use Rattle.once_law.proofs.Sending.{marks_by, marks_after, own_sent, other_sent}

-- a lawful step of one of the processes
pub record IsAct (k : Known) (before after : List Client) (m p : ℕ) (l : Line) (way : Way) (sent : List ℕ) (s : LineStep) : Type 0 where
  pub rewrites : Rewrites before after m p l s.line
  pub lines : Lines k before
  pub lawful : LawfulAct k l way sent s

-- what is known when it is done
abbrev pub known_acted : Known → Way → Said → Known
known_acted k way said = known_after (known_by k way) said

pub Grows-acted : (k : Known) (way : Way) (said : Said) → Grows k (known_acted k way said)
Grows-acted k way said = Grows-then (Grows-known_by k way) (Grows-known_after (known_by k way) said)

started_after : (k : Known) (said : Said) → (known_after k said).started ≡ k.started
started_after k (Sends p) = refl
started_after k _ = refl

journal_after : (k : Known) (said : Said) → (known_after k said).journal ≡ k.journal
journal_after k (Sends p) = refl
journal_after k _ = refl

journal_by : (k : Known) (way : Way) → (known_by k way).journal ≡ k.journal
journal_by k (ByStart s) = refl
journal_by k _ = refl

pub journal_is : (k : Known) (way : Way) (said : Said) → (known_acted k way said).journal ≡ k.journal
journal_is k way said = journal_after (known_by k way) said ∙ journal_by k way

pub run_back : (k : Known) (way : Way) (said : Said) (r : Run) → Contains (known_acted k way said).journal r → Contains k.journal r
run_back k way said r c = subst (λ runs. Contains runs r) (journal_is k way said) c

-- the other processes are of other activities
pub is_other : {k : Known} {cs ds : List Client} {m p : ℕ} {l : Line} {way : Way} {sent : List ℕ} {s : LineStep} → IsAct k cs ds m p l way sent s → (n q : ℕ) (j : Line) → line_at cs n q ≡ Some j → (n ≡ m → q ≡ p → ⊥) → l.caller.activity ≢ j.caller.activity
is_other {k} {cs} {ds} {m} {p} {l} at n q j g ne e =
    let hl = at.lines m p l at.rewrites.was in
    let hj = at.lines n q j g in
    let same = sym hj.own_activity ∙ sym e ∙ hl.own_activity in
    ne (ap (λ a. a.machine) same) (ap (λ a. a.process) same)

-- The call that a process starts next has no start, no run and no return yet.

pub is_new : {k : Known} {cs ds : List Client} {m p : ℕ} {l : Line} {t : Start} {sent : List ℕ} {s : LineStep} → IsAct k cs ds m p l (ByStart t) sent s → Names cs k.started → (x : Start) → Contains k.started x → x.call ≢ t.call
is_new {k} {cs} {ds} {m} {p} {l} {t} at h x c e =
    let same = e ∙ at.lawful.next.1 in
    let below : x.call.number < l.next = h.below_next m p l at.rewrites.was x c (ap (λ d. d.activity) same) in
    absurd (omega (arith, ap (λ d. d.number) same))

pub has_no_run : {k : Known} {cs ds : List Client} {m p : ℕ} {l : Line} {t : Start} {sent : List ℕ} {s : LineStep} {returns : List Return} {failures : List Failure} → IsAct k cs ds m p l (ByStart t) sent s → Names cs k.started → Told k returns failures → (r : Run) → Contains k.journal r → r.call ≢ t.call
has_no_run at names told r c e =
    let x = told.runs_started r c in
    is_new at names x.start x.is_listed (x.same_call ∙ e)

-- the next call of a process has no run, whether it is a bind's or not
pub next_has_no_run : {k : Known} {cs ds : List Client} {m p : ℕ} {l : Line} {way : Way} {sent : List ℕ} {s : LineStep} {returns : List Return} {failures : List Failure} → IsAct k cs ds m p l way sent s → Names cs k.started → Told k returns failures → (r : Run) → Contains k.journal r → r.call ≢ record { activity = l.caller.activity; number = l.next }
next_has_no_run {k} {cs} {ds} {m} {p} {l} at names told r c e =
    let x = told.runs_started r c in
    let same = x.same_call ∙ e in
    let below : x.start.call.number < l.next = names.below_next m p l at.rewrites.was x.start x.is_listed (ap (λ d. d.activity) same) in
    absurd (omega (arith, ap (λ d. d.number) same))

-- each start of a call that ran was there before the step
pub start_of_run : {k : Known} {cs ds : List Client} {m p : ℕ} {l : Line} (way : Way) {sent : List ℕ} {s : LineStep} {returns : List Return} {failures : List Failure} → IsAct k cs ds m p l way sent s → Names cs k.started → Told k returns failures → (said : Said) (r : Run) → Contains k.journal r → (x : Start) → Contains (known_acted k way said).started x → x.call ≡ r.call → Contains k.started x
start_of_run {k} (ByStart t) at names told said r cr x cx e =
    elim (Contains-push_cases k.started t x (subst (λ xs. Contains xs x) (started_after (known_by k (ByStart t)) said) cx)) [
      | inl old ↦ old
      | inr new ↦ absurd (has_no_run at names told r cr (sym e ∙ ap (λ y. y.call) (sym new)))
    ]
start_of_run {k} (ByBind call) at names told said r cr x cx e = subst (λ xs. Contains xs x) (started_after k said) cx
start_of_run {k} (ByPacket n q) at names told said r cr x cx e = subst (λ xs. Contains xs x) (started_after k said) cx
start_of_run {k} ByTick at names told said r cr x cx e = subst (λ xs. Contains xs x) (started_after k said) cx

-- The parts.

pub names_kept : {cs ds : List Client} {m p : ℕ} {old new : Line} {started : List Start} → Rewrites cs ds m p old new → old.next ≤ new.next → new.caller.activity ≡ old.caller.activity → Names cs started → Names ds started
names_kept {cs} {ds} {m} {p} {old} {new} {started} w next activity h =
    record {
      below_next = rewritten w (λ n q j. (x : Start) → Contains started x → x.call.activity ≡ j.caller.activity → x.call.number < j.next)
          (λ n q j g ne. h.below_next n q j g)
          (λ x c e. let below : x.call.number < old.next = h.below_next m p old w.was x c (e ∙ activity) in omega (arith, next));
      one_start = h.one_start;
    }

Names-by : {k : Known} {cs ds : List Client} {m p : ℕ} {l : Line} (way : Way) {sent : List ℕ} {s : LineStep} → IsAct k cs ds m p l way sent s → Names cs k.started → Names ds (known_by k way).started
Names-by {k} {cs} {ds} {m} {p} {l} (ByStart t) {sent} {s} at h =
    record {
      below_next = rewritten at.rewrites (λ n q j. (x : Start) → Contains (k.started ++ t ∷ []) x → x.call.activity ≡ j.caller.activity → x.call.number < j.next)
          (λ n q j g ne. members_push (λ x. x.call.activity ≡ j.caller.activity → x.call.number < j.next) k.started t (h.below_next n q j g)
          (λ e. absurd (is_other at n q j g ne (sym (ap (λ c. c.activity) at.lawful.next.1) ∙ e))))
          (members_push (λ x. x.call.activity ≡ s.line.caller.activity → x.call.number < s.line.next) k.started t
          (λ x c e. let below : x.call.number < l.next = h.below_next m p l at.rewrites.was x c (e ∙ at.lawful.same_activity) in omega (arith, at.lawful.next.0))
          (λ e. omega (arith, at.lawful.next.0, ap (λ c. c.number) at.lawful.next.1)));
      one_start = λ x y cx cy. members_push (λ x. (y : Start) → Contains (k.started ++ t ∷ []) y → x.call ≡ y.call → x ≡ y) k.started t
          (λ x cx. members_push (λ y. x.call ≡ y.call → x ≡ y) k.started t (λ y cy e. h.one_start x y cx cy e) (λ e. absurd (is_new at h x cx e)))
          (members_push (λ y. t.call ≡ y.call → t ≡ y) k.started t (λ y cy e. absurd (is_new at h y cy (sym e))) (λ e. refl)) x cx y cy;
    }
Names-by (ByBind call) at h = names_kept at.rewrites (omega (arith, at.lawful.next.0)) at.lawful.same_activity h
Names-by (ByPacket n q) at h = names_kept at.rewrites (omega (arith, at.lawful.next.0)) at.lawful.same_activity h
Names-by ByTick at h = names_kept at.rewrites (omega (arith, at.lawful.next.0)) at.lawful.same_activity h

pub Names-acted : {k : Known} {cs ds : List Client} {m p : ℕ} {l : Line} {way : Way} {sent : List ℕ} {s : LineStep} → IsAct k cs ds m p l way sent s → Names cs k.started → Names ds (known_acted k way s.said).started
Names-acted {k} {cs} {ds} {m} {p} {l} {way} {sent} {s} at h =
    subst (Names ds) (sym (started_after (known_by k way) s.said)) (Names-by way at h)

-- a client has read a later second, or the same
pub reads_kept : (second : ℕ) (cs : List Client) (m : ℕ) (b d : Client) (started : List Start) → numbered 2 cs m ≡ Some b → b.read ≤ d.read → d.read ≤ second → Reads second cs started → Reads second (with_numbered 2 cs m d) started
reads_kept second cs m b d started eb old new h =
    let low : 2 ≤ m = (numbered_read 2 cs m b eb).0 in
    record {
      read_first = numbered_set (λ n (c : Client). c.read ≤ second) 2 cs m d low (λ n c g ne. h.read_first n c g) new;
      below_read = numbered_set (λ n (c : Client). (x : Start) → Contains started x → x.call.activity.machine ≡ n → x.call.number < number_limit c.read) 2 cs m d low
          (λ n c g ne. h.below_read n c g)
          (λ x c e. let below : x.call.number < number_limit b.read = h.below_read m b eb x c e in omega (arith, below, old));
    }

-- the second by which a start has its number is one that its machine has read
abbrev pub IsDated : Way → (m : ℕ) → Client → Type 0
IsDated (ByStart t) m c = (t.call.activity.machine ≡ m) × (t.call.number < number_limit c.read)
IsDated _ m c = Unit {0}

reads_by : (k : Known) (second : ℕ) (cs : List Client) (m : ℕ) (b d : Client) (way : Way) → numbered 2 cs m ≡ Some b → b.read ≤ d.read → d.read ≤ second → IsDated way m d → Reads second cs k.started → Reads second (with_numbered 2 cs m d) (known_by k way).started
reads_by k second cs m b d (ByStart t) eb old new dated h =
    let low : 2 ≤ m = (numbered_read 2 cs m b eb).0 in
    record {
      read_first = numbered_set (λ n (c : Client). c.read ≤ second) 2 cs m d low (λ n c g ne. h.read_first n c g) new;
      below_read = numbered_set (λ n (c : Client). (x : Start) → Contains (k.started ++ t ∷ []) x → x.call.activity.machine ≡ n → x.call.number < number_limit c.read) 2 cs m d low
          (λ n c g ne. members_push (λ x. x.call.activity.machine ≡ n → x.call.number < number_limit c.read) k.started t (h.below_read n c g)
          (λ e. absurd (ne (sym e ∙ dated.0))))
          (members_push (λ x. x.call.activity.machine ≡ m → x.call.number < number_limit d.read) k.started t
          (λ x c e. let below : x.call.number < number_limit b.read = h.below_read m b eb x c e in omega (arith, below, old))
          (λ e. dated.1));
    }
reads_by k second cs m b d (ByBind call) eb old new dated h = reads_kept second cs m b d k.started eb old new h
reads_by k second cs m b d (ByPacket n q) eb old new dated h = reads_kept second cs m b d k.started eb old new h
reads_by k second cs m b d ByTick eb old new dated h = reads_kept second cs m b d k.started eb old new h

pub Reads-acted : (k : Known) (second : ℕ) (cs : List Client) (m : ℕ) (b d : Client) (way : Way) (said : Said) → numbered 2 cs m ≡ Some b → b.read ≤ d.read → d.read ≤ second → IsDated way m d → Reads second cs k.started → Reads second (with_numbered 2 cs m d) (known_acted k way said).started
Reads-acted k second cs m b d way said eb old new dated h =
    subst (Reads second (with_numbered 2 cs m d)) (sym (started_after (known_by k way) said)) (reads_by k second cs m b d way eb old new dated h)

pub Lives-acted : {k : Known} {cs ds : List Client} {m p : ℕ} {l : Line} {way : Way} {sent : List ℕ} {s : LineStep} {returns : List Return} {failures : List Failure} (second : ℕ) (f : Life) (exports : Exports) → IsAct k cs ds m p l way sent s → Names cs k.started → Told k returns failures → Lives second f exports k.started k.journal → Lives second f exports (known_acted k way s.said).started (known_acted k way s.said).journal
Lives-acted {k} {cs} {ds} {m} {p} {l} {way} {sent} {s} second f exports at names told h =
    record {
      boot_first = h.boot_first;
      read_first = h.read_first;
      second_fits = h.second_fits;
      sound = h.sound;
      next_read = h.next_read;
      runs_read = λ r cr x cx e.
          let old = run_back k way s.said r cr in
          h.runs_read r old x (start_of_run way at names told s.said r old x cx e) e;
    }

pub Lines-acted : {k : Known} {cs ds : List Client} {m p : ℕ} {l : Line} {way : Way} {sent : List ℕ} {s : LineStep} → IsAct k cs ds m p l way sent s → Lines (known_acted k way s.said) ds
Lines-acted {k} {cs} {ds} {m} {p} {l} {way} {sent} {s} at =
    rewritten at.rewrites (IsLine (known_acted k way s.said)) (λ n q j g ne. IsLine-grows (Grows-acted k way s.said) (at.lines n q j g))
    (let hl = at.lines m p l at.rewrites.was in
    record {
      own_activity = at.lawful.same_activity ∙ hl.own_activity;
      has_entry = subst (λ a. is_entry_activity a ≡ true) (sym at.lawful.same_activity) hl.has_entry;
      has_room = at.lawful.has_room;
      is_open = at.lawful.is_open;
    })

pub Marks-acted : {k : Known} {cs ds : List Client} {m p : ℕ} {l : Line} {way : Way} {s : LineStep} (marks : List Marked) → IsAct k cs ds m p l way (sent_since l.caller.activity marks) s → Marks cs marks k.bag → Marks ds (marks_after (next_packet k) s.said (marks_by way l.caller.activity marks)) (known_acted k way s.said).bag
Marks-acted {k} {cs} {ds} {m} {p} {l} {way} {s} marks at h =
    rewritten at.rewrites (λ n q j. IsMarked (known_acted k way s.said).bag j.caller (sent_since j.caller.activity after))
    (λ n q j g ne. subst (IsMarked (known_acted k way s.said).bag j.caller)
    (sym (other_sent (next_packet k) l s.line j way (sent_by way before) (is_idle s.line.caller.state) s.said marks (known_by k way) at.lawful.next at.lawful.saying (is_other at n q j g ne)))
    (IsMarked-grows (Grows-acted k way s.said) j.caller (sent_since j.caller.activity marks) (h n q j g)))
    (subst (λ a. IsMarked (known_acted k way s.said).bag s.line.caller (sent_since a after)) (sym at.lawful.same_activity)
    (subst (IsMarked (known_acted k way s.said).bag s.line.caller)
    (sym (own_sent k l s.line way (sent_by way before) (is_idle s.line.caller.state) s.said marks (known_by k way) at.lawful.next at.lawful.saying))
    (subst (λ bag. IsMarked bag s.line.caller (sent_after k s.said (sent_by way before))) (bag_is way s.said) at.lawful.marked)))
  where
    before : List ℕ
    before = sent_since l.caller.activity marks

    after : List Marked
    after = marks_after (next_packet k) s.said (marks_by way l.caller.activity marks)

    bag_is : (way : Way) (said : Said) → (known_after k said).bag ≡ (known_acted k way said).bag
    bag_is (ByStart t) (Sends q) = refl
    bag_is (ByStart t) _ = refl
    bag_is _ said = refl

sent_acted : (k : Known) (l : Line) (way : Way) (sent : List ℕ) (now_idle : Bool) (said : Said) → IsLawfulSaying k l way sent now_idle said → Sent k → Sent (known_after k said)
sent_acted k l way sent now_idle (Sends q) saying h n p e =
    elim (packet_cases k.bag q n p e) [
      | inl old ↦ IsSent-grows (Grows-with_sent k q) (h n p old)
      | inr new ↦ subst (IsSent (with_sent k q) n) new.1
          (record { to_server = λ t. IsRequest-grows (Grows-with_sent k q) saying.request; to_client = λ ne. absurd (ne saying.request.to_server) })
    ]
sent_acted k l way sent now_idle _ saying h n p e = h n p e

sent_by_way : (k : Known) (way : Way) → Sent k → Sent (known_by k way)
sent_by_way k (ByStart t) h n p e = IsSent-grows (Grows-known_by k (ByStart t)) (h n p e)
sent_by_way k _ h n p e = h n p e

pub Sent-acted : {k : Known} {cs ds : List Client} {m p : ℕ} {l : Line} {way : Way} {sent : List ℕ} {s : LineStep} → IsAct k cs ds m p l way sent s → Sent k → Sent (known_acted k way s.said)
Sent-acted {k} {cs} {ds} {m} {p} {l} {way} {sent} {s} at h =
    sent_acted (known_by k way) l way (sent_by way sent) (is_idle s.line.caller.state) s.said at.lawful.saying (sent_by_way k way h)

pub Entries-acted : {k : Known} {cs ds : List Client} {m p : ℕ} {l : Line} {way : Way} {sent : List ℕ} {s : LineStep} {returns : List Return} {failures : List Failure} (f : Life) (es : List Entry) → IsAct k cs ds m p l way sent s → Names cs k.started → Told k returns failures → Entries k f es → Entries (known_acted k way s.said) f es
Entries-acted {k} {cs} {ds} {m} {p} {l} {way} {sent} {s} f es at names told h =
    record {
      count = h.count;
      each = λ a e g. IsEntry-grows (Grows-acted k way s.said) a e (h.each a e g);
      remembered = λ a e g r cr here x cx same boot.
          let old = run_back k way s.said r cr in
          h.remembered a e g r old here x (start_of_run way at names told s.said r old x cx same) same boot;
    }
