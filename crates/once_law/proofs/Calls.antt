-- The invariant is kept where a process starts a call, where its machine only reads the second, and where it ticks.
use Rattle.std.proofs.Common.{◌≡◌, ℕ, zero, suc, ◌<◌, List, [], ◌∷◌, ◌++◌, Option, Some, None, Bool, true, false, cond, refl, ap, sym, subst, arith, leb}
use Rattle.std.proofs.lemmas.Bool.{leb-false}
use Rattle.call_rules.specs.Caller.{is_idle}
use Rattle.replay_model.specs.declared.event.CallWord.{CallWord}
use Rattle.replay_model.specs.Once.{call_of_run, sent_since}
use Rattle.replay_model.specs.Process.{Line, started, ticked}
use Rattle.replay_model.specs.Record.{Records, Act, recorded, recorded_all}
use Rattle.replay_model.specs.Forms.{IsAskable}
use Rattle.replay_model.specs.Service.{procedure_of, arguments_of}
use Rattle.replay_model.specs.Step.{Outcome, settled, next_call, starts, too_fast, call_by, call_event, tick, ticks, ticks_client, ticks_line, quiet_if_none, tick_event}
use Rattle.replay_model.specs.World.{World, Client, numbered, with_numbered, line_at, number_limit}
use Rattle.lawful_rules.specs.Known.{known}
use Rattle.lawful_rules.specs.Lawful.{ReplyGrounds, ByStart, ByTick}
use Rattle.once_law.proofs.Lists.{same_of_none_twice}
use Rattle.once_law.proofs.Places.{numbered_read, line_at_read, lines_set_client}
use Rattle.once_law.proofs.Parts.{Holds}
use Rattle.once_law.proofs.Laws.{RuleLaws}
use Rattle.once_law.proofs.Acting.{reads_kept}
use Rattle.once_law.proofs.Does.{does-keeps}
use Rattle.once_law.proofs.Services.{procedure_fits, arguments_fit}

-- a test goes one way or the other
pub either : (w : World) (b : Bool) (x y : Outcome) → (b ≡ true → Holds (settled w x)) → (b ≡ false → Holds (settled w y)) → Holds (settled w (cond b x y))
either w true x y f g = f refl
either w false x y f g = g refl

-- what a process's rows rest on
pub reply_grounds : (w : World) → Holds w → ReplyGrounds (known w)
reply_grounds w h =
    record {
      one_run = λ r t cr ct e. same_of_none_twice call_of_run w.records.journal r t h.told.runs_once cr ct e;
      replies = h.told.replies;
    }

Holds-starts : RuleLaws → (w : World) (m p : ℕ) (c : Client) (l : Line) (asked : CallWord) → IsAskable asked → Holds w → numbered 2 w.clients m ≡ Some c → numbered 1 c.lines p ≡ Some l → is_idle l.caller.state ≡ true → l.next < number_limit w.second → Holds (settled w (starts w m p c l asked))
Holds-starts laws w m p c l asked askable h ec el idle low =
    does-keeps w m p c (record c { read = w.second }) l
    (ByStart (record { call = next_call l; export = l.binding; procedure = procedure_of asked; arguments = arguments_of asked }))
    (started m l (procedure_of asked) (arguments_of asked)) h ec el refl (h.reads.read_first m c ec) (omega arith)
    (ap (λ a. a.machine) (h.lines m p l (line_at_read w.clients m p c l ec el)).own_activity, low)
    (laws.start (known w) m p w.second l (procedure_of asked) (arguments_of asked) (sent_since l.caller.activity w.records.marks)
    (h.lines m p l (line_at_read w.clients m p c l ec el)) idle low h.lives.second_fits (procedure_fits asked) (arguments_fit asked askable))

-- a client is written, and its processes stay
pub lines_stay : (cs : List Client) (m : ℕ) (c d : Client) → numbered 2 cs m ≡ Some c → d.lines ≡ c.lines → (n p : ℕ) (l : Line) → line_at (with_numbered 2 cs m d) n p ≡ Some l → line_at cs n p ≡ Some l
lines_stay cs m c d ec same =
    lines_set_client (λ n p l. line_at cs n p ≡ Some l) cs m d (numbered_read 2 cs m c ec).0 (λ n p l g ne. g)
    (λ p l g. line_at_read cs m p c l ec (subst (λ lines. numbered 1 lines p ≡ Some l) same g))

pub Holds-too_fast : (w : World) (m : ℕ) (c : Client) (l : Line) → Holds w → numbered 2 w.clients m ≡ Some c → Holds (settled w (too_fast w m c l))
Holds-too_fast w m c l h ec =
    let stay = lines_stay w.clients m c (record c { read = w.second }) ec refl in
    record {
      names = record { below_next = λ n p x e. h.names.below_next n p x (stay n p x e); one_start = h.names.one_start };
      reads = reads_kept w.second w.clients m c (record c { read = w.second }) w.records.started ec (h.reads.read_first m c ec) (omega arith) h.reads;
      lives = h.lives;
      lines = λ n p x e. h.lines n p x (stay n p x e);
      unreturned = λ n p x e. h.unreturned n p x (stay n p x e);
      marks = λ n p x e. h.marks n p x (stay n p x e);
      sent = h.sent;
      ready = h.ready;
      workers = h.workers;
      entries = h.entries;
      told = h.told;
    }

Holds-call_by : RuleLaws → (w : World) (m p : ℕ) (c : Client) (asked : CallWord) (o : Option Line) → IsAskable asked → Holds w → numbered 2 w.clients m ≡ Some c → numbered 1 c.lines p ≡ o → Holds (settled w (call_by w m p c o asked))
unfolding call_by
Holds-call_by laws w m p c asked None askable h ec el = h
Holds-call_by laws w m p c asked (Some l) askable h ec el =
    either w (is_idle l.caller.state) _ _
    (λ idle. either w (leb (number_limit w.second) l.next) _ _ (λ full. Holds-too_fast w m c l h ec)
    (λ free. Holds-starts laws w m p c l asked askable h ec el idle (leb-false (number_limit w.second) l.next free)))
    (λ busy. h)

pub Holds-call : RuleLaws → (w : World) (m p : ℕ) (asked : CallWord) (o : Option Client) → IsAskable asked → Holds w → numbered 2 w.clients m ≡ o → Holds (settled w (call_event w m p o asked))
unfolding call_event
Holds-call laws w m p asked None askable h e = h
Holds-call laws w m p asked (Some c) askable h e = Holds-call_by laws w m p c asked (numbered 1 c.lines p) askable h e refl

-- Ticks.

Holds-ticks_line : RuleLaws → (w : World) (m p : ℕ) (c : Client) (o : Option Line) → Holds w → numbered 2 w.clients m ≡ Some c → numbered 1 c.lines p ≡ o → Holds (settled w (ticks_line w m p c o))
Holds-ticks_line laws w m p c None h ec el = h
Holds-ticks_line laws w m p c (Some l) h ec el =
    let there = line_at_read w.clients m p c l ec el in
    does-keeps w m p c c l ByTick (ticked m l) h ec el refl (omega arith) (h.reads.read_first m c ec) tt
    (laws.tick (known w) m p l (sent_since l.caller.activity w.records.marks) (reply_grounds w h) (h.lines m p l there) (h.marks m p l there))

Holds-ticks_client : RuleLaws → (w : World) (m p : ℕ) (o : Option Client) → Holds w → numbered 2 w.clients m ≡ o → Holds (settled w (ticks_client w m p o))
Holds-ticks_client laws w m p None h e = h
Holds-ticks_client laws w m p (Some c) h e = Holds-ticks_line laws w m p c (numbered 1 c.lines p) h e refl

Holds-one_tick : RuleLaws → (w : World) (m p : ℕ) → Holds w → Holds (settled w (tick w m p))
unfolding tick
Holds-one_tick laws w m p h = Holds-ticks_client laws w m p (numbered 2 w.clients m) h refl

recorded_append : (r : Records) (xs ys : List Act) → recorded_all r (xs ++ ys) ≡ recorded_all (recorded_all r xs) ys
recorded_append r [] ys = refl
recorded_append r (a ∷ xs) ys = recorded_append (recorded r a) xs ys

Holds-ticks : RuleLaws → (count : ℕ) (w : World) (m p : ℕ) → Holds w → Holds (settled w (ticks w m p count))
Holds-ticks laws zero w m p h = h
Holds-ticks laws (suc count) w m p h =
    let first : Outcome = tick w m p in
    let more : Outcome = ticks (settled w first) m p count in
    subst (λ (r : Records). Holds (record more.world { records = r })) (sym (recorded_append w.records first.acts more.acts))
    (Holds-ticks laws count (settled w first) m p (Holds-one_tick laws w m p h))

quiet_same : (r : Records) (acts : List Act) → recorded_all r (quiet_if_none acts) ≡ recorded_all r acts
quiet_same r [] = refl
quiet_same r (a ∷ acts) = refl

pub Holds-tick : RuleLaws → (w : World) (m p count : ℕ) → Holds w → Holds (settled w (tick_event w m p count))
unfolding tick_event
Holds-tick laws w m p count h =
    subst (λ (r : Records). Holds (record (ticks w m p count).world { records = r })) (sym (quiet_same w.records (ticks w m p count).acts))
    (Holds-ticks laws count w m p h)
