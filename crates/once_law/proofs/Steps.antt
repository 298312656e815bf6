-- Each event keeps the invariant.
use Rattle.std.proofs.Common.{refl, arith, ◌≡◌, ℕ, ◌+◌, Option, Some, None, true, leb}
use Rattle.std.proofs.lemmas.Bool.{false≢true}
use Rattle.call_rules.specs.Caller.{State, Idle, is_idle}
use Rattle.call_rules.specs.Caller as caller
use Rattle.replay_model.specs.declared.event.Event.{Event}
use Rattle.replay_model.specs.declared.event.Event.TheVariants as event
use Rattle.replay_model.specs.Forms.{InRange}
use Rattle.replay_model.specs.Step.{step, settled, skips, last_number, skip_by, skip_event, with_line}
use Rattle.replay_model.specs.World.{World, numbered, packet_at, Client}
use Rattle.replay_model.specs.Process.{Line}
use Rattle.lawful_rules.specs.Known.{Known, known}
use Rattle.lawful_rules.specs.Facts.{IsOpenIn, IsLine}
use Rattle.once_law.proofs.Parts.{Holds}
use Rattle.once_law.proofs.Laws.{Laws}
use Rattle.once_law.proofs.Calls.{Holds-call, Holds-tick, either}
use Rattle.once_law.proofs.Packets.{Holds-deliver, Holds-damage, Holds-show, Holds-work}
use Rattle.once_law.proofs.Binding.{Holds-bind}
use Rattle.once_law.proofs.Lifetimes.{Holds-second, Holds-export, Holds-withdraw, Holds-restart}
use Rattle.once_law.proofs.Places.{line_at_read, rewrites, rewritten}
use Rattle.once_law.proofs.Acting.{names_kept, reads_kept}

-- Numbers that are passed over.

-- an idle process has nothing open, whichever its next number is
idle_open : (k : Known) (l : Line) (st : State) → is_idle st ≡ true → IsOpenIn k l st
idle_open k l Idle e = tt
idle_open k l (caller.Sending i) e = absurd (false≢true e)
idle_open k l caller.Waiting e = absurd (false≢true e)
idle_open k l (caller.Receiving j) e = absurd (false≢true e)
idle_open k l caller.Binding e = absurd (false≢true e)

skipped_line : {k : Known} {m p : ℕ} {l : Line} (next : ℕ) → is_idle l.caller.state ≡ true → IsLine k m p l → IsLine k m p (record l { next = next })
skipped_line {k} {m} {p} {l} next idle h =
    record {
      own_activity = h.own_activity;
      has_entry = h.has_entry;
      has_room = record {
        hint = h.has_room.hint;
        number = h.has_room.number;
        identifier = h.has_room.identifier;
        index = h.has_room.index;
        procedure = h.has_room.procedure;
        bound_identifier = h.has_room.bound_identifier;
        bound_index = h.has_room.bound_index;
        arguments = h.has_room.arguments;
      };
      is_open = idle_open k (record l { next = next }) l.caller.state idle;
    }

Holds-skips : (w : World) (m p : ℕ) (c : Client) (l : Line) (count : ℕ) → Holds w → numbered 2 w.clients m ≡ Some c → numbered 1 c.lines p ≡ Some l → is_idle l.caller.state ≡ true → Holds (settled w (skips w m p c l (l.next + count)))
Holds-skips w m p c l count h ec el idle =
    let next : ℕ = l.next + count in
    let new : Line = record l { next = next } in
    let there = line_at_read w.clients m p c l ec el in
    let r = rewrites w.clients m p c (with_line c p new) l new ec el refl in
    either w (leb next last_number) _ _
    (λ fits. record {
      names = names_kept r (omega arith) refl h.names;
      reads = reads_kept w.second w.clients m c (with_line c p new) w.records.started ec (omega arith) (h.reads.read_first m c ec) h.reads;
      lives = h.lives;
      lines = rewritten r (IsLine (known w)) (λ n q j g ne. h.lines n q j g) (skipped_line next idle (h.lines m p l there));
      unreturned = rewritten r _ (λ n q j g ne. h.unreturned n q j g) (h.unreturned m p l there);
      marks = rewritten r _ (λ n q j g ne. h.marks n q j g) (h.marks m p l there);
      sent = h.sent;
      ready = h.ready;
      workers = h.workers;
      entries = h.entries;
      told = h.told;
    })
    (λ beyond. h)

Holds-skip_by : (w : World) (m p : ℕ) (c : Client) (count : ℕ) (o : Option Line) → Holds w → numbered 2 w.clients m ≡ Some c → numbered 1 c.lines p ≡ o → Holds (settled w (skip_by w m p c o count))
unfolding skip_by
Holds-skip_by w m p c count None h ec el = h
Holds-skip_by w m p c count (Some l) h ec el =
    either w (is_idle l.caller.state) _ _ (λ idle. Holds-skips w m p c l count h ec el idle) (λ busy. h)

Holds-skip : (w : World) (m p count : ℕ) (o : Option Client) → Holds w → numbered 2 w.clients m ≡ o → Holds (settled w (skip_event w m p o count))
unfolding skip_event
Holds-skip w m p count None h e = h
Holds-skip w m p count (Some c) h e = Holds-skip_by w m p c count (numbered 1 c.lines p) h e refl

-- each event keeps the invariant
pub Holds-step : Laws → (w : World) (e : Event) → InRange e → Holds w → Holds (step w e)
unfolding step
Holds-step laws w (event.Second second) r h = Holds-second w second (omega (arith, r.1)) h
Holds-step laws w (event.Call m p asked) r h = Holds-call laws.rules w m p asked (numbered 2 w.clients m) r.1 h refl
Holds-step laws w (event.Bind m p name) r h = Holds-bind laws w m p name (numbered 2 w.clients m) r.1 h refl
Holds-step laws w (event.Deliver k) r h = Holds-deliver laws w k (packet_at w.bag k) h refl
Holds-step laws w (event.Damage k bit) r h = Holds-damage laws w k bit (packet_at w.bag k) h refl
Holds-step laws w (event.Tick m p count) r h = Holds-tick laws.rules w m p count h
Holds-step laws w (event.Export name) r h = Holds-export laws w name h
Holds-step laws w (event.Withdraw name) r h = Holds-withdraw laws w name h
Holds-step laws w (event.Restart m) r h = Holds-restart laws w m r.0 r.1 h
Holds-step laws w (event.Skip m p count) r h = Holds-skip w m p count (numbered 2 w.clients m) h refl
Holds-step laws w (event.Show k) r h = Holds-show w k (packet_at w.bag k) h
Holds-step laws w (event.Work n) r h = Holds-work laws w n (numbered 1 w.server.workers n) h refl
Holds-step laws w event.Journal r h = h
Holds-step laws w event.End r h = h
