-- Each row of the caller's rules that a tick makes is a lawful act.
use Rattle.std.proofs.Common.{◌≡◌, ℕ, ◌+◌, ◌-◌, ◌<◌, ◌≤◌, List, [], ◌∷◌, ◌++◌, length, Bool, true, false, cond, refl, sym, ◌∙◌, subst, arith, ltb}
use Rattle.std.proofs.lemmas.Bool.{false≢true, ltb-true, ltb-false}
use Rattle.std.proofs.lemmas.List.Elements.{All-cons}
use Rattle.fragments.specs.Pieces.{piece}
use Rattle.rpc_header.specs.declared.Kind.{Kind}
use Rattle.call_rules.specs.declared.caller.TheConstants.{QUIET_TICKS, TRIES}
use Rattle.call_rules.specs.Packet.{Packet}
use Rattle.call_rules.specs.Caller.{Caller, State, Idle, Sending, Waiting, Receiving, Binding, Failed, Quiet, Step, is_idle, is_binding, current_call, repeated_sending, acknowledgement, probe, row, unused, sent_again, on_open_tick}
use Rattle.replay_model.specs.Once.{IsTransmission}
use Rattle.replay_model.specs.Process.{Line, packet_from, acts, ticked, gives_up}
use Rattle.lawful_rules.specs.Known.{Known, with_sent}
use Rattle.lawful_rules.specs.Facts.{IsOpenIn, IsLine, AreAlike, IsMarkedIn, IsMarked}
use Rattle.lawful_rules.specs.Lawful.{ReplyGrounds, ByTick, IsLawfulSaying, LawfulAct}
use Rattle.lawful_rules.proofs.Pieces.{PieceLaws}
use Rattle.lawful_rules.proofs.Sending.{sent_is_there, transmissions_stay, piece_request, ack_request, probe_request, bind_request}
use Rattle.lawful_rules.proofs.CallerRows.{own_line, room_in, room_ended}

-- a process that ticks, and what it had sent
pub record Ticks (k : Known) (m process : ℕ) (l : Line) (before : List ℕ) : Type 0 where
  pub grounds : ReplyGrounds k
  pub line : IsLine k m process l
  pub marked : IsMarked k.bag l.caller before

abbrev IsLawful : Known → ℕ → Line → List ℕ → Step → Type 0
IsLawful k m l before s = LawfulAct k l ByTick before (acts m l s [])

-- the same state with other counts, by the same that is known
same_open : (k : Known) (l : Line) (state : State) (tries ticks : ℕ) (st : State) → IsOpenIn k l st → IsOpenIn k (record l { caller = record l.caller { state = state; tries = tries; ticks = ticks } }) st
same_open k l state tries ticks Idle o = tt
same_open k l state tries ticks (Sending i) o = (record { was_started = o.0.was_started; final_is = o.0.final_is }, o.1, o.2)
same_open k l state tries ticks Waiting o = (record { was_started = o.0.was_started; final_is = o.0.final_is }, o.1)
same_open k l state tries ticks (Receiving j) o = (
  record { was_started = o.0.was_started; final_is = o.0.final_is },
  record { reply = o.1.reply; has_run = o.1.has_run; begun = o.1.begun; within = o.1.within; kept = o.1.kept },
)
same_open k l state tries ticks Binding o = o

-- also where a packet is sent
sent_open : (k : Known) (l : Line) (q : Packet) (state : State) (tries ticks : ℕ) (st : State) → IsOpenIn k l st → IsOpenIn (with_sent k q) (record l { caller = record l.caller { state = state; tries = tries; ticks = ticks } }) st
sent_open k l q state tries ticks Idle o = tt
sent_open k l q state tries ticks (Sending i) o = (record { was_started = o.0.was_started; final_is = o.0.final_is }, o.1, o.2)
sent_open k l q state tries ticks Waiting o = (record { was_started = o.0.was_started; final_is = o.0.final_is }, o.1)
sent_open k l q state tries ticks (Receiving j) o =
    let run = o.1.has_run in (
      record { was_started = o.0.was_started; final_is = o.0.final_is },
      record {
        reply = o.1.reply;
        has_run = record { run = run.run; is_listed = run.is_listed; same_call = run.same_call; same_signal = run.same_signal; same_reply = run.same_reply };
        begun = o.1.begun;
        within = o.1.within;
        kept = o.1.kept;
      },
    )
sent_open k l q state tries ticks Binding o = o

same_alike : {bag : List Packet} {c : Caller} {kd : Kind} {fragment : ℕ} {sent : List ℕ} (state : State) (ticks : ℕ) → AreAlike bag c kd fragment sent → AreAlike bag (record c { state = state; tries = c.tries; ticks = ticks }) kd fragment sent
same_alike state ticks h = record { counted = h.counted; within = h.within; alike = h.alike }

same_marks : (bag : List Packet) (c : Caller) (sent : List ℕ) (state : State) (ticks : ℕ) (st : State) → IsMarkedIn bag c st sent → IsMarkedIn bag (record c { state = state; tries = c.tries; ticks = ticks }) st sent
same_marks bag c sent state ticks Idle h = tt
same_marks bag c sent state ticks (Sending i) h = same_alike state ticks h
same_marks bag c sent state ticks Waiting h = same_alike state ticks h
same_marks bag c sent state ticks (Receiving j) h = same_alike state ticks h
same_marks bag c sent state ticks Binding h = tt

-- a tick without an act
quiet_lawful : {k : Known} {m process : ℕ} {l : Line} {before : List ℕ} → Ticks k m process l before → is_idle l.caller.state ≡ false → IsLawful k m l before (row l.caller l.caller.state l.caller.tries (l.caller.ticks + 1) Quiet)
quiet_lawful {k} {m} {process} {l} {before} h busy =
    record {
      same_activity = refl;
      has_room = room_in l.caller.state l.caller.tries (l.caller.ticks + 1) l.kept h.line.has_room;
      is_open = same_open k l l.caller.state l.caller.tries (l.caller.ticks + 1) l.caller.state h.line.is_open;
      next = (refl, refl);
      kept_open = λ o. busy;
      marked = same_marks k.bag l.caller before l.caller.state (l.caller.ticks + 1) l.caller.state h.marked;
      saying = tt;
    }

-- one transmission more is like those before it
more_alike : {bag : List Packet} {c : Caller} {kd : Kind} {fragment : ℕ} {sent : List ℕ} (state : State) (q : Packet) → q.header.call ≡ current_call c → q.header.kind ≡ kd → q.header.fragment ≡ fragment → c.tries < TRIES → AreAlike bag c kd fragment sent → AreAlike (bag ++ q ∷ []) (record c { state = state; tries = c.tries + 1; ticks = 0 }) kd fragment ((length bag + 1) ∷ sent)
more_alike {bag} {c} {kd} {fragment} {sent} state q call same piece low h =
    record {
      counted = omega (arith, h.counted);
      within = omega (arith, low);
      alike = All-cons (IsTransmission (bag ++ q ∷ []) (current_call c) kd fragment) (length bag + 1) sent
          (record { packet = q; is_there = sent_is_there bag q; same_call = call; same_kind = same; same_fragment = piece })
          (transmissions_stay bag q (current_call c) kd fragment sent h.alike);
    }

-- what the state waits for is sent again
again_lawful : PieceLaws → {k : Known} {m process : ℕ} {l : Line} {before : List ℕ} (st : State) → Ticks k m process l before → is_idle l.caller.state ≡ false → is_idle st ≡ false → IsOpenIn k l st → IsMarkedIn k.bag l.caller st before → l.caller.tries < TRIES → IsLawful k m l before (row l.caller st (l.caller.tries + 1) 0 (sent_again l.caller st))
again_lawful laws Idle h busy b o t low = absurd (false≢true (sym b))
again_lawful laws {k} {m} {process} {l} {before} (Sending i) h busy b o t low =
    record {
      same_activity = refl;
      has_room = room_in (Sending i) (l.caller.tries + 1) 0 l.kept h.line.has_room;
      is_open = sent_open k l (packet_from m (repeated_sending l.caller i) (piece l.arguments i)) (Sending i) (l.caller.tries + 1) 0 (Sending i) o;
      next = (refl, refl);
      kept_open = λ x. busy;
      marked = more_alike (Sending i) (packet_from m (repeated_sending l.caller i) (piece l.arguments i)) refl refl refl low t;
      saying = record { request = piece_request laws k true i (own_line h.line) o.0 o.1; own = refl };
    }
again_lawful laws {k} {m} {process} {l} {before} Waiting h busy b o t low =
    record {
      same_activity = refl;
      has_room = room_in Waiting (l.caller.tries + 1) 0 l.kept h.line.has_room;
      is_open = sent_open k l (packet_from m (probe l.caller) []) Waiting (l.caller.tries + 1) 0 Waiting o;
      next = (refl, refl);
      kept_open = λ x. busy;
      marked = more_alike Waiting (packet_from m (probe l.caller) []) refl refl refl low t;
      saying = record { request = probe_request k (own_line h.line) o.0; own = refl };
    }
again_lawful laws {k} {m} {process} {l} {before} (Receiving j) h busy b o t low =
    let fits : length o.1.reply ≤ 92160 = subst (λ (xs : List ℕ). length xs ≤ 92160) o.1.has_run.same_reply (h.grounds.replies o.1.has_run.run o.1.has_run.is_listed).has_length.fits in
    record {
      same_activity = refl;
      has_room = room_in (Receiving j) (l.caller.tries + 1) 0 l.kept h.line.has_room;
      is_open = sent_open k l (packet_from m (acknowledgement l.caller (j - 1)) []) (Receiving j) (l.caller.tries + 1) 0 (Receiving j) o;
      next = (refl, refl);
      kept_open = λ x. busy;
      marked = more_alike (Receiving j) (packet_from m (acknowledgement l.caller (j - 1)) []) refl refl refl low t;
      saying = record { request = ack_request k (j - 1) (own_line h.line) o.0 (omega (arith, o.1.within, fits)); own = refl };
    }
again_lawful laws {k} {m} {process} {l} {before} Binding h busy b o t low =
    record {
      same_activity = refl;
      has_room = room_in Binding (l.caller.tries + 1) 0 l.kept h.line.has_room;
      is_open = o;
      next = (refl, refl);
      kept_open = λ x. busy;
      marked = tt;
      saying = record { request = bind_request laws k (own_line h.line); own = refl };
    }

-- eight transmissions of which none was answered
eight_lawful : {k : Known} {l : Line} {before : List ℕ} {kd : Kind} {fragment : ℕ} → TRIES ≤ l.caller.tries → AreAlike k.bag l.caller kd fragment before → IsLawfulSaying k l ByTick before true (gives_up false)
eight_lawful {kd = kd} {fragment = fragment} high h =
    record { kind = kd; fragment = fragment; eight = omega (arith, h.counted, h.within, high); alike = h.alike }

given_up : (k : Known) (l : Line) (before : List ℕ) (st : State) → is_idle st ≡ false → IsMarkedIn k.bag l.caller st before → TRIES ≤ l.caller.tries → IsLawfulSaying k l ByTick before true (gives_up (is_binding st))
given_up k l before Idle b t high = absurd (false≢true (sym b))
given_up k l before (Sending i) b t high = eight_lawful high t
given_up k l before Waiting b t high = eight_lawful high t
given_up k l before (Receiving j) b t high = eight_lawful high t
given_up k l before Binding b t high = tt

failed_lawful : {k : Known} {m process : ℕ} {l : Line} {before : List ℕ} → Ticks k m process l before → is_idle l.caller.state ≡ false → TRIES ≤ l.caller.tries → IsLawful k m l before (row l.caller Idle 0 0 Failed)
failed_lawful {k} {m} {process} {l} {before} h busy high =
    record {
      same_activity = refl;
      has_room = room_ended h.line.has_room;
      is_open = tt;
      next = (refl, refl);
      kept_open = λ o. absurd (false≢true (sym o));
      marked = tt;
      saying = given_up k l before l.caller.state busy h.marked high;
    }

-- an idle process has no tick
idle_lawful : {k : Known} {m process : ℕ} {l : Line} {before : List ℕ} → Ticks k m process l before → is_idle l.caller.state ≡ true → IsLawful k m l before (unused l.caller)
idle_lawful h idle =
    record {
      same_activity = refl;
      has_room = h.line.has_room;
      is_open = h.line.is_open;
      next = (refl, refl);
      kept_open = λ o. absurd (false≢true (sym o ∙ idle));
      marked = h.marked;
      saying = tt;
    }

open_lawful : PieceLaws → {k : Known} {m process : ℕ} {l : Line} {before : List ℕ} → Ticks k m process l before → is_idle l.caller.state ≡ false → IsLawful k m l before (on_open_tick l.caller)
open_lawful laws {k} {m} {process} {l} {before} h busy = go (ltb l.caller.ticks QUIET_TICKS) (ltb l.caller.tries TRIES) refl
  where
    go : (quiet more : Bool) → ltb l.caller.tries TRIES ≡ more → IsLawful k m l before (cond quiet (row l.caller l.caller.state l.caller.tries (l.caller.ticks + 1) Quiet) (cond more (row l.caller l.caller.state (l.caller.tries + 1) 0 (sent_again l.caller l.caller.state)) (row l.caller Idle 0 0 Failed)))
    go true more e = quiet_lawful h busy
    go false true e = again_lawful laws l.caller.state h busy busy h.line.is_open h.marked (ltb-true l.caller.tries TRIES e)
    go false false e = failed_lawful h busy (ltb-false l.caller.tries TRIES e)

pub tick_lawful : PieceLaws → (k : Known) (m process : ℕ) (l : Line) (before : List ℕ) → ReplyGrounds k → IsLine k m process l → IsMarked k.bag l.caller before → LawfulAct k l ByTick before (ticked m l)
unfolding ticked
tick_lawful laws k m process l before g line marked = go (is_idle l.caller.state) refl
  where
    h : Ticks k m process l before
    h = record { grounds = g; line = line; marked = marked }

    go : (b : Bool) → is_idle l.caller.state ≡ b → IsLawful k m l before (cond b (unused l.caller) (on_open_tick l.caller))
    go true e = idle_lawful h e
    go false e = open_lawful laws h e
