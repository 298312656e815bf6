-- Each row of the caller's rules that a packet makes is a lawful act.
use Rattle.std.proofs.Common.{◌≡◌, ◌≢◌, ℕ, ◌+◌, ◌-◌, ◌<◌, ◌≤◌, List, [], ◌∷◌, ◌++◌, length, Some, Bool, true, false, cond, refl, ap, sym, ◌∙◌, subst, arith, eqb, eqb-true, ltb}
use Rattle.std.specs.Prelude.{not, ◌==◌, ◌&&◌}
use Rattle.std.proofs.lemmas.Bool.{false≢true, and_parts, eq-eqb, ltb-true}
use Rattle.std.proofs.lemmas.List.Elements.{All-nil, All-cons}
use Rattle.fragments.specs.Pieces.{last_piece, piece, front}
use Rattle.rpc_header.specs.declared.Kind.{Kind}
use Rattle.rpc_header.specs.declared.Kind.TheVariants as kind
use Rattle.call_rules.specs.Packet.{Call, Packet, Fields, is_same_call}
use Rattle.call_rules.specs.Caller.{Caller, State, Idle, Sending, Waiting, Receiving, Binding, Send, Keep, Last, TellsWaiting, Bound, Unbound, Refused, Step, is_idle, is_unused, current_call, first_sending, acknowledgement, row, unused, awaits_reply, on_ack, on_result, on_signal, on_reject, on_bound, on_own_packet, on_packet}
use Rattle.replay_model.specs.Once.{IsTransmission}
use Rattle.replay_model.specs.Process.{Line, packet_from, ended, acts, heard}
use Rattle.replay_model.specs.World.{packet_at}
use Rattle.lawful_rules.specs.Known.{Known}
use Rattle.lawful_rules.specs.Facts.{HasLength, HasRun, CarriesPiece, IsReplyPiece, Answers, IsAnswer, HasRoom, IsCall, Receives, IsOpenIn, IsLine, AreAlike}
use Rattle.lawful_rules.specs.Lawful.{ReplyGrounds, ByPacket, LawfulAct}
use Rattle.lawful_rules.proofs.Pieces.{PieceLaws, first_front, last_front, one_piece}
use Rattle.lawful_rules.proofs.Judging.{same_call}
use Rattle.lawful_rules.proofs.Framing.{no_bytes}
use Rattle.lawful_rules.proofs.Sending.{IsOwn, sent_is_there, piece_request, ack_request}

-- Parts of what is owed.

pub own_line : {k : Known} {m process : ℕ} {l : Line} → IsLine k m process l → IsOwn m process l
own_line h = record { own_activity = h.own_activity; has_entry = h.has_entry; has_room = h.has_room }

-- a process that has come to another state has as much room
pub room_in : {l : Line} (state : State) (tries ticks : ℕ) (kept : List ℕ) → HasRoom l → HasRoom (record l { caller = record l.caller { state = state; tries = tries; ticks = ticks }; kept = kept })
room_in state tries ticks kept h =
    record {
      hint = h.hint;
      number = h.number;
      identifier = h.identifier;
      index = h.index;
      procedure = h.procedure;
      bound_identifier = h.bound_identifier;
      bound_index = h.bound_index;
      arguments = h.arguments;
    }

nothing_to_send : HasLength []
nothing_to_send = record { fits = omega arith; are_bytes = no_bytes }

-- also at its end
pub room_ended : {l : Line} → HasRoom l → HasRoom (ended l (record l.caller { state = Idle; tries = 0; ticks = 0 }))
room_ended h =
    record {
      hint = h.hint;
      number = h.number;
      identifier = h.identifier;
      index = h.index;
      procedure = h.procedure;
      bound_identifier = h.bound_identifier;
      bound_index = h.bound_index;
      arguments = nothing_to_send;
    }

-- one transmission is the first of its kind
pub one_alike : (bag : List Packet) (c : Caller) (h : Fields) (q : Packet) → q.header ≡ h → h.call ≡ current_call c → c.tries ≡ 1 → AreAlike (bag ++ q ∷ []) c h.kind h.fragment ((length bag + 1) ∷ [])
one_alike bag c h q same call tries =
    let P : ℕ → Type 0 = IsTransmission (bag ++ q ∷ []) (current_call c) h.kind h.fragment in
    record {
      counted = sym tries;
      within = omega (arith, tries);
      alike = All-cons P (length bag + 1) []
          (record {
            packet = q;
            is_there = sent_is_there bag q;
            same_call = ap (λ x. x.call) same ∙ call;
            same_kind = ap (λ x. x.kind) same;
            same_fragment = ap (λ x. x.fragment) same;
          })
          (All-nil P);
    }

-- A packet of the call.

-- a packet of the call that the process has open
pub record Comes (k : Known) (m process : ℕ) (l : Line) (n : ℕ) (p : Packet) : Type 0 where
  pub grounds : ReplyGrounds k
  pub line : IsLine k m process l
  pub answer : IsAnswer k n p
  pub is_there : packet_at k.bag n ≡ Some p
  pub own_call : p.header.call ≡ current_call l.caller

-- a row that counts is lawful
abbrev Counts : Known → ℕ → Line → ℕ → Packet → List ℕ → Step → Type 0
Counts k m l n p before s = is_unused s.act ≡ false → LawfulAct k l (ByPacket n p) before (acts m l s p.payload)

no_row : {k : Known} {m process : ℕ} {l : Line} {n : ℕ} {p : Packet} {before : List ℕ} → Comes k m process l n p → Counts k m l n p before (unused l.caller)
no_row h u = absurd (false≢true (sym u))

either : {k : Known} {m process : ℕ} {l : Line} {n : ℕ} {p : Packet} {before : List ℕ} → Comes k m process l n p → (b : Bool) (x y : Step) → (b ≡ true → Counts k m l n p before x) → (b ≡ false → Counts k m l n p before y) → Counts k m l n p before (cond b x y)
either h true x y f g = f refl
either h false x y f g = g refl

-- the server works on the call
waiting_row : {k : Known} {m process : ℕ} {l : Line} {n : ℕ} {p : Packet} {before : List ℕ} → Comes k m process l n p → is_idle l.caller.state ≡ false → IsCall k l → l.kept ≡ [] → Counts k m l n p before (row l.caller Waiting 0 0 TellsWaiting)
waiting_row {k} {m} {process} {l} {n} {p} {before} h busy call none u =
    record {
      same_activity = refl;
      has_room = room_in Waiting 0 0 l.kept h.line.has_room;
      is_open = (record { was_started = call.was_started; final_is = call.final_is }, none);
      next = (refl, refl);
      kept_open = λ o. busy;
      marked = record { counted = refl; within = omega arith; alike = All-nil (IsTransmission k.bag (current_call l.caller) kind.Probe l.caller.final) };
      saying = tt;
    }

-- the next piece is sent
next_row : PieceLaws → {k : Known} {m process : ℕ} {l : Line} {n : ℕ} {p : Packet} {before : List ℕ} (i : ℕ) → Comes k m process l n p → is_idle l.caller.state ≡ false → IsCall k l → l.kept ≡ [] → i < l.caller.final → Counts k m l n p before (row l.caller (Sending (i + 1)) 1 0 (Send (first_sending l.caller (i + 1)) (Some (i + 1))))
next_row laws {k} {m} {process} {l} {n} {p} {before} i h busy call none low u =
    record {
      same_activity = refl;
      has_room = room_in (Sending (i + 1)) 1 0 l.kept h.line.has_room;
      is_open = (record { was_started = call.was_started; final_is = call.final_is }, omega (arith, low), none);
      next = (refl, refl);
      kept_open = λ o. busy;
      marked = one_alike k.bag (record l.caller { state = Sending (i + 1); tries = 1; ticks = 0 }) (first_sending l.caller (i + 1))
          (packet_from m (first_sending l.caller (i + 1)) (piece l.arguments (i + 1))) refl refl refl;
      saying = record { request = piece_request laws k (not (i + 1 == l.caller.final)) (i + 1) (own_line h.line) call (omega (arith, low)); own = refl };
    }

-- a piece of the reply is kept, and acknowledged
keep_row : {k : Known} {m process : ℕ} {l : Line} {n : ℕ} {p : Packet} {before : List ℕ} (j : ℕ) (reply : List ℕ) → Comes k m process l n p → is_idle l.caller.state ≡ false → IsCall k l → HasRun k (current_call l.caller) false reply → l.kept ++ p.payload ≡ front reply (j + 1) → j + 1 ≤ last_piece (length reply) → Counts k m l n p before (row l.caller (Receiving (j + 1)) 1 0 (Keep (acknowledgement l.caller j)))
keep_row {k} {m} {process} {l} {n} {p} {before} j reply h busy call run kept more u =
    let has : length reply ≤ 92160 = subst (λ (xs : List ℕ). length xs ≤ 92160) run.same_reply (h.grounds.replies run.run run.is_listed).has_length.fits in
    let back : j ≡ j + 1 - 1 = omega arith in
    record {
      same_activity = refl;
      has_room = room_in (Receiving (j + 1)) 1 0 (l.kept ++ p.payload) h.line.has_room;
      is_open = (
        record { was_started = call.was_started; final_is = call.final_is },
        record {
          reply = reply;
          has_run = record { run = run.run; is_listed = run.is_listed; same_call = run.same_call; same_signal = run.same_signal; same_reply = run.same_reply };
          begun = omega arith;
          within = more;
          kept = kept;
        },
      );
      next = (refl, refl);
      kept_open = λ o. busy;
      marked = subst (λ f. AreAlike (k.bag ++ packet_from m (acknowledgement l.caller j) [] ∷ []) (record l.caller { state = Receiving (j + 1); tries = 1; ticks = 0 }) kind.Ack f ((length k.bag + 1) ∷ [])) back
          (one_alike k.bag (record l.caller { state = Receiving (j + 1); tries = 1; ticks = 0 }) (acknowledgement l.caller j)
          (packet_from m (acknowledgement l.caller j) []) refl refl refl);
      saying = record { request = ack_request k j (own_line h.line) call (omega (arith, more, has)); own = refl };
    }

-- the reply is whole
last_row : {k : Known} {m process : ℕ} {l : Line} {n : ℕ} {p : Packet} {before : List ℕ} (signal : Bool) → Comes k m process l n p → is_idle l.caller.state ≡ false → HasRun k (current_call l.caller) signal (l.kept ++ p.payload) → Counts k m l n p before (row l.caller Idle 0 0 (Last signal))
last_row signal h busy run u =
    record {
      same_activity = refl;
      has_room = room_ended h.line.has_room;
      is_open = tt;
      next = (refl, refl);
      kept_open = λ o. absurd (false≢true (sym o));
      marked = tt;
      saying = (record { was_open = busy; same_call = refl; has_run = run }, refl);
    }

refused_row : {k : Known} {m process : ℕ} {l : Line} {n : ℕ} {p : Packet} {before : List ℕ} → Comes k m process l n p → p.header.kind ≡ kind.Reject → Counts k m l n p before (row l.caller Idle 0 0 (Refused p.header.reason))
refused_row h reject u =
    record {
      same_activity = refl;
      has_room = room_ended h.line.has_room;
      is_open = tt;
      next = (refl, refl);
      kept_open = λ o. absurd (false≢true (sym o));
      marked = tt;
      saying = record { is_answer = h.answer; is_there = h.is_there; is_reject = reject; same_call = h.own_call; same_reason = refl };
    }

bound_row : {k : Known} {m process : ℕ} {l : Line} {n : ℕ} {p : Packet} {before : List ℕ} (found : Bool) → Comes k m process l n p → Counts k m l n p before (row l.caller Idle 0 0 (cond found (Bound p.header.export) Unbound))
bound_row true h u =
    let room = h.line.has_room in
    record {
      same_activity = refl;
      has_room = record {
        hint = room.hint;
        number = room.number;
        identifier = room.identifier;
        index = room.index;
        procedure = room.procedure;
        bound_identifier = h.answer.framed.fits_fields.identifier;
        bound_index = h.answer.framed.fits_fields.index;
        arguments = nothing_to_send;
      };
      is_open = tt;
      next = (refl, refl);
      kept_open = λ o. absurd (false≢true (sym o));
      marked = tt;
      saying = tt;
    }
bound_row false h u =
    record {
      same_activity = refl;
      has_room = room_ended h.line.has_room;
      is_open = tt;
      next = (refl, refl);
      kept_open = λ o. absurd (false≢true (sym o));
      marked = tt;
      saying = tt;
    }

-- The table, by the state and the kind.

-- what holds where a reply is awaited
pub record Awaits (k : Known) (l : Line) (st : State) : Type 0 where
  pub busy : is_idle st ≡ false
  pub call : IsCall k l
  pub none : l.kept ≡ []

awaits : {k : Known} {l : Line} (st : State) → IsOpenIn k l st → awaits_reply l.caller st ≡ true → Awaits k l st
awaits Idle o a = absurd (false≢true a)
awaits (Sending i) o a = record { busy = refl; call = o.0; none = o.2 }
awaits Waiting o a = record { busy = refl; call = o.0; none = o.1 }
awaits (Receiving j) o a = absurd (false≢true a)
awaits Binding o a = absurd (false≢true a)

ack_counts : PieceLaws → {k : Known} {m process : ℕ} {l : Line} {n : ℕ} {p : Packet} {before : List ℕ} (st : State) → l.caller.state ≡ st → IsOpenIn k l st → Comes k m process l n p → Counts k m l n p before (on_ack l.caller st p.header)
ack_counts laws {l = l} {p = p} (Sending i) same o h =
    either h (ltb i l.caller.final) _ _
    (λ low. either h (eqb p.header.fragment i) _ _ (λ e. next_row laws i h (ap is_idle same) o.0 o.2 (ltb-true i l.caller.final low)) (λ e. no_row h))
    (λ high. either h ((i == l.caller.final) && (p.header.fragment == l.caller.final)) _ _ (λ e. waiting_row h (ap is_idle same) o.0 o.2) (λ e. no_row h))
ack_counts laws {l = l} {p = p} Waiting same o h = either h (eqb p.header.fragment l.caller.final) _ _ (λ e. waiting_row h (ap is_idle same) o.0 o.1) (λ e. no_row h)
ack_counts laws Idle same o h = no_row h
ack_counts laws (Receiving j) same o h = no_row h
ack_counts laws Binding same o h = no_row h

-- the run of a piece of a reply is that of the call
own_run : {k : Known} {m process : ℕ} {l : Line} {n : ℕ} {p : Packet} {signal : Bool} → Comes k m process l n p → (r : IsReplyPiece k p signal) → HasRun k (current_call l.caller) signal r.reply
own_run {k} {l = l} {signal = signal} h r = subst (λ c. HasRun k c signal r.reply) h.own_call r.has_run

-- two answers of one call are one
one_reply : {k : Known} {call : Call} {s t : Bool} {a b : List ℕ} → ReplyGrounds k → HasRun k call s a → HasRun k call t b → a ≡ b
one_reply g x y =
    let same : x.run ≡ y.run = g.one_run x.run y.run x.is_listed y.is_listed (x.same_call ∙ sym y.same_call) in
    sym x.same_reply ∙ ap (λ r. r.reply) same ∙ y.same_reply

-- where the packet says that it is the last piece, and where it doesn't
is_last : {p : Packet} {text : List ℕ} → CarriesPiece p text → p.header.last ≡ true → p.header.fragment ≡ last_piece (length text)
is_last {p} {text} c e = eqb-true p.header.fragment (last_piece (length text)) (sym c.is_last ∙ e)

is_before : {p : Packet} {text : List ℕ} → CarriesPiece p text → p.header.last ≡ false → p.header.fragment + 1 ≤ last_piece (length text)
is_before {p} {text} c e =
    let other : p.header.fragment ≢ last_piece (length text) = λ same. false≢true (sym e ∙ c.is_last ∙ eq-eqb p.header.fragment (last_piece (length text)) same) in
    omega (arith, c.within, other)

-- the first piece of a reply
first_counts : PieceLaws → {k : Known} {m process : ℕ} {l : Line} {n : ℕ} {p : Packet} {before : List ℕ} (st : State) → l.caller.state ≡ st → Awaits k l st → Comes k m process l n p → IsReplyPiece k p false → p.header.fragment ≡ 0 → Counts k m l n p before (cond p.header.last (row l.caller Idle 0 0 (Last false)) (row l.caller (Receiving 1) 1 0 (Keep (acknowledgement l.caller 0))))
first_counts laws {k} {m} {process} {l} {n} {p} {before} st same a h r first =
    let payload : l.kept ++ p.payload ≡ piece r.reply 0 = ap (λ xs. xs ++ p.payload) a.none ∙ r.carries.payload ∙ ap (piece r.reply) first in
    let busy : is_idle l.caller.state ≡ false = ap is_idle same ∙ a.busy in
    either h p.header.last _ _
    (λ e. last_row false h busy
    (subst (HasRun k (current_call l.caller) false) (sym (payload ∙ one_piece laws r.reply (sym first ∙ is_last r.carries e))) (own_run h r)))
    (λ e. keep_row 0 r.reply h busy a.call (own_run h r) (payload ∙ sym (first_front laws r.reply)) (subst (λ i. i + 1 ≤ last_piece (length r.reply)) first (is_before r.carries e)))

-- a further piece of a reply
further_counts : PieceLaws → {k : Known} {m process : ℕ} {l : Line} {n : ℕ} {p : Packet} {before : List ℕ} (j : ℕ) → l.caller.state ≡ Receiving j → IsCall k l → Receives k l j → Comes k m process l n p → IsReplyPiece k p false → p.header.fragment ≡ j → Counts k m l n p before (cond p.header.last (row l.caller Idle 0 0 (Last false)) (row l.caller (Receiving (j + 1)) 1 0 (Keep (acknowledgement l.caller j))))
further_counts laws {k} {m} {process} {l} {n} {p} {before} j same call o h r due =
    let one : o.reply ≡ r.reply = one_reply h.grounds o.has_run (own_run h r) in
    let joined : l.kept ++ p.payload ≡ front r.reply j ++ piece r.reply j =
    ap (λ xs. xs ++ p.payload) (o.kept ∙ ap (λ xs. front xs j) one) ∙ ap (λ xs. front r.reply j ++ xs) (r.carries.payload ∙ ap (piece r.reply) due) in
    let busy : is_idle l.caller.state ≡ false = ap is_idle same in
    either h p.header.last _ _
    (λ e. last_row false h busy
    (subst (HasRun k (current_call l.caller) false) (sym (joined ∙ last_front laws r.reply j (sym due ∙ is_last r.carries e))) (own_run h r)))
    (λ e. keep_row j r.reply h busy call (own_run h r) (joined ∙ sym (laws.more r.reply j)) (subst (λ i. i + 1 ≤ last_piece (length r.reply)) due (is_before r.carries e)))

awaited_counts : PieceLaws → {k : Known} {m process : ℕ} {l : Line} {n : ℕ} {p : Packet} {before : List ℕ} (st : State) → l.caller.state ≡ st → IsOpenIn k l st → Comes k m process l n p → IsReplyPiece k p false → Counts k m l n p before (cond (awaits_reply l.caller st && (p.header.fragment == 0)) (cond p.header.last (row l.caller Idle 0 0 (Last false)) (row l.caller (Receiving 1) 1 0 (Keep (acknowledgement l.caller 0)))) (unused l.caller))
awaited_counts laws {l = l} {p = p} st same o h r =
    either h (awaits_reply l.caller st && (p.header.fragment == 0)) _ _
    (λ e.
    let parts = and_parts (awaits_reply l.caller st) (eqb p.header.fragment 0) e in
    first_counts laws st same (awaits st o parts.0) h r (eqb-true p.header.fragment 0 parts.1))
    (λ e. no_row h)

result_counts : PieceLaws → {k : Known} {m process : ℕ} {l : Line} {n : ℕ} {p : Packet} {before : List ℕ} (st : State) → l.caller.state ≡ st → IsOpenIn k l st → Comes k m process l n p → IsReplyPiece k p false → Counts k m l n p before (on_result l.caller st p.header)
result_counts laws {l = l} {p = p} (Receiving j) same o h r =
    either h (eqb p.header.fragment j) _ _ (λ e. further_counts laws j same o.0 o.1 h r (eqb-true p.header.fragment j e)) (λ e. no_row h)
result_counts laws Idle same o h r = awaited_counts laws Idle same o h r
result_counts laws (Sending i) same o h r = awaited_counts laws (Sending i) same o h r
result_counts laws Waiting same o h r = awaited_counts laws Waiting same o h r
result_counts laws Binding same o h r = awaited_counts laws Binding same o h r

signal_counts : PieceLaws → {k : Known} {m process : ℕ} {l : Line} {n : ℕ} {p : Packet} {before : List ℕ} (st : State) → l.caller.state ≡ st → IsOpenIn k l st → Comes k m process l n p → IsReplyPiece k p true → Counts k m l n p before (on_signal l.caller st p.header)
signal_counts laws {k} {m} {process} {l} {n} {p} {before} st same o h r =
    either h (awaits_reply l.caller st && (p.header.fragment == 0) && p.header.last) _ _
    (λ e.
    let outer = and_parts (awaits_reply l.caller st && (p.header.fragment == 0)) p.header.last e in
    let inner = and_parts (awaits_reply l.caller st) (eqb p.header.fragment 0) outer.0 in
    let a = awaits st o inner.0 in
    let first = eqb-true p.header.fragment 0 inner.1 in
    let payload : l.kept ++ p.payload ≡ r.reply =
    ap (λ xs. xs ++ p.payload) a.none ∙ r.carries.payload ∙ ap (piece r.reply) first ∙ one_piece laws r.reply (sym first ∙ is_last r.carries outer.1) in
    last_row true h (ap is_idle same ∙ a.busy) (subst (HasRun k (current_call l.caller) true) (sym payload) (own_run h r)))
    (λ e. no_row h)

reject_counts : {k : Known} {m process : ℕ} {l : Line} {n : ℕ} {p : Packet} {before : List ℕ} (st : State) → Comes k m process l n p → p.header.kind ≡ kind.Reject → Counts k m l n p before (on_reject l.caller st p.header)
reject_counts Idle h e = no_row h
reject_counts Binding h e = no_row h
reject_counts (Sending i) h e = refused_row h e
reject_counts Waiting h e = refused_row h e
reject_counts (Receiving j) h e = refused_row h e

bound_counts : {k : Known} {m process : ℕ} {l : Line} {n : ℕ} {p : Packet} {before : List ℕ} (st : State) → Comes k m process l n p → Counts k m l n p before (on_bound l.caller st p.header)
bound_counts {p = p} Binding h = bound_row (eqb p.header.reason 0) h
bound_counts Idle h = no_row h
bound_counts (Sending i) h = no_row h
bound_counts Waiting h = no_row h
bound_counts (Receiving j) h = no_row h

own_counts : PieceLaws → {k : Known} {m process : ℕ} {l : Line} {n : ℕ} {p : Packet} {before : List ℕ} (st : State) → l.caller.state ≡ st → IsOpenIn k l st → Comes k m process l n p → (kd : Kind) → p.header.kind ≡ kd → Answers k n p kd → Counts k m l n p before (on_own_packet l.caller st kd p.header)
own_counts laws st same o h kind.Ack e a = ack_counts laws st same o h
own_counts laws st same o h kind.Result e a = result_counts laws st same o h a
own_counts laws st same o h kind.Signal e a = signal_counts laws st same o h a
own_counts laws st same o h kind.Reject e a = reject_counts st h e
own_counts laws st same o h kind.Bound e a = bound_counts st h
own_counts laws st same o h _ e a = absurd a

pub packet_lawful : PieceLaws → (k : Known) (m process : ℕ) (l : Line) (n : ℕ) (p : Packet) (before : List ℕ) → ReplyGrounds k → IsLine k m process l → IsAnswer k n p → packet_at k.bag n ≡ Some p → is_unused (on_packet l.caller p.header).act ≡ false → LawfulAct k l (ByPacket n p) before (heard m l p)
unfolding heard
packet_lawful laws k m process l n p before g line answer there = go (is_same_call p.header.call (current_call l.caller)) refl
  where
    go : (b : Bool) → is_same_call p.header.call (current_call l.caller) ≡ b → Counts k m l n p before (cond b (on_own_packet l.caller l.caller.state p.header.kind p.header) (unused l.caller))
    go true e =
        own_counts laws l.caller.state refl line.is_open
        (record { grounds = g; line = line; answer = answer; is_there = there; own_call = same_call p.header.call (current_call l.caller) e })
        p.header.kind refl answer.answers
    go false e = λ u. absurd (false≢true (sym u))
