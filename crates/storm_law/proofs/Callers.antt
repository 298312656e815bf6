-- What each row of a caller's rules makes of the calls that its process has open: only a start begins one, and each
-- act that ends one comes from a state in which it was open, and leaves the caller idle.
use Rattle.std.proofs.Common.{◌≡◌, ℕ, ◌+◌, Bool, true, false, cond, refl, ap, sym, arith, ltb, eqb, ◌&&◌}
use Rattle.std.specs.Prelude.{List, []}
use Rattle.std.proofs.lemmas.Bool.{false≢true, cond_both}
use Rattle.rpc_header.specs.declared.Kind.{Kind}
use Rattle.rpc_header.specs.declared.Kind.TheVariants as kind
use Rattle.call_rules.specs.declared.caller.TheConstants.{QUIET_TICKS, TRIES}
use Rattle.call_rules.specs.Packet.{Fields, Packet, is_same_call}
use Rattle.call_rules.specs.Caller.{State, Idle, Sending, Waiting, Receiving, Binding, Keep, Last, Bound, Unbound, Step, current_call, is_idle, is_binding, row, unused, acknowledgement, awaits_reply, on_ack, on_result, on_signal, on_reject, on_bound, on_own_packet, sent_again, on_open_tick}
use Rattle.replay_model.specs.Process.{Line, Said, Returned, Fails, LineStep, acts, started, binds, heard, ticked, gives_up}
use Rattle.replay_model.specs.OpenCalls.{open_in}

-- how many calls end with what a process tells
abbrev pub ended_with : Said → ℕ
ended_with (Returned x) = 1
ended_with (Fails cause) = 1
ended_with _ = 0

-- of a process that has begun so many calls, and was in this state before: what was open has ended, or is open
pub record Keeps (begun : ℕ) (before : State) (s : LineStep) : Type 0 where
  pub balanced : begun + open_in before ≡ ended_with s.said + open_in s.line.caller.state

-- a row keeps the calls of a process whose state is s
abbrev RowKeeps : (me : ℕ) → Line → State → List ℕ → Step → Type 0
RowKeeps me l s bytes step = Keeps 0 s (acts me l step bytes)

either : (P : Step → Type 0) (b : Bool) (x y : Step) → P x → P y → P (cond b x y)
either P true x y px py = px
either P false x y px py = py

nothing_changes : (me : ℕ) (l : Line) (s : State) (bytes : List ℕ) → l.caller.state ≡ s → RowKeeps me l s bytes (unused l.caller)
nothing_changes me l s bytes e =
    let same : open_in l.caller.state ≡ open_in s = ap open_in e in
    record { balanced = omega arith }

keeps_ack : (me : ℕ) (l : Line) (s : State) (h : Fields) (bytes : List ℕ) → l.caller.state ≡ s → RowKeeps me l s bytes (on_ack l.caller s h)
keeps_ack me l Idle h bytes e = nothing_changes me l Idle bytes e
keeps_ack me l (Sending i) h bytes e =
    let P : Step → Type 0 = RowKeeps me l (Sending i) bytes in
    either P (ltb i l.caller.final) _ _
    (either P (eqb h.fragment i) _ _ (record { balanced = refl }) (nothing_changes me l (Sending i) bytes e))
    (either P (eqb i l.caller.final && eqb h.fragment l.caller.final) _ _ (record { balanced = refl }) (nothing_changes me l (Sending i) bytes e))
keeps_ack me l Waiting h bytes e =
    either (RowKeeps me l Waiting bytes) (eqb h.fragment l.caller.final) _ _ (record { balanced = refl }) (nothing_changes me l Waiting bytes e)
keeps_ack me l (Receiving j) h bytes e = nothing_changes me l (Receiving j) bytes e
keeps_ack me l Binding h bytes e = nothing_changes me l Binding bytes e

-- the first piece of a reply, where the state has a call open
keeps_first_piece : (me : ℕ) (l : Line) (s : State) (h : Fields) (bytes : List ℕ) (b : Bool) → open_in s ≡ 1 → l.caller.state ≡ s → RowKeeps me l s bytes (cond b (cond h.last (row l.caller Idle 0 0 (Last false)) (row l.caller (Receiving 1) 1 0 (Keep (acknowledgement l.caller 0)))) (unused l.caller))
keeps_first_piece me l s h bytes b one e =
    let P : Step → Type 0 = RowKeeps me l s bytes in
    either P b _ _
    (either P h.last _ _ (record { balanced = omega (arith, one) }) (record { balanced = omega (arith, one) }))
    (nothing_changes me l s bytes e)

keeps_result : (me : ℕ) (l : Line) (s : State) (h : Fields) (bytes : List ℕ) → l.caller.state ≡ s → RowKeeps me l s bytes (on_result l.caller s h)
keeps_result me l Idle h bytes e = nothing_changes me l Idle bytes e
keeps_result me l (Sending i) h bytes e = keeps_first_piece me l (Sending i) h bytes (awaits_reply l.caller (Sending i) && eqb h.fragment 0) refl e
keeps_result me l Waiting h bytes e = keeps_first_piece me l Waiting h bytes (awaits_reply l.caller Waiting && eqb h.fragment 0) refl e
keeps_result me l (Receiving j) h bytes e =
    let P : Step → Type 0 = RowKeeps me l (Receiving j) bytes in
    either P (eqb h.fragment j) _ _
    (either P h.last _ _ (record { balanced = refl }) (record { balanced = refl }))
    (nothing_changes me l (Receiving j) bytes e)
keeps_result me l Binding h bytes e = nothing_changes me l Binding bytes e

keeps_signal : (me : ℕ) (l : Line) (s : State) (h : Fields) (bytes : List ℕ) → l.caller.state ≡ s → RowKeeps me l s bytes (on_signal l.caller s h)
keeps_signal me l Idle h bytes e = nothing_changes me l Idle bytes e
keeps_signal me l (Sending i) h bytes e =
    either (RowKeeps me l (Sending i) bytes) (awaits_reply l.caller (Sending i) && eqb h.fragment 0 && h.last) _ _
    (record { balanced = refl }) (nothing_changes me l (Sending i) bytes e)
keeps_signal me l Waiting h bytes e =
    either (RowKeeps me l Waiting bytes) (awaits_reply l.caller Waiting && eqb h.fragment 0 && h.last) _ _
    (record { balanced = refl }) (nothing_changes me l Waiting bytes e)
keeps_signal me l (Receiving j) h bytes e = nothing_changes me l (Receiving j) bytes e
keeps_signal me l Binding h bytes e = nothing_changes me l Binding bytes e

keeps_reject : (me : ℕ) (l : Line) (s : State) (h : Fields) (bytes : List ℕ) → l.caller.state ≡ s → RowKeeps me l s bytes (on_reject l.caller s h)
keeps_reject me l Idle h bytes e = nothing_changes me l Idle bytes e
keeps_reject me l (Sending i) h bytes e = record { balanced = refl }
keeps_reject me l Waiting h bytes e = record { balanced = refl }
keeps_reject me l (Receiving j) h bytes e = record { balanced = refl }
keeps_reject me l Binding h bytes e = nothing_changes me l Binding bytes e

-- a bind that is answered ends no call
keeps_answer : (me : ℕ) (l : Line) (h : Fields) (bytes : List ℕ) (b : Bool) → RowKeeps me l Binding bytes (row l.caller Idle 0 0 (cond b (Bound h.export) Unbound))
keeps_answer me l h bytes true = record { balanced = refl }
keeps_answer me l h bytes false = record { balanced = refl }

keeps_bound : (me : ℕ) (l : Line) (s : State) (h : Fields) (bytes : List ℕ) → l.caller.state ≡ s → RowKeeps me l s bytes (on_bound l.caller s h)
keeps_bound me l Binding h bytes e = keeps_answer me l h bytes (eqb h.reason 0)
keeps_bound me l s h bytes e = nothing_changes me l s bytes e

keeps_own_packet : (me : ℕ) (l : Line) (k : Kind) (h : Fields) (bytes : List ℕ) → RowKeeps me l l.caller.state bytes (on_own_packet l.caller l.caller.state k h)
keeps_own_packet me l kind.Ack h bytes = keeps_ack me l l.caller.state h bytes refl
keeps_own_packet me l kind.Result h bytes = keeps_result me l l.caller.state h bytes refl
keeps_own_packet me l kind.Signal h bytes = keeps_signal me l l.caller.state h bytes refl
keeps_own_packet me l kind.Reject h bytes = keeps_reject me l l.caller.state h bytes refl
keeps_own_packet me l kind.Bound h bytes = keeps_bound me l l.caller.state h bytes refl
keeps_own_packet me l _ h bytes = nothing_changes me l l.caller.state bytes refl

-- a packet comes
pub heard_keeps : (me : ℕ) (l : Line) (p : Packet) → Keeps 0 l.caller.state (heard me l p)
unfolding heard
heard_keeps me l p =
    either (RowKeeps me l l.caller.state p.payload) (is_same_call p.header.call (current_call l.caller)) _ _
    (keeps_own_packet me l p.header.kind p.header p.payload) (nothing_changes me l l.caller.state p.payload refl)

-- Ticks.

keeps_sent_again : (me : ℕ) (l : Line) (s : State) (tries : ℕ) → l.caller.state ≡ s → RowKeeps me l s [] (row l.caller s tries 0 (sent_again l.caller s))
keeps_sent_again me l Idle tries e =
    let same : open_in l.caller.state ≡ 0 = ap open_in e in
    record { balanced = omega arith }
keeps_sent_again me l (Sending i) tries e = record { balanced = refl }
keeps_sent_again me l Waiting tries e = record { balanced = refl }
keeps_sent_again me l (Receiving j) tries e = record { balanced = refl }
keeps_sent_again me l Binding tries e = record { balanced = refl }

-- what is given up is a bind, or the call that is open
one_is_given_up : (s : State) → is_idle s ≡ false → open_in s ≡ ended_with (gives_up (is_binding s))
one_is_given_up Idle busy = absurd (false≢true (sym busy))
one_is_given_up (Sending i) busy = refl
one_is_given_up Waiting busy = refl
one_is_given_up (Receiving j) busy = refl
one_is_given_up Binding busy = refl

keeps_open_tick : (me : ℕ) (l : Line) → is_idle l.caller.state ≡ false → RowKeeps me l l.caller.state [] (on_open_tick l.caller)
keeps_open_tick me l busy =
    let P : Step → Type 0 = RowKeeps me l l.caller.state [] in
    let given_up : open_in l.caller.state ≡ ended_with (gives_up (is_binding l.caller.state)) = one_is_given_up l.caller.state busy in
    either P (ltb l.caller.ticks QUIET_TICKS) _ _ (record { balanced = refl })
    (either P (ltb l.caller.tries TRIES) _ _ (keeps_sent_again me l l.caller.state (l.caller.tries + 1) refl) (record { balanced = omega arith }))

pub ticked_keeps : (me : ℕ) (l : Line) → Keeps 0 l.caller.state (ticked me l)
unfolding ticked
ticked_keeps me l =
    cond_both (is_idle l.caller.state) _ _ (RowKeeps me l l.caller.state []) (λ idle. nothing_changes me l l.caller.state [] refl)
    (λ busy. keeps_open_tick me l busy)

-- Starts, of an idle process.

idle_has_none : (s : State) → is_idle s ≡ true → open_in s ≡ 0
idle_has_none Idle idle = refl
idle_has_none (Sending i) idle = absurd (false≢true idle)
idle_has_none Waiting idle = absurd (false≢true idle)
idle_has_none (Receiving j) idle = absurd (false≢true idle)
idle_has_none Binding idle = refl

pub started_keeps : (me : ℕ) (l : Line) (procedure : ℕ) (arguments : List ℕ) → is_idle l.caller.state ≡ true → Keeps 1 l.caller.state (started me l procedure arguments)
unfolding started
started_keeps me l procedure arguments idle =
    let none : open_in l.caller.state ≡ 0 = idle_has_none l.caller.state idle in
    record { balanced = omega arith }

pub binds_keeps : (me : ℕ) (l : Line) (bytes : List ℕ) → is_idle l.caller.state ≡ true → Keeps 0 l.caller.state (binds me l bytes)
unfolding binds
binds_keeps me l bytes idle =
    let none : open_in l.caller.state ≡ 0 = idle_has_none l.caller.state idle in
    record { balanced = omega arith }
