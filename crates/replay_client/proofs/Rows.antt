-- Each row of the caller's table leaves a process sound, and gives an act that the process can tell.
use Rattle.std.proofs.Common.{◌≡◌, ◌≤◌, ◌<◌, ℕ, ◌+◌, ◌-◌, ◌*◌, List, [], length, Some, None, Bool, true, false, cond, refl, ap, sym, subst, arith, length-append}
use Rattle.std.specs.Prelude.{◌==◌, nat_lt}
use Rattle.std.proofs.lemmas.Bool.{eqb-true, ltb-true}
use Rattle.rpc_header.specs.declared.Export.{Export}
use Rattle.rpc_header.specs.declared.Kind.{Kind}
use Rattle.rpc_header.specs.declared.Kind.TheVariants as kind
use Rattle.fragments.specs.Pieces.{last_piece}
use Rattle.call_rules.specs.declared.caller.TheConstants.{QUIET_TICKS, TRIES}
use Rattle.call_rules.specs.Packet.{Fields, is_same_call}
use Rattle.call_rules.specs.Caller as rules
use Rattle.call_rules.specs.Caller.{Caller, State, Step, is_idle, row, unused, current_call, caller_header, first_sending, repeated_sending, acknowledgement, probe, bind, on_ack, on_result, on_signal, on_reject, on_bound, on_own_packet, on_packet, on_tick, sent_again}
use Rattle.replay_client.specs.Sound.{Fits, IsSound, IsSendable, CanTell}

pub record Ready (arguments kept bytes : List ℕ) (s : Step) : Type 0 where
  pub sound : IsSound s.caller arguments kept
  pub tells : CanTell s.caller arguments kept s.act bytes

-- the last piece has a number in range
last_below : (len final i : ℕ) → len ≤ 92160 → final ≡ last_piece len → i ≤ final → i < 64
last_below len final i long f within = omega arith

call_sendable : (c : Caller) (arguments : List ℕ) (ask : Bool) (i : ℕ) → length arguments ≤ 92160 → c.final ≡ last_piece (length arguments) → i ≤ c.final → IsSendable arguments (caller_header c kind.Call ask (i == c.final) i) (Some i)
call_sendable c arguments ask i long f within =
    record {
      reason = refl;
      fragment = last_below (length arguments) c.final i long f within;
      within = λ k e. let same : i ≡ k = cc in omega arith;
      pieces = λ _. (refl, ap (λ (n : ℕ). i == n) f);
    }

ack_sendable : (c : Caller) (arguments : List ℕ) (i : ℕ) → i < 64 → IsSendable arguments (acknowledgement c i) None
ack_sendable c arguments i within = record { reason = refl; fragment = within; within = λ k e. cc; pieces = λ e. cc }

probe_sendable : (c : Caller) (arguments : List ℕ) → c.final < 64 → IsSendable arguments (probe c) None
probe_sendable c arguments within = record { reason = refl; fragment = within; within = λ k e. cc; pieces = λ e. cc }

bind_sendable : (c : Caller) (arguments : List ℕ) → IsSendable arguments (bind c) (Some 0)
bind_sendable c arguments =
    record {
      reason = refl;
      fragment = omega arith;
      within = λ k e. let same : 0 ≡ k = cc in omega arith;
      pieces = λ e. cc;
    }

either : {arguments kept bytes : List ℕ} (b : Bool) (x y : Step) → (b ≡ true → Ready arguments kept bytes x) → (b ≡ false → Ready arguments kept bytes y) → Ready arguments kept bytes (cond b x y)
either true x y p q = p refl
either false x y p q = q refl

no_row : (c : Caller) (arguments kept bytes : List ℕ) → IsSound c arguments kept → Ready arguments kept bytes (unused c)
no_row c arguments kept bytes sound = record { sound = sound; tells = tt }

-- a row that ends the call
over : (c : Caller) (arguments kept bytes : List ℕ) → IsSound c arguments kept → IsSound (row c rules.Idle 0 0 rules.Unused).caller arguments kept
over c arguments kept bytes sound = record { long = sound.long; fits = tt }

last : (c : Caller) (arguments kept bytes : List ℕ) (signal : Bool) → IsSound c arguments kept → length kept ≤ 92160 → length bytes ≤ 1440 → Ready arguments kept bytes (row c rules.Idle 0 0 (rules.Last signal))
last c arguments kept bytes signal sound room short =
    record { sound = over c arguments kept bytes sound; tells = (refl, omega (arith, length-append kept bytes)) }

keeps : (c : Caller) (arguments kept bytes : List ℕ) (j : ℕ) → IsSound c arguments kept → j < 64 → length kept ≤ 1440 * j → length bytes ≤ 1440 → Ready arguments kept bytes (row c (rules.Receiving (j + 1)) 1 0 (rules.Keep (acknowledgement c j)))
keeps c arguments kept bytes j sound within room short =
    record {
      sound = record { long = sound.long; fits = (omega arith, omega arith, omega arith) };
      tells = (
        ack_sendable c [] j within,
        record { long = sound.long; fits = (omega arith, omega arith, omega (arith, length-append kept bytes)) },
      );
    }

waits : (c : Caller) (arguments kept bytes : List ℕ) → IsSound c arguments kept → c.final ≡ last_piece (length arguments) → kept ≡ [] → Ready arguments kept bytes (row c rules.Waiting 0 0 rules.TellsWaiting)
waits c arguments kept bytes sound f none = record { sound = record { long = sound.long; fits = (f, none) }; tells = tt }

sends_next : (c : Caller) (arguments kept bytes : List ℕ) (i : ℕ) → IsSound c arguments kept → c.final ≡ last_piece (length arguments) → kept ≡ [] → i ≤ c.final → Ready arguments kept bytes (row c (rules.Sending i) 1 0 (rules.Send (first_sending c i) (Some i)))
sends_next c arguments kept bytes i sound f none within =
    record {
      sound = record { long = sound.long; fits = (f, within, none) };
      tells = call_sendable c arguments _ i sound.long f within;
    }

of_ack : (c : Caller) (arguments kept bytes : List ℕ) (s : State) (h : Fields) → IsSound c arguments kept → Fits s c.final arguments kept → Ready arguments kept bytes (on_ack c s h)
of_ack c arguments kept bytes (rules.Sending i) h sound f =
    either (nat_lt i c.final) _ _
    (λ e. either _ _ _ (λ _. sends_next c arguments kept bytes (i + 1) sound f.0 f.2 (let below : i < c.final = ltb-true _ _ e in omega arith)) (λ _. no_row c arguments kept bytes sound))
    (λ _. either _ _ _ (λ _. waits c arguments kept bytes sound f.0 f.2) (λ _. no_row c arguments kept bytes sound))
of_ack c arguments kept bytes rules.Waiting h sound f =
    either _ _ _ (λ _. waits c arguments kept bytes sound f.0 f.1) (λ _. no_row c arguments kept bytes sound)
of_ack c arguments kept bytes rules.Idle h sound f = no_row c arguments kept bytes sound
of_ack c arguments kept bytes (rules.Receiving j) h sound f = no_row c arguments kept bytes sound
of_ack c arguments kept bytes rules.Binding h sound f = no_row c arguments kept bytes sound

first_piece : (c : Caller) (arguments kept bytes : List ℕ) (h : Fields) → IsSound c arguments kept → kept ≡ [] → length bytes ≤ 1440 → Ready arguments kept bytes (cond h.last (row c rules.Idle 0 0 (rules.Last false)) (row c (rules.Receiving 1) 1 0 (rules.Keep (acknowledgement c 0))))
first_piece c arguments kept bytes h sound none short =
    let empty : length kept ≡ 0 = ap length none in
    either h.last _ _ (λ _. last c arguments kept bytes false sound (omega arith) short) (λ _. keeps c arguments kept bytes 0 sound (omega arith) (omega arith) short)

of_result : (c : Caller) (arguments kept bytes : List ℕ) (s : State) (h : Fields) → IsSound c arguments kept → Fits s c.final arguments kept → h.fragment < 64 → length bytes ≤ 1440 → Ready arguments kept bytes (on_result c s h)
of_result c arguments kept bytes (rules.Receiving j) h sound f within short =
    either (h.fragment == j) _ _
    (λ e. either h.last _ _ (λ _. last c arguments kept bytes false sound (omega (arith, f.1, f.2)) short)
    (λ _. keeps c arguments kept bytes j sound (let same : h.fragment ≡ j = eqb-true _ _ e in omega arith) f.2 short))
    (λ _. no_row c arguments kept bytes sound)
of_result c arguments kept bytes (rules.Sending i) h sound f within short =
    either _ _ _ (λ _. first_piece c arguments kept bytes h sound f.2 short) (λ _. no_row c arguments kept bytes sound)
of_result c arguments kept bytes rules.Waiting h sound f within short =
    either _ _ _ (λ _. first_piece c arguments kept bytes h sound f.1 short) (λ _. no_row c arguments kept bytes sound)
of_result c arguments kept bytes rules.Idle h sound f within short = no_row c arguments kept bytes sound
of_result c arguments kept bytes rules.Binding h sound f within short = no_row c arguments kept bytes sound

signals : (c : Caller) (arguments kept bytes : List ℕ) (b : Bool) → IsSound c arguments kept → kept ≡ [] → length bytes ≤ 1440 → Ready arguments kept bytes (cond b (row c rules.Idle 0 0 (rules.Last true)) (unused c))
signals c arguments kept bytes b sound none short =
    let empty : length kept ≡ 0 = ap length none in
    either b _ _ (λ _. last c arguments kept bytes true sound (omega arith) short) (λ _. no_row c arguments kept bytes sound)

of_signal : (c : Caller) (arguments kept bytes : List ℕ) (s : State) (h : Fields) → IsSound c arguments kept → Fits s c.final arguments kept → length bytes ≤ 1440 → Ready arguments kept bytes (on_signal c s h)
of_signal c arguments kept bytes (rules.Sending i) h sound f short = signals c arguments kept bytes _ sound f.2 short
of_signal c arguments kept bytes rules.Waiting h sound f short = signals c arguments kept bytes _ sound f.1 short
of_signal c arguments kept bytes rules.Idle h sound f short = no_row c arguments kept bytes sound
of_signal c arguments kept bytes (rules.Receiving j) h sound f short = no_row c arguments kept bytes sound
of_signal c arguments kept bytes rules.Binding h sound f short = no_row c arguments kept bytes sound

of_reject : (c : Caller) (arguments kept bytes : List ℕ) (s : State) (h : Fields) → IsSound c arguments kept → Ready arguments kept bytes (on_reject c s h)
of_reject c arguments kept bytes rules.Idle h sound = no_row c arguments kept bytes sound
of_reject c arguments kept bytes rules.Binding h sound = no_row c arguments kept bytes sound
of_reject c arguments kept bytes _ h sound = record { sound = over c arguments kept bytes sound; tells = refl }

answered : (c : Caller) (arguments kept bytes : List ℕ) (b : Bool) (export : Export) → IsSound c arguments kept → Ready arguments kept bytes (row c rules.Idle 0 0 (cond b (rules.Bound export) rules.Unbound))
answered c arguments kept bytes true export sound = record { sound = over c arguments kept bytes sound; tells = refl }
answered c arguments kept bytes false export sound = record { sound = over c arguments kept bytes sound; tells = refl }

of_bound : (c : Caller) (arguments kept bytes : List ℕ) (s : State) (h : Fields) → IsSound c arguments kept → Ready arguments kept bytes (on_bound c s h)
of_bound c arguments kept bytes rules.Binding h sound = answered c arguments kept bytes _ h.export sound
of_bound c arguments kept bytes _ h sound = no_row c arguments kept bytes sound

of_own_packet : (c : Caller) (arguments kept bytes : List ℕ) (s : State) (k : Kind) (h : Fields) → IsSound c arguments kept → Fits s c.final arguments kept → h.fragment < 64 → length bytes ≤ 1440 → Ready arguments kept bytes (on_own_packet c s k h)
of_own_packet c arguments kept bytes s kind.Ack h sound f within short = of_ack c arguments kept bytes s h sound f
of_own_packet c arguments kept bytes s kind.Result h sound f within short = of_result c arguments kept bytes s h sound f within short
of_own_packet c arguments kept bytes s kind.Signal h sound f within short = of_signal c arguments kept bytes s h sound f short
of_own_packet c arguments kept bytes s kind.Reject h sound f within short = of_reject c arguments kept bytes s h sound
of_own_packet c arguments kept bytes s kind.Bound h sound f within short = of_bound c arguments kept bytes s h sound
of_own_packet c arguments kept bytes s _ h sound f within short = no_row c arguments kept bytes sound

-- a packet
pub heard_ready : (c : Caller) (arguments kept bytes : List ℕ) (h : Fields) → IsSound c arguments kept → h.fragment < 64 → length bytes ≤ 1440 → Ready arguments kept bytes (on_packet c h)
heard_ready c arguments kept bytes h sound within short =
    either (is_same_call h.call (current_call c)) _ _ (λ _. of_own_packet c arguments kept bytes c.state h.kind h sound sound.fits within short) (λ _. no_row c arguments kept bytes sound)

again : (c : Caller) (arguments kept bytes : List ℕ) (s : State) (c' : Caller) → length arguments ≤ 92160 → Fits s c.final arguments kept → CanTell c' arguments kept (sent_again c s) bytes
again c arguments kept bytes rules.Idle c' long f = tt
again c arguments kept bytes (rules.Sending i) c' long f = call_sendable c arguments true i long f.0 f.1
again c arguments kept bytes rules.Waiting c' long f = probe_sendable c arguments (last_below (length arguments) c.final c.final long f.0 (omega arith))
again c arguments kept bytes (rules.Receiving j) c' long f = ack_sendable c arguments (j - 1) (omega (arith, f.0, f.1))
again c arguments kept bytes rules.Binding c' long f = bind_sendable c arguments

-- the rows of a tick
quiet : Caller → Step
quiet c = row c c.state c.tries (c.ticks + 1) rules.Quiet

repeats : Caller → Step
repeats c = row c c.state (c.tries + 1) 0 (sent_again c c.state)

fails : Caller → Step
fails c = row c rules.Idle 0 0 rules.Failed

quiet_ready : (c : Caller) (arguments kept bytes : List ℕ) → IsSound c arguments kept → Ready arguments kept bytes (quiet c)
unfolding quiet
quiet_ready c arguments kept bytes sound = record { sound = record { long = sound.long; fits = sound.fits }; tells = tt }

repeats_ready : (c : Caller) (arguments kept bytes : List ℕ) → IsSound c arguments kept → Ready arguments kept bytes (repeats c)
unfolding repeats
repeats_ready c arguments kept bytes sound =
    record {
      sound = record { long = sound.long; fits = sound.fits };
      tells = again c arguments kept bytes c.state _ sound.long sound.fits;
    }

fails_ready : (c : Caller) (arguments kept bytes : List ℕ) → IsSound c arguments kept → Ready arguments kept bytes (fails c)
unfolding fails
fails_ready c arguments kept bytes sound = record { sound = over c arguments kept bytes sound; tells = refl }

tick_rows : (c : Caller) → on_tick c ≡ cond (is_idle c.state) (unused c) (cond (nat_lt c.ticks QUIET_TICKS) (quiet c) (cond (nat_lt c.tries TRIES) (repeats c) (fails c)))
unfolding quiet repeats fails
tick_rows c = refl

-- a tick
pub ticked_ready : (c : Caller) (arguments kept bytes : List ℕ) → IsSound c arguments kept → Ready arguments kept bytes (on_tick c)
ticked_ready c arguments kept bytes sound =
    subst (Ready arguments kept bytes) (sym (tick_rows c))
    (either (is_idle c.state) (unused c) _ (λ _. no_row c arguments kept bytes sound)
    (λ _. either (nat_lt c.ticks QUIET_TICKS) (quiet c) _ (λ _. quiet_ready c arguments kept bytes sound)
    (λ _. either (nat_lt c.tries TRIES) (repeats c) (fails c) (λ _. repeats_ready c arguments kept bytes sound) (λ _. fails_ready c arguments kept bytes sound))))

-- an open caller sends something again
sends_again : (c : Caller) (s : State) → is_idle s ≡ false → sent_again c s ≡ rules.Unused → ⊥
sends_again c rules.Idle e f = cc
sends_again c (rules.Sending i) e f = cc
sends_again c rules.Waiting e f = cc
sends_again c (rules.Receiving j) e f = cc
sends_again c rules.Binding e f = cc

-- a step by an unused act changes nothing
record Keeps (c : Caller) (s : Step) : Type 0 where
  unused : s.act ≡ rules.Unused → s.caller ≡ c

kept_either : {c : Caller} (b : Bool) (x y : Step) → (b ≡ true → Keeps c x) → (b ≡ false → Keeps c y) → Keeps c (cond b x y)
kept_either true x y p q = p refl
kept_either false x y p q = q refl

quiet_kept : (c : Caller) → Keeps c (quiet c)
unfolding quiet
quiet_kept c = record { unused = λ e. cc }

repeats_kept : (c : Caller) → is_idle c.state ≡ false → Keeps c (repeats c)
unfolding repeats
repeats_kept c busy = record { unused = λ e. absurd (sends_again c c.state busy e) }

fails_kept : (c : Caller) → Keeps c (fails c)
unfolding fails
fails_kept c = record { unused = λ e. cc }

ticked_kept : (c : Caller) → Keeps c (on_tick c)
ticked_kept c =
    subst (Keeps c) (sym (tick_rows c))
    (kept_either (is_idle c.state) (unused c) _ (λ _. record { unused = λ _. refl })
    (λ busy. kept_either (nat_lt c.ticks QUIET_TICKS) (quiet c) _ (λ _. quiet_kept c)
    (λ _. kept_either (nat_lt c.tries TRIES) (repeats c) (fails c) (λ _. repeats_kept c busy) (λ _. fails_kept c))))

pub ticked_keeps : (c : Caller) → (on_tick c).act ≡ rules.Unused → (on_tick c).caller ≡ c
ticked_keeps c = (ticked_kept c).unused
