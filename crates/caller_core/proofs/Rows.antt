-- What a packet leaves of a caller, whichever row it has.
use Rattle.std.proofs.Common.{◌≡◌, ℕ, ◌+◌, Option, Some, Bool, true, false, cond, refl}
use Rattle.std.specs.Prelude.{◌==◌, ◌&&◌}
use Rattle.rpc_header.specs.declared.Export.{Export}
use Rattle.rpc_header.specs.declared.Kind.{Kind}
use Rattle.rpc_header.specs.declared.Kind.TheVariants as kind
use Rattle.call_rules.specs.Packet.{Fields, is_same_call}
use Rattle.call_rules.specs.Caller as rules
use Rattle.call_rules.specs.Caller.{Caller, State, Step, row, unused, current_call, first_sending, acknowledgement, on_ack, on_result, on_signal, on_reject, on_bound, on_own_packet, on_packet}

pub record Leaves (c : Caller) (s : Step) : Type 0 where
  pub call : current_call s.caller ≡ current_call c
  pub unused : s.act ≡ rules.Unused → s.caller ≡ c

no_row : (c : Caller) → Leaves c (unused c)
no_row c = record { call = refl; unused = λ _. refl }

-- a row, by its act
sends : (c : Caller) (s : State) (h : Fields) (piece : Option ℕ) → Leaves c (row c s 1 0 (rules.Send h piece))
sends c s h piece = record { call = refl; unused = λ e. cc }

waits : (c : Caller) → Leaves c (row c rules.Waiting 0 0 rules.TellsWaiting)
waits c = record { call = refl; unused = λ e. cc }

keeps : (c : Caller) (s : State) (h : Fields) → Leaves c (row c s 1 0 (rules.Keep h))
keeps c s h = record { call = refl; unused = λ e. cc }

ends : (c : Caller) (signal : Bool) → Leaves c (row c rules.Idle 0 0 (rules.Last signal))
ends c signal = record { call = refl; unused = λ e. cc }

refused : (c : Caller) (reason : ℕ) → Leaves c (row c rules.Idle 0 0 (rules.Refused reason))
refused c reason = record { call = refl; unused = λ e. cc }

answered : (c : Caller) (b : Bool) (export : Export) → Leaves c (row c rules.Idle 0 0 (cond b (rules.Bound export) rules.Unbound))
answered c true export = record { call = refl; unused = λ e. cc }
answered c false export = record { call = refl; unused = λ e. cc }

either : {c : Caller} (b : Bool) (x y : Step) → Leaves c x → Leaves c y → Leaves c (cond b x y)
either {c} true x y p q = p
either {c} false x y p q = q

of_ack : (c : Caller) (s : State) (h : Fields) → Leaves c (on_ack c s h)
of_ack c (rules.Sending i) h =
    either _ _ _ (either _ _ _ (sends c (rules.Sending (i + 1)) (first_sending c (i + 1)) (Some (i + 1))) (no_row c)) (either _ _ _ (waits c) (no_row c))
of_ack c rules.Waiting h = either _ _ _ (waits c) (no_row c)
of_ack c _ h = no_row c

first_piece : (c : Caller) (h : Fields) → Leaves c (cond h.last (row c rules.Idle 0 0 (rules.Last false)) (row c (rules.Receiving 1) 1 0 (rules.Keep (acknowledgement c 0))))
first_piece c h = either h.last _ _ (ends c false) (keeps c (rules.Receiving 1) (acknowledgement c 0))

of_result : (c : Caller) (s : State) (h : Fields) → Leaves c (on_result c s h)
of_result c (rules.Receiving j) h =
    either _ _ _ (either _ _ _ (ends c false) (keeps c (rules.Receiving (j + 1)) (acknowledgement c j))) (no_row c)
of_result c (rules.Sending i) h = either ((i == c.final) && (h.fragment == 0)) _ _ (first_piece c h) (no_row c)
of_result c rules.Waiting h = either (h.fragment == 0) _ _ (first_piece c h) (no_row c)
of_result c _ h = no_row c

of_signal : (c : Caller) (s : State) (h : Fields) → Leaves c (on_signal c s h)
of_signal c s h = either _ _ _ (ends c true) (no_row c)

of_reject : (c : Caller) (s : State) (h : Fields) → Leaves c (on_reject c s h)
of_reject c rules.Idle h = no_row c
of_reject c rules.Binding h = no_row c
of_reject c _ h = refused c h.reason

of_bound : (c : Caller) (s : State) (h : Fields) → Leaves c (on_bound c s h)
of_bound c rules.Binding h = answered c _ h.export
of_bound c _ h = no_row c

of_own_packet : (c : Caller) (s : State) (k : Kind) (h : Fields) → Leaves c (on_own_packet c s k h)
of_own_packet c s kind.Ack h = of_ack c s h
of_own_packet c s kind.Result h = of_result c s h
of_own_packet c s kind.Signal h = of_signal c s h
of_own_packet c s kind.Reject h = of_reject c s h
of_own_packet c s kind.Bound h = of_bound c s h
of_own_packet c s _ h = no_row c

of_packet : (c : Caller) (h : Fields) → Leaves c (on_packet c h)
of_packet c h = either (is_same_call h.call (current_call c)) _ _ (of_own_packet c c.state h.kind h) (no_row c)

pub same_call : (c : Caller) (h : Fields) → current_call (on_packet c h).caller ≡ current_call c
same_call c h = (of_packet c h).call

pub unused_keeps : (c : Caller) (h : Fields) → (on_packet c h).act ≡ rules.Unused → (on_packet c h).caller ≡ c
unused_keeps c h = (of_packet c h).unused
