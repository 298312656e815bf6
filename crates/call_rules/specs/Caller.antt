-- The rules of a caller: for its state and a start, a packet or a tick, the new state and the act.
-- A result acknowledges its call, after Birrell and Nelson's RPC; the states are this project's own.
use Rattle.std.specs.Prelude.{ℕ, ◌+◌, ◌-◌, Option, Some, None, Bool, true, false, not, ◌==◌, ◌&&◌, nat_lt, if◌then◌else◌}
use Rattle.rpc_header.specs.declared.Activity.{Activity}
use Rattle.rpc_header.specs.declared.Export.{Export}
use Rattle.rpc_header.specs.declared.Kind.{Kind}
use Rattle.rpc_header.specs.declared.Kind.TheVariants as kind
use Rattle.fragments.specs.Pieces.{last_piece}
use Rattle.call_rules.specs.declared.caller.TheConstants.{QUIET_TICKS, TRIES}
use Rattle.call_rules.specs.Packet.{Call, Fields, no_export, is_same_call}

pub data State : Type 0 where
  Idle : State
  Sending : (piece : ℕ) → State
  Waiting : State
  Receiving : (piece : ℕ) → State
  Binding : State

-- final is the number of the last piece of the arguments. tries counts transmissions of what the caller
-- waits to have answered, and ticks the ticks since the last of them, or since what it sent was acknowledged
pub record Caller : Type 0 where
  pub activity : Activity
  pub hint : ℕ
  pub number : ℕ
  pub export : Export
  pub procedure : ℕ
  pub final : ℕ
  pub state : State
  pub tries : ℕ
  pub ticks : ℕ

pub data Act : Type 0 where
  -- send a packet with this header and this piece of the arguments, or no data
  Send : (header : Fields) → (piece : Option ℕ) → Act
  -- keep the data, and send this acknowledgement
  Keep : (header : Fields) → Act
  -- keep the data; the reply is whole, and is a signal or not
  Last : (signal : Bool) → Act
  TellsWaiting : Act
  Bound : Export → Act
  Unbound : Act
  Refused : (reason : ℕ) → Act
  Failed : Act
  Quiet : Act
  Unused : Act

pub record Step : Type 0 where
  pub caller : Caller
  pub act : Act

-- a caller that has made no call
abbrev pub idle : Activity → ℕ → Caller
idle activity hint =
    record {
      activity = activity;
      hint = hint;
      number = 0;
      export = no_export;
      procedure = 0;
      final = 0;
      state = Idle;
      tries = 0;
      ticks = 0;
    }

abbrev pub is_idle : State → Bool
is_idle Idle = true
is_idle _ = false

abbrev pub is_binding : State → Bool
is_binding Binding = true
is_binding _ = false

-- a packet that isn't counted
abbrev pub is_unused : Act → Bool
is_unused Unused = true
is_unused _ = false

-- the call that the caller has open
abbrev pub current_call : Caller → Call
current_call c = record { activity = c.activity; number = c.number }

-- a header of the caller's call
abbrev pub caller_header : Caller → Kind → Bool → Bool → ℕ → Fields
caller_header c kind please_ack last fragment =
    record {
      kind = kind;
      please_ack = please_ack;
      last = last;
      reason = 0;
      call = current_call c;
      hint = c.hint;
      fragment = fragment;
      export = c.export;
      procedure = c.procedure;
    }

-- What a caller sends.

-- a piece of the arguments sent for the first time: each but the last asks for an acknowledgement
abbrev pub first_sending : Caller → ℕ → Fields
first_sending c i = caller_header c kind.Call (not (i == c.final)) (i == c.final) i

-- a piece sent again asks for an acknowledgement, whichever it is
abbrev pub repeated_sending : Caller → ℕ → Fields
repeated_sending c i = caller_header c kind.Call true (i == c.final) i

-- the acknowledgement of the last piece that was kept of the reply
abbrev pub acknowledgement : Caller → ℕ → Fields
acknowledgement c i = caller_header c kind.Ack false true i

-- asks whether the server still has the call
abbrev pub probe : Caller → Fields
probe c = caller_header c kind.Probe true true c.final

-- asks for the export of a name, which is the data
abbrev pub bind : Caller → Fields
bind c = record (caller_header c kind.Bind false true 0) { export = no_export; procedure = 0 }

-- The table: a row's new state, with its tries and ticks, and the row's act.
abbrev pub row : Caller → State → ℕ → ℕ → Act → Step
row c state tries ticks act = record { caller = record c { state = state; tries = tries; ticks = ticks }; act = act }

-- what has no row changes nothing
abbrev pub unused : Caller → Step
unused c = record { caller = c; act = Unused }

-- idle, a start of a call whose arguments have so many bytes: the first piece is sent
abbrev pub on_start_call : Caller → (number : ℕ) → Export → (procedure len : ℕ) → Step
on_start_call c number export procedure len =
    let c' : Caller = record c { number = number; export = export; procedure = procedure; final = last_piece len } in
    row c' (Sending 0) 1 0 (Send (first_sending c' 0) (Some 0))

-- idle, a start of a bind: the name is sent, as the only piece
abbrev pub on_start_bind : Caller → (number : ℕ) → Step
on_start_bind c number =
    let c' : Caller = record c { number = number } in
    row c' Binding 1 0 (Send (bind c') (Some 0))

-- the whole call was sent, and no piece of a reply has come: Sending(final) or Waiting
abbrev pub awaits_reply : Caller → State → Bool
awaits_reply c (Sending i) = i == c.final
awaits_reply c Waiting = true
awaits_reply c _ = false

-- an Ack: of a piece before the last, the next piece is sent; of the last, the server has the call
abbrev pub on_ack : Caller → State → Fields → Step
on_ack c (Sending i) h =
    if nat_lt i c.final
    then (if h.fragment == i then row c (Sending (i + 1)) 1 0 (Send (first_sending c (i + 1)) (Some (i + 1))) else unused c)
    else (if (i == c.final) && (h.fragment == c.final) then row c Waiting 0 0 TellsWaiting else unused c)
on_ack c Waiting h = if h.fragment == c.final then row c Waiting 0 0 TellsWaiting else unused c
on_ack c _ h = unused c

-- a Result: the first piece, which may be the last, where a reply is awaited; then the piece that is due
abbrev pub on_result : Caller → State → Fields → Step
on_result c (Receiving j) h =
    if h.fragment == j
    then (if h.last then row c Idle 0 0 (Last false) else row c (Receiving (j + 1)) 1 0 (Keep (acknowledgement c j)))
    else unused c
on_result c s h =
    if awaits_reply c s && (h.fragment == 0)
    then (if h.last then row c Idle 0 0 (Last false) else row c (Receiving 1) 1 0 (Keep (acknowledgement c 0)))
    else unused c

-- a Signal, which is one piece, where a reply is awaited
abbrev pub on_signal : Caller → State → Fields → Step
on_signal c s h = if awaits_reply c s && (h.fragment == 0) && h.last then row c Idle 0 0 (Last true) else unused c

-- a Reject, while a call is open
abbrev pub on_reject : Caller → State → Fields → Step
on_reject c Idle h = unused c
on_reject c Binding h = unused c
on_reject c _ h = row c Idle 0 0 (Refused h.reason)

-- a Bound, while a bind is open: reason 0 tells the export
abbrev pub on_bound : Caller → State → Fields → Step
on_bound c Binding h = row c Idle 0 0 (if h.reason == 0 then Bound h.export else Unbound)
on_bound c _ h = unused c

-- a packet of the caller's call, by its kind
abbrev pub on_own_packet : Caller → State → Kind → Fields → Step
on_own_packet c s kind.Ack h = on_ack c s h
on_own_packet c s kind.Result h = on_result c s h
on_own_packet c s kind.Signal h = on_signal c s h
on_own_packet c s kind.Reject h = on_reject c s h
on_own_packet c s kind.Bound h = on_bound c s h
on_own_packet c s _ h = unused c

-- a packet counts only if its call is the caller's call
abbrev pub on_packet : Caller → Fields → Step
on_packet c h = if is_same_call h.call (current_call c) then on_own_packet c c.state h.kind h else unused c

-- what is sent again, by the state
abbrev pub sent_again : Caller → State → Act
sent_again c Idle = Unused
sent_again c (Sending i) = Send (repeated_sending c i) (Some i)
sent_again c Waiting = Send (probe c) None
sent_again c (Receiving j) = Send (acknowledgement c (j - 1)) None
sent_again c Binding = Send (bind c) (Some 0)

-- a tick of a caller that isn't idle: quiet, sent again, or failed
abbrev pub on_open_tick : Caller → Step
on_open_tick c =
    if nat_lt c.ticks QUIET_TICKS
    then row c c.state c.tries (c.ticks + 1) Quiet
    else (if nat_lt c.tries TRIES then row c c.state (c.tries + 1) 0 (sent_again c c.state) else row c Idle 0 0 Failed)

abbrev pub on_tick : Caller → Step
on_tick c = if is_idle c.state then unused c else on_open_tick c

-- whoever made the call gives it up
abbrev pub abandoned : Caller → Caller
abandoned c = record c { state = Idle; tries = 0; ticks = 0 }

abbrev pub is_receiving : State → Bool
is_receiving (Receiving j) = true
is_receiving _ = false

-- a packet begins a long reply: pieces of one are received after it, and none were before
abbrev pub begins_long : Caller → Fields → Bool
begins_long c h = not (is_receiving c.state) && is_receiving (on_packet c h).caller.state
