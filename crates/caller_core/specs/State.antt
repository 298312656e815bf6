-- The state of a caller as the rules see it.
use Rattle.std.specs.Prelude.{ℕ, ◌+◌, Bool, ◌==◌, ◌&&◌}
use Rattle.caller_core.specs.declared.state.State.{State}
use Rattle.caller_core.specs.declared.state.State.TheVariants as state
use Rattle.call_rules.specs.Caller as rules

abbrev pub state_of : State → rules.State
state_of state.Idle = rules.Idle
state_of (state.Sending piece) = rules.Sending piece
state_of state.Waiting = rules.Waiting
state_of (state.Receiving kept) = rules.Receiving (kept + 1)
state_of state.Binding = rules.Binding

-- this piece of the reply is due
abbrev pub is_due : rules.Caller → rules.State → ℕ → Bool
is_due c (rules.Receiving j) fragment = fragment == j
is_due c s fragment = rules.awaits_reply c s && (fragment == 0)
