-- What holds of a process between its steps, so that each packet that it sends has a spelling, and what it has kept
-- of a reply has room; and what an act asks of the process that tells it.
use Rattle.std.specs.Prelude.{◌≡◌, ◌≤◌, ◌<◌, ◌*◌, ◌^◌, ℕ, List, [], ◌++◌, length, Option, Some, None, Bool, IsTrue, ◌==◌}
use Rattle.rpc_header.specs.Fields.{is_reason, has_pieces}
use Rattle.fragments.specs.Pieces.{last_piece}
use Rattle.fragments.specs.declared.limits.TheConstants.{LONG, PIECE, PIECES}
use Rattle.call_rules.specs.Packet.{Fields}
use Rattle.call_rules.specs.Caller.{Caller, State, Idle, Sending, Waiting, Receiving, Binding, Act, Send, Keep, Last, TellsWaiting, Bound, Unbound, Refused, Failed, Quiet, Unused, is_binding}

-- pieces of a reply are kept before the one that is due, and nothing before the first is
abbrev pub Fits : State → (final : ℕ) → (arguments kept : List ℕ) → Type 0
Fits Idle final arguments kept = Unit {0}
Fits (Sending i) final arguments kept = (final ≡ last_piece (length arguments)) × (i ≤ final) × (kept ≡ [])
Fits Waiting final arguments kept = (final ≡ last_piece (length arguments)) × (kept ≡ [])
Fits (Receiving j) final arguments kept = (1 ≤ j) × (j ≤ PIECES) × (length kept ≤ PIECE * j)
Fits Binding final arguments kept = length arguments ≤ PIECE

pub record IsSound (c : Caller) (arguments kept : List ℕ) : Type 0 where
  pub long : length arguments ≤ LONG
  pub fits : Fits c.state c.final arguments kept

-- a packet with these fields has a spelling, whose data is this piece of the arguments
pub record IsSendable (arguments : List ℕ) (h : Fields) (piece : Option ℕ) : Type 0 where
  pub reason : IsTrue (is_reason h.kind h.reason)
  pub fragment : h.fragment < PIECES
  pub within : (i : ℕ) → piece ≡ Some i → i ≤ last_piece (length arguments)
  pub pieces : IsTrue (has_pieces h.kind) → (piece ≡ Some h.fragment) × (h.last ≡ (h.fragment == last_piece (length arguments)))

-- what an act asks of a process whose caller is c afterwards; bytes are the data of the packet that came, if one did
abbrev pub CanTell : Caller → (arguments kept : List ℕ) → Act → (bytes : List ℕ) → Type 0
CanTell c arguments kept (Send h piece) bytes = IsSendable arguments h piece
CanTell c arguments kept (Keep h) bytes = IsSendable [] h None × IsSound c arguments (kept ++ bytes)
CanTell c arguments kept (Last signal) bytes = (c.state ≡ Idle) × (length (kept ++ bytes) < 2 ^ 32)
CanTell c arguments kept TellsWaiting bytes = Unit {0}
CanTell c arguments kept (Bound export) bytes = c.state ≡ Idle
CanTell c arguments kept Unbound bytes = c.state ≡ Idle
CanTell c arguments kept (Refused reason) bytes = c.state ≡ Idle
CanTell c arguments kept Failed bytes = c.state ≡ Idle
CanTell c arguments kept Quiet bytes = Unit {0}
CanTell c arguments kept Unused bytes = Unit {0}

-- a caller that has become c by this act: by an unused one it is the same
pub record CameFrom (before c : Caller) (a : Act) (binding : Bool) : Type 0 where
  pub unused : a ≡ Unused → c ≡ before
  pub bind : is_binding before.state ≡ binding
