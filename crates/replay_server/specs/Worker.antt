-- A worker as the rules see it.
use Rattle.std.specs.Prelude.{◌≡◌, ℕ, List, length, Option, Some, None, not, IsTrue, ⊤}
use Rattle.fragments.specs.declared.limits.TheConstants.{PIECE}
use Rattle.call_rules.specs.Packet.{Packet}
use Rattle.call_rules.specs.Entry.{word_seen}
use Rattle.call_rules.specs.Worker as rules
use Rattle.replay_server.specs.declared.stage.Arguments.{Arguments}
use Rattle.replay_server.specs.declared.stage.Arguments.TheVariants as arguments
use Rattle.replay_server.specs.declared.stage.Stage.{Stage}
use Rattle.replay_server.specs.declared.stage.Stage.TheVariants as stage
use Rattle.replay_server.specs.Service.{answer_of}
use Rattle.replay_server.specs.Texts.{whole_text}

-- the arguments of an admitted call, whose carrier has this data
abbrev pub arguments_in : Arguments → (payload : List ℕ) → List ℕ
arguments_in arguments.Carried payload = payload
arguments_in (arguments.Gathered whole) payload = whole_text whole

-- a worker that holds a packet
abbrev pub worker_at : Packet → Stage → rules.Worker
worker_at p (stage.Claimed seen) = rules.Claimed p (word_seen seen)
worker_at p stage.Took = rules.Took p
worker_at p (stage.Admitted arguments) = rules.Admitted p (arguments_in arguments p.payload)
worker_at p (stage.Ran answer) = rules.Ran p (answer_of answer)
worker_at p stage.Fetched = rules.Fetched p

-- a worker that is to do this next with its packet, or gives it back
abbrev pub worker_after : Packet → Option Stage → rules.Worker
worker_after p None = rules.Resting
worker_after p (Some s) = worker_at p s

abbrev pub worker_of : Option Packet → Stage → rules.Worker
worker_of None s = rules.Resting
worker_of (Some p) s = worker_at p s

-- a packet's piece is full, or the last
abbrev pub IsFullPiece : Packet → Type 0
IsFullPiece p = IsTrue (not p.header.last) → length p.payload ≡ PIECE

-- where a worker has gathered pieces in hand, its packet's piece may be added to them
abbrev pub CanAdd : rules.Worker → Type 0
CanAdd (rules.Took p) = IsFullPiece p
CanAdd _ = ⊤
