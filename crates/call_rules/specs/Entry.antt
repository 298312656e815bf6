-- What a server keeps for one activity, and the judgement of a packet by it.
-- The server keeps the number of the last call of each activity, after Birrell and Nelson's RPC.
use Rattle.std.specs.Prelude.{ℕ, List, Bool, true, false, ◌==◌, ◌&&◌, nat_lt, if◌then◌else◌}
use Rattle.rpc_header.specs.declared.Kind.{Kind}
use Rattle.rpc_header.specs.declared.Kind.TheVariants as kind
use Rattle.call_rules.specs.Packet.{Fields}
use Rattle.call_rules.specs.declared.entry.Judged.{Judged}
use Rattle.call_rules.specs.declared.entry.Judged.TheVariants as judged
use Rattle.call_rules.specs.declared.entry.Phase.{Phase}
use Rattle.call_rules.specs.declared.entry.Phase.TheVariants as phase
use Rattle.call_rules.specs.declared.judgement.Seen.{Seen}

-- gathered bytes come with the number of the piece that is due next; a reply with its signal
pub data Entry : Type 0 where
  Empty : Entry
  Gather : (number : ℕ) → (bytes : List ℕ) → (next : ℕ) → Entry
  Filling : (number : ℕ) → (bytes : List ℕ) → (next : ℕ) → Entry
  Running : (number : ℕ) → Entry
  Done : (number : ℕ) → (signal : Bool) → (reply : List ℕ) → Entry
  Sending : (number : ℕ) → (signal : Bool) → (reply : List ℕ) → Entry

-- what a worker sees of an entry: its state and its number. Bytes are no part of it
pub record Word : Type 0 where
  pub phase : Phase
  pub number : ℕ

abbrev pub word_seen : Seen → Word
word_seen s = record { phase = s.phase; number = s.number.value }

abbrev pub word_of : Entry → Word
word_of Empty = record { phase = phase.Empty; number = 0 }
word_of (Gather n bytes next) = record { phase = phase.Gather; number = n }
word_of (Filling n bytes next) = record { phase = phase.Filling; number = n }
word_of (Running n) = record { phase = phase.Running; number = n }
word_of (Done n signal reply) = record { phase = phase.Done; number = n }
word_of (Sending n signal reply) = record { phase = phase.Sending; number = n }

abbrev pub is_same_phase : Phase → Phase → Bool
is_same_phase phase.Empty phase.Empty = true
is_same_phase phase.Gather phase.Gather = true
is_same_phase phase.Filling phase.Filling = true
is_same_phase phase.Running phase.Running = true
is_same_phase phase.Done phase.Done = true
is_same_phase phase.Sending phase.Sending = true
is_same_phase _ _ = false

abbrev pub is_same_word : Word → Word → Bool
is_same_word v w = is_same_phase v.phase w.phase && (v.number == w.number)

-- a Call of a number that the entry doesn't have yet
abbrev pub judged_new_call : Phase → Fields → Judged
judged_new_call phase.Running h = judged.Busy
judged_new_call phase.Filling h = judged.Busy
judged_new_call phase.Sending h = judged.Busy
judged_new_call _ h = if h.fragment == 0 then (if h.last then judged.Admit else judged.Begin) else judged.Skipped

-- a Call of the entry's own number
abbrev pub judged_same_call : Phase → Fields → Judged
judged_same_call phase.Empty h = judged_new_call phase.Empty h
judged_same_call phase.Gather h = judged.More
judged_same_call phase.Filling h = judged.Busy
judged_same_call phase.Sending h = judged.Busy
judged_same_call phase.Running h = if h.please_ack then judged.Ack else judged.Same
judged_same_call phase.Done h = if h.last then judged.Fetch else judged.Same

-- an Ack of the entry's own number
abbrev pub judged_ack : Phase → Judged
judged_ack phase.Empty = judged.Unknown
judged_ack phase.Done = judged.Fetch
judged_ack _ = judged.Busy

-- a Probe of the entry's own number
abbrev pub judged_probe : Phase → Judged
judged_probe phase.Empty = judged.Unknown
judged_probe phase.Done = judged.Fetch
judged_probe phase.Running = judged.Ack
judged_probe phase.Sending = judged.Ack
judged_probe phase.Gather = judged.Busy
judged_probe phase.Filling = judged.Busy

abbrev pub judged_kind : (is_same : Bool) → Phase → Kind → Fields → Judged
judged_kind false phase kind.Call h = judged_new_call phase h
judged_kind true phase kind.Call h = judged_same_call phase h
judged_kind true phase kind.Ack h = judged_ack phase
judged_kind true phase kind.Probe h = judged_probe phase
judged_kind _ phase _ h = judged.Unknown

-- a packet by the entry's word; only a Call, an Ack and a Probe are judged
abbrev pub judge : Word → Fields → Judged
judge w h = if nat_lt h.call.number w.number then judged.Older else judged_kind (w.number == h.call.number) w.phase h.kind h
