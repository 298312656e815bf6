-- What the events so far have made known. It only grows: what is positive, that there is a start, a run, a packet or a
-- rejection, stays true.
use Rattle.std.specs.Prelude.{◌≡◌, ℕ, ◌+◌, List, [], ◌∷◌, ◌++◌, length, Option, Some, Contains}
use Rattle.binder.specs.declared.row.ExportRow.{ExportRow}
use Rattle.call_rules.specs.Packet.{Packet}
use Rattle.call_rules.specs.Worker.{Run, Adds, Nothing, ARun, APacket, ARejection}
use Rattle.replay_model.specs.Record.{Start, Rejection}
use Rattle.replay_model.specs.World.{World, packet_at}

pub record Known : Type 0 where
  pub started : List Start
  pub journal : List Run
  pub bag : List Packet
  pub rejects : List Rejection

abbrev pub known : World → Known
known w = record { started = w.records.started; journal = w.records.journal; bag = w.bag; rejects = w.records.rejects }

-- b has all that a has; a packet keeps its number
pub record Grows (a b : Known) : Type 0 where
  pub started : (s : Start) → Contains a.started s → Contains b.started s
  pub journal : (r : Run) → Contains a.journal r → Contains b.journal r
  pub rejects : (r : Rejection) → Contains a.rejects r → Contains b.rejects r
  pub bag : (n : ℕ) (p : Packet) → packet_at a.bag n ≡ Some p → packet_at b.bag n ≡ Some p

abbrev pub with_start : Known → Start → Known
with_start k s = record k { started = k.started ++ s ∷ [] }

-- with one more packet, which has the next number
abbrev pub with_sent : Known → Packet → Known
with_sent k p = record k { bag = k.bag ++ p ∷ [] }

abbrev pub next_packet : Known → ℕ
next_packet k = length k.bag + 1

-- with what a worker's step adds, by the export rows at that step
abbrev pub with_adds : Known → List (Option ExportRow) → Adds → Known
with_adds k rows Nothing = k
with_adds k rows (ARun r) = record k { journal = k.journal ++ r ∷ [] }
with_adds k rows (APacket p) = with_sent k p
with_adds k rows (ARejection p) = record (with_sent k p) { rejects = k.rejects ++ record { packet = next_packet k; rows = rows } ∷ [] }
