-- What the player's world stores: its machines, the frames of the last packets that were sent, and of the records
-- digests of the runs and the counts.
use Rattle.std.specs.Prelude.{◌≡◌, ℕ, ◌+◌, ◌<◌, ◌≤◌, List, length}
use Rattle.replay_model.specs.Record.{Counts}
use Rattle.replay_model.specs.World.{Server, Client}
use Rattle.replay_model.specs.Digests.{RunDigest}
use Rattle.replay_packets.specs.Sent.{SentFrame}

pub record Stored : Type 0 where
  pub second : ℕ
  pub server : Server
  pub clients : List Client
  -- how many of the first packets are forgotten; the bag has the others
  pub forgotten : ℕ
  pub bag : List SentFrame
  pub runs : List RunDigest
  pub counts : Counts
  -- the calls that were started, and those that were open at their client's restart
  pub started : ℕ
  pub lost : ℕ

-- the number of packets that were sent
abbrev pub packets_of : Stored → ℕ
packets_of s = s.forgotten + length s.bag

-- the number of packets and each of the counts is below n
abbrev pub AllBelow : (n : ℕ) → Stored → Type 0
AllBelow n s =
    (packets_of s < n) × (s.counts.runs < n) × (s.counts.returned < n) × (s.counts.signalled < n) × (s.counts.failed < n)
    × (s.counts.refused < n) × (s.started < n) × (s.lost < n)

-- each of the counts has risen by at most n
abbrev pub CountsRose : (n : ℕ) → Counts → Counts → Type 0
CountsRose n old new =
    (new.runs ≤ old.runs + n) × (new.returned ≤ old.returned + n) × (new.signalled ≤ old.signalled + n)
    × (new.failed ≤ old.failed + n) × (new.refused ≤ old.refused + n)

-- the number of packets and each of the counts has risen by at most n
abbrev pub RoseByAtMost : (n : ℕ) → Stored → Stored → Type 0
RoseByAtMost n old new =
    (packets_of new ≤ packets_of old + n) × CountsRose n old.counts new.counts × (new.started ≤ old.started + n)
    × (new.lost ≤ old.lost + n)

-- no packet is forgotten, and no call is lost
abbrev pub Keeps : Stored → Stored → Type 0
Keeps old new = (new.forgotten ≡ old.forgotten) × (new.lost ≡ old.lost)
