-- The player's world stands for a world of the model.
use Rattle.std.specs.Prelude.{◌≡◌, ◌≤◌, List, map, drop, length}
use Rattle.std.specs.List.{AllZip}
use Rattle.replay_model.specs.Record.{counts_of}
use Rattle.replay_model.specs.World.{World, Server, Client}
use Rattle.replay_model.specs.Digests.{run_digest}
use Rattle.replay_packets.specs.Sent.{sent_of}
use Rattle.replay_world.specs.Stored.{Stored}

-- what the player has of the server, and of a client, is all of it
abbrev pub IsServer : (stored s : Server) → Type 0
IsServer stored s = stored ≡ s

abbrev pub IsClient : (stored c : Client) → Type 0
IsClient stored c = stored ≡ c

abbrev pub AreClients : (stored clients : List Client) → Type 0
AreClients stored clients = AllZip IsClient stored clients

-- each part stands for its own; of the bag, the packets that aren't forgotten, and of the records, the runs by their
-- digests and the counts
pub record Stands (stored : Stored) (w : World) : Type 0 where
  pub second : stored.second ≡ w.second
  pub server : IsServer stored.server w.server
  pub clients : AreClients stored.clients w.clients
  pub bag : stored.bag ≡ drop stored.forgotten (map sent_of w.bag)
  pub few : stored.forgotten ≤ length w.bag
  pub runs : stored.runs ≡ map run_digest w.records.journal
  pub counts : stored.counts ≡ counts_of w.records
  pub started : stored.started ≡ length w.records.started
