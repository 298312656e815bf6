-- What becomes of the bytes of a frame that come to a machine, as outcomes of the model.
use Rattle.std.specs.Prelude.{◌≡◌, ℕ, List, [], ◌∷◌}
use Rattle.replay_model.specs.Record.{Readies}
use Rattle.replay_model.specs.World.{World, Server, Client}
use Rattle.replay_model.specs.Step.{Outcome, discarded}
use Rattle.replay_client.specs.Client.{HearsAs}
use Rattle.replay_world.specs.declared.delivery.Taken.{Taken}
use Rattle.replay_world.specs.declared.delivery.Taken.TheVariants as taken
use Rattle.replay_world.specs.Stands.{IsServer, AreClients}

-- the outcome that stands for what became of packet k; w is the world after it
abbrev pub TakenAs : World → (number : ℕ) → Taken → Outcome → Type 0
TakenAs w k taken.Readied o = o ≡ record { world = w; acts = Readies k ∷ [] }
TakenAs w k (taken.Dropped why) o = o ≡ discarded w why
TakenAs w k (taken.Hears told) o = HearsAs w k told o

-- the same where a machine has become what it is now, over the world before
pub record HandsToServer (now : Server) (t : Taken) (w : World) (number : ℕ) (o : Outcome) : Type 0 where
  pub server : Server
  pub is_server : IsServer now server
  pub taken : TakenAs (record w { server = server }) number t o

pub record HandsToClient (now : List Client) (t : Taken) (w : World) (number : ℕ) (o : Outcome) : Type 0 where
  pub clients : List Client
  pub are_clients : AreClients now clients
  pub taken : TakenAs (record w { clients = clients }) number t o

pub record HandsOver (server_now : Server) (clients_now : List Client) (t : Taken) (w : World) (number : ℕ) (o : Outcome) : Type 0 where
  pub server : Server
  pub clients : List Client
  pub is_server : IsServer server_now server
  pub are_clients : AreClients clients_now clients
  pub taken : TakenAs (record w { server = server; clients = clients }) number t o
