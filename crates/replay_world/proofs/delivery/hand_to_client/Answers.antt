use Rattle.std.proofs.Common.{◌≡◌, ℕ, ◌-◌, ◌≤◌, ◌<◌, List, Some, length, set, ap, sym, subst, ◌∙◌, arith, Option, None, refl}
use Rattle.call_rules.specs.Packet.{Packet}
use Rattle.replay_model.specs.World.{Client, World}
use Rattle.replay_model.specs.Step.{Outcome, client_takes, discarded, with_client}
use Rattle.replay_model.specs.declared.discard.Discard.TheVariants as why
use Rattle.replay_packets.specs.Packet.{packet_of}
use Rattle.replay_client.specs.declared.line.Took.{Took}
use Rattle.replay_client.specs.Client.{TookAs, KeepsDropped, HearsAs}
use Rattle.replay_world.specs.Stands.{IsClient}
use Rattle.replay_world.proofs.Numbered.{numbered-low, numbered-none}
use Rattle.replay_world.proofs.Standing.{client_of, clients_with, clients_same}
use Rattle.replay_world.proofs.Zips.{zip-length}
use Rattle.replay_world.proofs.delivery.hand_to_client.Goals as goal

client_takes-nobody : (w : World) (k : ℕ) (p : Packet) (o : Option Client) → o ≡ None → client_takes w k p o ≡ discarded w why.NoCell
unfolding client_takes
client_takes-nobody w k p o h = ap (client_takes w k p) h

-- a packet has come to a client
record Heard (w : World) (k : ℕ) (p : Packet) (c now : Client) (took : Took) : Type 0 where
  pub client : Client
  pub is_client : IsClient now client
  pub outcome : TookAs w k p client took (client_takes w k p (Some c))
  pub dropped : KeepsDropped took c client

heard_in : (w : World) (k : ℕ) (p : Packet) (c old now : Client) (took : Took) → IsClient old c
    → ((v : World) (n : ℕ) → TookAs v n p now took (client_takes v n p (Some old))) → KeepsDropped took old now → Heard w k p c now took
heard_in w k p c old now took is told dropped =
    let P : Client → Type 0 = λ x. TookAs w k p now took (client_takes w k p (Some x)) in
    let Q : Client → Type 0 = λ x. KeepsDropped took x now in
    record { client = now; is_client = refl; outcome = subst P is (told w k); dropped = subst Q is dropped }

pub returns-then-machine-lt-FIRST_CLIENT : goal.returns-then-machine-lt-FIRST_CLIENT
returns-then-machine-lt-FIRST_CLIENT c w k are =
    let low : c.args.packet.now.to.machine < 2 = omega arith in
    record {
      clients = w.clients;
      are_clients = are;
      taken = client_takes-nobody w k (packet_of c.args.packet.now) _ (numbered-low 2 w.clients c.args.packet.now.to.machine low);
    }

pub returns-then-place-len : goal.returns-then-place-len
returns-then-place-len c w k are =
    let same = zip-length IsClient c.args.clients.now.items w.clients are in
    let past : length w.clients ≤ c.args.packet.now.to.machine - 2 = omega (arith, c.args.clients.now.ok.0) in
    record {
      clients = w.clients;
      are_clients = are;
      taken = client_takes-nobody w k (packet_of c.args.packet.now) _ (numbered-none 2 w.clients c.args.packet.now.to.machine (omega arith) past);
    }

pub returns-in-Dropped : goal.returns-in-Dropped
returns-in-Dropped c w k are =
    let p : Packet = packet_of c.args.packet.now in
    let items : List Client = c.args.clients.now.items in
    let place : ℕ = c.from-place.result in
    let now : Client = c.take.new.self in
    let found = client_of items w.clients c.args.packet.now.to.machine place c.index_mut-client.result.now are (omega arith) c.from-place.ensures (omega (arith, c.args.clients.now.ok.0)) c.index_mut-client.ensures.value in
    let heard = heard_in w k p found.client c.index_mut-client.result.now now c.in_ok-why.field-0 found.is_client c.in_ok-why.ensures.outcome c.in_ok-why.ensures.dropped in
    let o : Outcome = client_takes w k p (Some found.client) in
    let did : o ≡ discarded w c.in-Dropped.why = subst (λ (t : Took). TookAs w k p heard.client t o) c.in-Dropped.is heard.outcome in
    let same : heard.client ≡ found.client = subst (λ (t : Took). KeepsDropped t found.client heard.client) c.in-Dropped.is heard.dropped in
    record {
      clients = w.clients;
      are_clients = clients_same items w.clients place now found.client heard.client are heard.is_client same found.at_place;
      taken = ap (client_takes w k p) found.there ∙ did;
    }

pub returns-in-Hears : goal.returns-in-Hears
returns-in-Hears c w k are =
    let p : Packet = packet_of c.args.packet.now in
    let m : ℕ = c.args.packet.now.to.machine in
    let items : List Client = c.args.clients.now.items in
    let place : ℕ = c.from-place.result in
    let now : Client = c.take.new.self in
    let found = client_of items w.clients m place c.index_mut-client.result.now are (omega arith) c.from-place.ensures (omega (arith, c.args.clients.now.ok.0)) c.index_mut-client.ensures.value in
    let heard = heard_in w k p found.client c.index_mut-client.result.now now c.in_ok-why.field-0 found.is_client c.in_ok-why.ensures.outcome c.in_ok-why.ensures.dropped in
    let o : Outcome = client_takes w k p (Some found.client) in
    let did : HearsAs (with_client w m heard.client) k c.in-Hears.told o = subst (λ (t : Took). TookAs w k p heard.client t o) c.in-Hears.is heard.outcome in
    record {
      clients = set w.clients (m - 2) heard.client;
      are_clients = clients_with items w.clients m place now heard.client are heard.is_client c.from-place.ensures;
      taken = subst (HearsAs (with_client w m heard.client) k c.in-Hears.told) (sym (ap (client_takes w k p) found.there)) did;
    }

pub take-requires : goal.take-requires
take-requires c = c.requires
