-- Packets and worlds that the worked rows speak of.
use Rattle.std.specs.Prelude.{ℕ, [], ◌∷◌, replicate, true, false}
use Rattle.rpc_header.specs.declared.Kind.{Kind}
use Rattle.rpc_header.specs.declared.Kind.TheVariants as kind
use Rattle.call_rules.specs.Packet.{Packet}
use Rattle.replay_model.specs.declared.event.CallWord.TheVariants as word
use Rattle.replay_model.specs.declared.event.Event.TheVariants as event
use Rattle.replay_model.specs.World.{World, first_world}
use Rattle.replay_model.specs.Step.{run}

-- a packet of one piece without data, of the first call of process 1 of a machine
abbrev pub packet_from : (from to : ℕ) → Kind → (caller : ℕ) → Packet
packet_from from to kind caller =
    record {
      from = from;
      to = to;
      header = record {
        kind = kind;
        please_ack = false;
        last = true;
        reason = 0;
        call = record { activity = record { machine = caller; process = 1 }; number = 65536 };
        hint = 0;
        fragment = 0;
        export = record { identifier = 1; index = 0 };
        procedure = 0;
      };
      payload = [];
    }

abbrev pub with_hint : ℕ → Packet → Packet
with_hint hint p = record p { header = record p.header { hint = hint } }

abbrev pub with_fragment : ℕ → Packet → Packet
with_fragment fragment p = record p { header = record p.header { fragment = fragment } }

-- process 1 of machine 2 has called, and waits
abbrev pub waiting_world : World
waiting_world = run (first_world 256 72) (event.Call 2 1 word.Null ∷ [])

-- so many packets are ready at the server
abbrev pub ready_world : ℕ → World
ready_world n =
    let w : World = first_world 256 72 in
    record w { server = record w.server { ready = replicate n (packet_from 2 1 kind.Call 2) } }
