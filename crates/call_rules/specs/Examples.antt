-- Packets that the worked rows speak of.
use Rattle.std.specs.Prelude.{ℕ, List, [], Bool, true, false, None}
use Rattle.rpc_header.specs.declared.Export.{Export}
use Rattle.rpc_header.specs.declared.Kind.{Kind}
use Rattle.rpc_header.specs.declared.Kind.TheVariants as kind
use Rattle.call_rules.specs.Packet.{Packet}
use Rattle.call_rules.specs.Worker.{Asked}

-- a last piece without data, of call 65537 of process 1 of machine 2
abbrev pub second_call : Kind → (fragment : ℕ) → Packet
second_call kind fragment =
    record {
      from = 2;
      to = 1;
      header = record {
        kind = kind;
        please_ack = false;
        last = true;
        reason = 0;
        call = record { activity = record { machine = 2; process = 1 }; number = 65537 };
        hint = 0;
        fragment = fragment;
        export = record { identifier = 1; index = 0 };
        procedure = 0;
      };
      payload = [];
    }

-- the same as a piece before the last, with data
abbrev pub second_call_piece : (fragment : ℕ) → (payload : List ℕ) → Packet
second_call_piece fragment payload =
    let p : Packet = second_call kind.Call fragment in
    record p { header = record p.header { please_ack = true; last = false }; payload = payload }

-- what the server at machine 1 sends to that call's client
abbrev pub to_second_call : Kind → (please_ack last : Bool) → (reason fragment : ℕ) → Export → (payload : List ℕ) → Packet
to_second_call kind please_ack last reason fragment export payload =
    record {
      from = 1;
      to = 2;
      header = record {
        kind = kind;
        please_ack = please_ack;
        last = last;
        reason = reason;
        call = record { activity = record { machine = 2; process = 1 }; number = 65537 };
        hint = 0;
        fragment = fragment;
        export = export;
        procedure = 0;
      };
      payload = payload;
    }

-- the exports accept the call
abbrev pub accepted : Asked
accepted = record { named = None; refused = None }
