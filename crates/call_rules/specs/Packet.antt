-- The name of a call, and a packet: its header with plain numbers, and the data behind it.
-- A call is named by machine, process and number, after Birrell and Nelson's RPC.
use Rattle.std.specs.Prelude.{ℕ, List, Bool, ◌==◌, ◌&&◌}
use Rattle.rpc_header.specs.declared.Activity.{Activity}
use Rattle.rpc_header.specs.declared.CallId.{CallId}
use Rattle.rpc_header.specs.declared.Export.{Export}
use Rattle.rpc_header.specs.declared.Header.{Header}
use Rattle.rpc_header.specs.declared.Kind.{Kind}
use Rattle.fragments.specs.Pieces as text

pub record Call : Type 0 where
  pub activity : Activity
  pub number : ℕ

-- the fields of a header
pub record Fields : Type 0 where
  pub kind : Kind
  pub please_ack : Bool
  pub last : Bool
  pub reason : ℕ
  pub call : Call
  pub hint : ℕ
  pub fragment : ℕ
  pub export : Export
  pub procedure : ℕ

-- a packet from one machine to another
pub record Packet : Type 0 where
  pub from : ℕ
  pub to : ℕ
  pub header : Fields
  pub payload : List ℕ

abbrev pub no_export : Export
no_export = record { identifier = 0; index = 0 }

abbrev pub call_of : CallId → Call
call_of id = record { activity = id.activity; number = id.number.value }

abbrev pub fields_of : Header → Fields
fields_of h =
    record {
      kind = h.kind;
      please_ack = h.please_ack;
      last = h.last;
      reason = h.reason;
      call = call_of h.call;
      hint = h.hint;
      fragment = h.fragment;
      export = h.export;
      procedure = h.procedure;
    }

-- the most data that one packet carries, which a full piece has
abbrev pub piece_size : ℕ
piece_size = text.piece_size

abbrev pub is_same_activity : Activity → Activity → Bool
is_same_activity a b = (a.machine == b.machine) && (a.process == b.process)

abbrev pub is_same_call : Call → Call → Bool
is_same_call a b = is_same_activity a.activity b.activity && (a.number == b.number)
