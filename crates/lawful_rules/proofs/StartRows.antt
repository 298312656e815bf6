-- The starts of a call and of a bind are lawful acts.
use Rattle.std.proofs.Common.{ℕ, ◌<◌, ◌≤◌, ◌^◌, List, length, refl, arith}
use Rattle.std.specs.Prelude.{Contains, not, ◌==◌}
use Rattle.std.proofs.lemmas.List.Elements.{Contains-push}
use Rattle.fragments.specs.Pieces.{piece}
use Rattle.call_rules.specs.Packet.{piece_size}
use Rattle.call_rules.specs.Caller.{first_sending, on_start_call, on_start_bind}
use Rattle.replay_model.specs.Process.{Line, packet_from, takes_number, started, binds}
use Rattle.replay_model.specs.Record.{Start}
use Rattle.replay_model.specs.Step.{next_call}
use Rattle.replay_model.specs.World.{number_limit}
use Rattle.lawful_rules.specs.Known.{Known, with_start}
use Rattle.lawful_rules.specs.Facts.{HasLength, HasRoom, IsLine}
use Rattle.lawful_rules.specs.Lawful.{ByStart, ByBind, LawfulAct}
use Rattle.lawful_rules.proofs.Pieces.{PieceLaws}
use Rattle.lawful_rules.proofs.Sending.{piece_request, bind_request}
use Rattle.lawful_rules.proofs.CallerRows.{one_alike}

-- A start.

-- the process with its call started
abbrev started_line : Line → (procedure : ℕ) → (arguments : List ℕ) → Line
started_line l procedure arguments =
    record (takes_number l arguments) { caller = (on_start_call l.caller l.next l.binding procedure (length arguments)).caller }

pub start_lawful : PieceLaws → (k : Known) (m process second : ℕ) (l : Line) (procedure : ℕ) (arguments before : List ℕ) → IsLine k m process l → l.next < number_limit second → second < 2 ^ 32 → procedure < 256 ^ 2 → HasLength arguments → LawfulAct k l (ByStart (record { call = next_call l; export = l.binding; procedure = procedure; arguments = arguments })) before (started m l procedure arguments)
unfolding started
start_lawful laws k m process second l procedure arguments before h low early fits has =
    record {
      same_activity = refl;
      has_room = room;
      is_open = (record { was_started = is_listed; final_is = refl }, omega arith, refl);
      next = (refl, refl, refl);
      kept_open = λ o. tt;
      marked = one_alike k.bag after.caller (first_sending after.caller 0) (packet_from m (first_sending after.caller 0) (piece arguments 0)) refl refl refl;
      saying = record { request = piece_request laws (with_start k s) (not (0 == after.caller.final)) 0 (record { own_activity = h.own_activity; has_entry = h.has_entry; has_room = room }) (record { was_started = is_listed; final_is = refl }) (omega arith); own = refl };
    }
  where
    s : Start
    s = record { call = next_call l; export = l.binding; procedure = procedure; arguments = arguments }

    after : Line
    after = started_line l procedure arguments

    is_listed : Contains (with_start k s).started s
    is_listed = Contains-push k.started s

    room : HasRoom (started_line l procedure arguments)
    room =
        record {
          hint = h.has_room.hint;
          number = omega (arith, low, early);
          identifier = h.has_room.bound_identifier;
          index = h.has_room.bound_index;
          procedure = fits;
          bound_identifier = h.has_room.bound_identifier;
          bound_index = h.has_room.bound_index;
          arguments = has;
        }

-- A start of a bind.

pub bind_lawful : PieceLaws → (k : Known) (m process second : ℕ) (l : Line) (bytes before : List ℕ) → IsLine k m process l → l.next < number_limit second → second < 2 ^ 32 → HasLength bytes → length bytes ≤ piece_size → LawfulAct k l (ByBind (next_call l)) before (binds m l bytes)
unfolding binds
bind_lawful laws k m process second l bytes before h low early has short =
    record {
      same_activity = refl;
      has_room = room;
      is_open = short;
      next = (refl, refl, refl);
      kept_open = λ o. tt;
      marked = tt;
      saying = record { request = bind_request laws k (record { own_activity = h.own_activity; has_entry = h.has_entry; has_room = room }); own = refl };
    }
  where
    room : HasRoom (record (takes_number l bytes) { caller = (on_start_bind l.caller l.next).caller })
    room =
        record {
          hint = h.has_room.hint;
          number = omega (arith, low, early);
          identifier = h.has_room.identifier;
          index = h.has_room.index;
          procedure = h.has_room.procedure;
          bound_identifier = h.has_room.bound_identifier;
          bound_index = h.has_room.bound_index;
          arguments = has;
        }
