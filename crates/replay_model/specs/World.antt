-- The world: a second, a server, its clients, every packet that was sent, and the records.
use Rattle.std.specs.Prelude.{ℕ, ◌+◌, ◌-◌, ◌*◌, List, [], map, replicate, Option, None, slice_get, slice_set, Bool, true, ◌&&◌, nat_lt, nat_le, if◌then◌else◌, option_and_then, codes}
use Rattle.std.specs.List.{range_with_len}
use Rattle.rpc_header.specs.declared.Activity.{Activity}
use Rattle.rpc_header.specs.declared.Export.{Export}
use Rattle.binder.specs.Exports.{Exports, booted, exported}
use Rattle.binder.specs.declared.interface.InterfaceName.{InterfaceName}
use Rattle.call_rules.specs.Packet.{Packet}
use Rattle.call_rules.specs.Entry.{Entry, Empty}
use Rattle.call_rules.specs.Worker.{Worker, Resting}
use Rattle.call_rules.specs.Caller.{idle}
use Rattle.replay_model.specs.declared.limits.TheConstants.{FIRST_CLIENT, LAST_CLIENT, CLIENTS, LAST_PROCESS, LAST_WORKER, SERVICE_PROCEDURES}
use Rattle.replay_model.specs.Process.{Line}
use Rattle.replay_model.specs.Record.{Records, no_records}

-- boot is the second in which it booted, and read the last second that it has read. The exports; the entries of
-- the activities; four workers; the packets that are ready, oldest first; the total of the test service.
-- small and long are its numbers of buffers
pub record Server : Type 0 where
  pub small : ℕ
  pub long : ℕ
  pub boot : ℕ
  pub read : ℕ
  pub exports : Exports
  pub entries : List Entry
  pub workers : List Worker
  pub ready : List Packet
  pub total : ℕ

pub record Client : Type 0 where
  pub boot : ℕ
  pub read : ℕ
  pub lines : List Line

pub record World : Type 0 where
  pub second : ℕ
  pub server : Server
  pub clients : List Client
  -- each packet that was sent; the first has number 1
  pub bag : List Packet
  pub records : Records

-- the item of this number, in a list whose first item has the number from
abbrev pub numbered : {A : Type 0} → ℕ → List A → ℕ → Option A
numbered from xs n = if nat_lt n from then None else slice_get xs (n - from)

abbrev pub with_numbered : {A : Type 0} → ℕ → List A → ℕ → A → List A
with_numbered from xs n x = slice_set xs (n - from) x

abbrev pub packet_at : List Packet → ℕ → Option Packet
packet_at bag k = numbered 1 bag k

-- the process of a machine
abbrev pub line_at : List Client → (machine process : ℕ) → Option Line
line_at clients machine process = option_and_then (λ (c : Client). numbered 1 c.lines process) (numbered FIRST_CLIENT clients machine)

-- there is one entry for each process of each client
abbrev pub is_entry_activity : Activity → Bool
is_entry_activity a =
    nat_le FIRST_CLIENT a.machine && nat_le a.machine LAST_CLIENT && nat_le 1 a.process && nat_le a.process LAST_PROCESS

abbrev pub entry_place : Activity → ℕ
entry_place a = LAST_PROCESS * (a.machine - FIRST_CLIENT) + (a.process - 1)

abbrev pub entry_at : List Entry → Activity → Option Entry
entry_at entries a = if is_entry_activity a then slice_get entries (entry_place a) else None

abbrev pub with_entry : List Entry → Activity → Entry → List Entry
with_entry entries a e = if is_entry_activity a then slice_set entries (entry_place a) e else entries

-- a machine's first call number, by the second in which it booted
abbrev pub first_number : ℕ → ℕ
first_number boot = boot * 65536

-- the least number that a call may not have yet, by the second
abbrev pub number_limit : ℕ → ℕ
number_limit second = (second + 1) * 65536

-- the binding that a client boots with
abbrev pub first_binding : Export
first_binding = record { identifier = 1; index = 0 }

-- the names of a script are instances of one type
abbrev pub test_name : List ℕ → InterfaceName
test_name instance = record { kind = codes "Test"; instance = instance }

-- the export that a server boots with
abbrev pub main_name : InterfaceName
main_name = test_name (codes "main")

abbrev pub booted_server : (small long boot : ℕ) → Server
booted_server small long boot =
    record {
      small = small;
      long = long;
      boot = boot;
      read = boot;
      exports = exported (booted boot) main_name SERVICE_PROCEDURES;
      entries = replicate (CLIENTS * LAST_PROCESS) Empty;
      workers = replicate LAST_WORKER Resting;
      ready = [];
      total = 0;
    }

-- process p has the cell p - 1
abbrev pub booted_line : (boot machine process : ℕ) → Line
booted_line boot machine process =
    record {
      caller = idle (record { machine = machine; process = process }) (process - 1);
      next = first_number boot;
      binding = first_binding;
      arguments = [];
      kept = [];
    }

abbrev pub booted_client : (boot machine : ℕ) → Client
booted_client boot machine =
    record {
      boot = boot;
      read = boot;
      lines = map (booted_line boot machine) (range_with_len 1 LAST_PROCESS);
    }

-- until boards come, the pool has a buffer for whoever asks
abbrev pub has_buffer : Bool
has_buffer = true

-- the world begins at second 1, in which all its machines boot
abbrev pub first_world : (small long : ℕ) → World
first_world small long =
    record {
      second = 1;
      server = booted_server small long 1;
      clients = map (booted_client 1) (range_with_len FIRST_CLIENT CLIENTS);
      bag = [];
      records = no_records;
    }
