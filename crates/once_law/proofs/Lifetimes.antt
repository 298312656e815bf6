-- The invariant is kept where a second passes, where the server's exports change, and where a machine boots anew: at a
-- second that it hasn't read.
use Rattle.std.proofs.Common.{◌≡◌, ◌≢◌, ℕ, ◌+◌, ◌^◌, ◌<◌, ◌≤◌, List, replicate, Option, Some, None, eqb, ltb, refl, ap, sym, ◌∙◌, subst, arith}
use Rattle.std.specs.Prelude.{Contains}
use Rattle.std.proofs.lemmas.Bool.{true≢false, ltb-true, eqb-false}
use Rattle.std.proofs.lemmas.Option.{none-some}
use Rattle.std.proofs.lemmas.List.{length-replicate}
use Rattle.rpc_header.specs.declared.Export.{Export}
use Rattle.binder.specs.declared.row.ExportFault.{ExportFault}
use Rattle.binder.specs.declared.interface.InterfaceName.{InterfaceName}
use Rattle.binder.specs.Exports.{Exports, export_fault, exported, look_up, withdrawn}
use Rattle.binder.specs.Sound.{AreSound}
use Rattle.call_rules.specs.Packet.{Packet}
use Rattle.call_rules.specs.Entry.{Entry, Empty}
use Rattle.call_rules.specs.Worker.{Worker, Resting, Claimed, Took, Admitted, Ran, Fetched}
use Rattle.replay_model.specs.declared.limits.TheConstants.{SERVER_MACHINE, SERVICE_PROCEDURES}
use Rattle.replay_model.specs.Process.{Line}
use Rattle.replay_model.specs.Record.{Start}
use Rattle.replay_model.specs.Step.{settled, second_event, exports_unless, export_event, withdraws_if, withdraw_event, boots_server, boots_client, restart_event}
use Rattle.replay_model.specs.World.{World, Client, numbered, entry_place, number_limit, test_name, booted_client}
use Rattle.lawful_rules.specs.Known.{Known, known}
use Rattle.lawful_rules.specs.Facts.{Life, IsCarrier, IsEntry, IsLine, IsWorkerAt, carrier}
use Rattle.once_law.proofs.Places.{numbered_set, entry_at_read, lines_set_client}
use Rattle.once_law.proofs.Parts.{life, owned, HasNoReturn, Holds}
use Rattle.once_law.proofs.Laws.{Laws}
use Rattle.once_law.proofs.Exporting.{boots_sound, exports_sound}
use Rattle.once_law.proofs.Booting.{booted_is_line, booted_marked, booted_client_lines, first_worker, none_in_empty, replicate_read}
use Rattle.once_law.proofs.Calls.{either}

-- The world's second.

pub Holds-second : (w : World) (second : ℕ) → second < 2 ^ 32 → Holds w → Holds (settled w (second_event w second))
Holds-second w second fits h =
    either w (ltb w.second second) _ _
    (λ later.
    let after : w.second < second = ltb-true w.second second later in
    record {
      names = h.names;
      reads = record { read_first = λ m c e. let first : c.read ≤ w.second = h.reads.read_first m c e in omega (arith, first, after); below_read = h.reads.below_read };
      lives = record {
        boot_first = h.lives.boot_first;
        read_first = omega (arith, h.lives.read_first, after);
        second_fits = fits;
        sound = h.lives.sound;
        next_read = h.lives.next_read;
        runs_read = h.lives.runs_read;
      };
      lines = h.lines;
      unreturned = h.unreturned;
      marks = h.marks;
      sent = h.sent;
      ready = h.ready;
      workers = h.workers;
      entries = h.entries;
      told = h.told;
    })
    (λ not_later. h)

-- The server reads a second.

carrier_reads : {k : Known} {f : Life} {p : Packet} (read : ℕ) → f.read ≤ read → IsCarrier k f p → IsCarrier k (record { boot = f.boot; read = read }) p
carrier_reads read later h =
    record { request = h.request; no_bind = h.no_bind; after_boot = h.after_boot; up_to_read = omega (arith, h.up_to_read, later) }

worker_reads : (k : Known) (f : Life) (read : ℕ) → f.read ≤ read → (v : Worker) (e : Entry) → IsWorkerAt k f v e → IsWorkerAt k (record { boot = f.boot; read = read }) v e
worker_reads k f read later Resting e h = tt
worker_reads k f read later (Claimed p seen) e h = carrier_reads read later h
worker_reads k f read later (Took p) e h = (carrier_reads read later h.0, h.1, h.2)
worker_reads k f read later (Admitted p arguments) e h = (carrier_reads read later h.0, h.1, h.2, h.3)
worker_reads k f read later (Ran p answer) e h = (carrier_reads read later h.0, h.1, h.2)
worker_reads k f read later (Fetched p) e h = (carrier_reads read later h.0, h.1)

-- the server has read the world's second, and its exports are these now
reads_second : (w : World) (exports : Exports) → Holds w → AreSound w.server.boot exports → exports.next ≤ w.second + 1 → Holds (record w { server = record w.server { read = w.second; exports = exports } })
reads_second w exports h sound next =
    record {
      names = h.names;
      reads = h.reads;
      lives = record {
        boot_first = omega (arith, h.lives.boot_first, h.lives.read_first);
        read_first = omega arith;
        second_fits = h.lives.second_fits;
        sound = sound;
        next_read = next;
        runs_read = λ r c s cs same. let old : s.export.identifier ≤ w.server.read = h.lives.runs_read r c s cs same in omega (arith, old, h.lives.read_first);
      };
      lines = h.lines;
      unreturned = h.unreturned;
      marks = h.marks;
      sent = h.sent;
      ready = h.ready;
      workers = record {
        works = λ i v g.
            let x = h.workers.works i v g in
            record { has_entry = x.has_entry; at_entry = λ p c e ee. worker_reads (known w) (life w) w.second h.lives.read_first v e (x.at_entry p c e ee) };
        apart = h.workers.apart;
      };
      entries = record { count = h.entries.count; each = h.entries.each; remembered = h.entries.remembered };
      told = h.told;
    }

-- Exports.

Holds-exports_unless : Laws → (w : World) (name : InterfaceName) (o : Option ExportFault) → export_fault w.server.exports name w.second ≡ o → Holds w → Holds (settled w (exports_unless o w name))
Holds-exports_unless laws w name (Some fault) e h =
    reads_second w w.server.exports h h.lives.sound (omega (arith, h.lives.next_read, h.lives.read_first))
Holds-exports_unless laws w name None e h =
    let s = exports_sound laws.exports w.server.boot w.server.exports name SERVICE_PROCEDURES w.second h.lives.sound e in
    reads_second w (exported w.server.exports name SERVICE_PROCEDURES) h s.0 s.1

pub Holds-export : Laws → (w : World) (name : List ℕ) → Holds w → Holds (settled w (export_event w name))
unfolding export_event
Holds-export laws w name h = Holds-exports_unless laws w (test_name name) (export_fault w.server.exports (test_name name) w.second) refl h

next_kept : (exports : Exports) (name : InterfaceName) → (withdrawn exports name).next ≡ exports.next
unfolding withdrawn
next_kept exports name = refl

Holds-withdraws_if : Laws → (w : World) (name : InterfaceName) (o : Option Export) → Holds w → Holds (settled w (withdraws_if o w name))
Holds-withdraws_if laws w name None h = h
Holds-withdraws_if laws w name (Some export) h =
    record {
      names = h.names;
      reads = h.reads;
      lives = record {
        boot_first = h.lives.boot_first;
        read_first = h.lives.read_first;
        second_fits = h.lives.second_fits;
        sound = laws.exports.withdraws w.server.boot w.server.exports name h.lives.sound;
        next_read = omega (arith, next_kept w.server.exports name, h.lives.next_read);
        runs_read = h.lives.runs_read;
      };
      lines = h.lines;
      unreturned = h.unreturned;
      marks = h.marks;
      sent = h.sent;
      ready = h.ready;
      workers = h.workers;
      entries = h.entries;
      told = h.told;
    }

pub Holds-withdraw : Laws → (w : World) (name : List ℕ) → Holds w → Holds (settled w (withdraw_event w name))
unfolding withdraw_event
Holds-withdraw laws w name h = Holds-withdraws_if laws w (test_name name) (look_up w.server.exports.rows (test_name name)) h

-- Restarts.

-- each run is of an earlier life
Holds-boots_server : Laws → (w : World) → Holds w → Holds (settled w (boots_server w))
Holds-boots_server laws w h =
    either w (ltb w.server.read w.second) _ _
    (λ later.
    let after : w.server.read < w.second = ltb-true w.server.read w.second later in
    record {
      names = h.names;
      reads = h.reads;
      lives = record {
        boot_first = omega arith;
        read_first = omega arith;
        second_fits = h.lives.second_fits;
        sound = (boots_sound laws.exports w.second).0;
        next_read = (boots_sound laws.exports w.second).1;
        runs_read = λ r c s cs same. let old : s.export.identifier ≤ w.server.read = h.lives.runs_read r c s cs same in omega (arith, old, after);
      };
      lines = h.lines;
      unreturned = h.unreturned;
      marks = h.marks;
      sent = h.sent;
      ready = λ p c. absurd (none_in_empty p c);
      workers = record {
        works = λ i v g. record {
          has_entry = λ p c. absurd (none-some p (sym (ap carrier (first_worker i v g)) ∙ c));
          at_entry = λ p c. absurd (none-some p (sym (ap carrier (first_worker i v g)) ∙ c));
        };
        apart = λ i j v u gv gu ne p hp. absurd (none-some p (sym (ap owned (first_worker i v gv)) ∙ hp));
      };
      entries = record {
        count = length-replicate 64 Empty;
        each = λ a e g. subst (IsEntry (known w) a) (sym (replicate_read 64 Empty (entry_place a) e (entry_at_read (replicate 64 Empty) a e g).1)) tt;
        remembered = λ a e g r c same s cs started boot.
            let old : s.export.identifier ≤ w.server.read = h.lives.runs_read r c s cs started in
            absurd (omega (arith, old, after, boot));
      };
      told = h.told;
    })
    (λ not_later. h)

-- the processes of a client that boots have numbers that none of their calls had
Holds-boots_client : (w : World) (m : ℕ) (o : Option Client) → 2 ≤ m → m ≤ 9 → Holds w → numbered 2 w.clients m ≡ o → Holds (settled w (boots_client w m o))
Holds-boots_client w m None low high h e = h
Holds-boots_client w m (Some c) low high h e =
    let new : Client = booted_client w.second m in
    either w (ltb c.read w.second) _ _
    (λ later.
    let after : c.read < w.second = ltb-true c.read w.second later in
    record {
      names = record {
        below_next = lines_set_client (λ n p l. (s : Start) → Contains w.records.started s → s.call.activity ≡ l.caller.activity → s.call.number < l.next) w.clients m new low
            (λ n p l g ne. h.names.below_next n p l g)
            (λ p l g. subst (λ (x : Line). (s : Start) → Contains w.records.started s → s.call.activity ≡ x.caller.activity → s.call.number < x.next) (booted_client_lines w.second m low high p l g).is
            (λ s cs same.
            let below : s.call.number < number_limit c.read = h.reads.below_read m c e s cs (ap (λ a. a.machine) same) in
            omega (arith, below, after)));
        one_start = h.names.one_start;
      };
      reads = record {
        read_first = numbered_set (λ n (d : Client). d.read ≤ w.second) 2 w.clients m new low (λ n d g ne. h.reads.read_first n d g) (omega arith);
        below_read = numbered_set (λ n (d : Client). (s : Start) → Contains w.records.started s → s.call.activity.machine ≡ n → s.call.number < number_limit d.read) 2 w.clients m new low
            (λ n d g ne. h.reads.below_read n d g)
            (λ s cs same. let below : s.call.number < number_limit c.read = h.reads.below_read m c e s cs same in omega (arith, below, after));
      };
      lives = h.lives;
      lines = lines_set_client (IsLine (known w)) w.clients m new low (λ n p l g ne. h.lines n p l g)
          (λ p l g. booted_is_line (known w) w.second m p l (booted_client_lines w.second m low high p l g));
      unreturned = lines_set_client _ w.clients m new low (λ n p l g ne. h.unreturned n p l g)
          (λ p l g. subst (λ (x : Line). HasNoReturn w.records.returns x) (booted_client_lines w.second m low high p l g).is (λ busy. absurd (true≢false busy)));
      marks = lines_set_client _ w.clients m new low (λ n p l g ne. h.marks n p l g)
          (λ p l g. booted_marked w.bag w.records.marks w.second m p l (booted_client_lines w.second m low high p l g));
      sent = h.sent;
      ready = h.ready;
      workers = h.workers;
      entries = h.entries;
      told = h.told;
    })
    (λ not_later. h)

pub Holds-restart : Laws → (w : World) (m : ℕ) → 1 ≤ m → m ≤ 9 → Holds w → Holds (settled w (restart_event w m))
unfolding restart_event
Holds-restart laws w m low high h =
    either w (eqb m SERVER_MACHINE) _ _ (λ server. Holds-boots_server laws w h)
    (λ client.
    let other : m ≢ 1 = eqb-false m 1 client in
    Holds-boots_client w m (numbered 2 w.clients m) (omega (arith, low, other)) high h refl)
