-- The step of each event: the world after it, and what happens in it. An impossible event leaves the world as it is.
use Rattle.std.specs.Prelude.{ℕ, zero, suc, ◌+◌, ◌-◌, ◌*◌, ◌^◌, List, [], ◌∷◌, ◌++◌, length, Option, Some, None, unwrap_or, Bool, ◌==◌, nat_lt, nat_le, if◌then◌else◌}
use Rattle.std.specs.Option.{option_map}
use Rattle.udp_frames.specs.Damage.{flipped}
use Rattle.rpc_header.specs.declared.Activity.{Activity}
use Rattle.rpc_header.specs.declared.Export.{Export}
use Rattle.binder.specs.declared.row.ExportRow.{ExportRow}
use Rattle.binder.specs.declared.row.Verdict.{Verdict}
use Rattle.binder.specs.declared.row.Verdict.TheVariants as verdict
use Rattle.binder.specs.declared.row.ExportFault.{ExportFault}
use Rattle.binder.specs.declared.interface.InterfaceName.{InterfaceName}
use Rattle.binder.specs.Exports.{accepts, look_up, export_fault, exported, next_export, withdrawn}
use Rattle.binder.specs.Interfaces.{name_in, bind_data}
use Rattle.call_rules.specs.Packet.{Call, Packet}
use Rattle.call_rules.specs.Entry.{Entry, Empty}
use Rattle.call_rules.specs.Caller as caller
use Rattle.call_rules.specs.Worker.{Worker, Resting, Claimed, Took, Admitted, Ran, Fetched, Asked, Adds, Nothing, ARun, APacket, ARejection, on_idle, on_claimed, on_took, on_admitted, on_ran, on_fetched}
use Rattle.call_rules.specs.Worker as worker
use Rattle.replay_model.specs.declared.event.CallWord.{CallWord}
use Rattle.replay_model.specs.declared.event.Event.{Event}
use Rattle.replay_model.specs.declared.event.Event.TheVariants as event
use Rattle.replay_model.specs.declared.limits.TheConstants.{SERVER_MACHINE, FIRST_CLIENT, READY_CELLS, SERVICE_PROCEDURES}
use Rattle.replay_model.specs.Service.{Served, served, procedure_of, arguments_of}
use Rattle.replay_model.specs.declared.discard.Discard.{Discard}
use Rattle.replay_model.specs.declared.discard.Discard.TheVariants as why
use Rattle.replay_model.specs.Process.{Line, LineStep, Said, SaysNothing, Sends, Waits, Returned, Fails, BindFails, BoundTo, NotBound, started, binds, heard, ticked}
use Rattle.replay_model.specs.Record.{Act, Impossible, Seconds, Starts, Binds, TooFast, CallerSends, ServerSends, Readies, Hears, TellsWaiting, Returns, Quiet, Discards, Idles, Works, HasRun, Rejects, NoExport, Withdraws, Restarts, Skips, Shows, ListsRuns, Ends, counts_of, recorded_all}
use Rattle.replay_model.specs.Record as act
use Rattle.replay_model.specs.Arrival.{Arrival, Comes, Dropped, arrives, frame_of}
use Rattle.replay_model.specs.World.{World, Client, numbered, with_numbered, packet_at, entry_at, with_entry, number_limit, test_name, booted_server, booted_client, has_buffer}

-- what an event does: the world after it but for its records, and what happens
pub record Outcome : Type 0 where
  pub world : World
  pub acts : List Act

-- the world after an outcome, with what happened recorded
abbrev pub settled : World → Outcome → World
settled w o = record o.world { records = recorded_all w.records o.acts }

-- the same with one thing that happens before
abbrev pub behind : Act → Outcome → Outcome
behind first o = record { world = o.world; acts = first ∷ o.acts }

abbrev pub impossible : World → Outcome
impossible w = record { world = w; acts = Impossible ∷ [] }

abbrev pub discarded : World → Discard → Outcome
discarded w why = record { world = w; acts = Discards why ∷ [] }

-- nothing happens
abbrev pub nothing : World → Outcome
nothing w = record { world = w; acts = [] }

abbrev pub with_client : World → (machine : ℕ) → Client → World
with_client w machine c = record w { clients = with_numbered FIRST_CLIENT w.clients machine c }

abbrev pub with_line : Client → (process : ℕ) → Line → Client
with_line c process l = record c { lines = with_numbered 1 c.lines process l }

abbrev pub with_packet : World → Packet → World
with_packet w p = record w { bag = w.bag ++ p ∷ [] }

-- The steps of processes.

-- what a process tells of its call, or its bind
abbrev pub tells : World → Call → Said → Outcome
tells w call SaysNothing = nothing w
tells w call (Sends p) = record { world = with_packet w p; acts = CallerSends (length w.bag + 1) p ∷ [] }
tells w call Waits = record { world = w; acts = TellsWaiting call ∷ [] }
tells w call (Returned x) = record { world = w; acts = Returns x ∷ [] }
tells w call (Fails cause) = record { world = w; acts = act.Fails call cause ∷ [] }
tells w call BindFails = record { world = w; acts = act.BindFails call ∷ [] }
tells w call (BoundTo export) = record { world = w; acts = act.BindsTo call export ∷ [] }
tells w call NotBound = record { world = w; acts = act.Unbinds call ∷ [] }

-- a process of client c does a step
unfoldable pub does : World → (machine process : ℕ) → Client → LineStep → Outcome
does w machine process c s = tells (with_client w machine (with_line c process s.line)) (caller.current_call s.line.caller) s.said

-- the call that a process starts next
abbrev pub next_call : Line → Call
next_call l = record { activity = l.caller.activity; number = l.next }

-- an idle process starts a call; its machine reads the second
abbrev pub starts : World → (machine process : ℕ) → Client → Line → CallWord → Outcome
starts w machine process c l asked =
    behind
    (Starts (record { call = next_call l; export = l.binding; procedure = procedure_of asked; arguments = arguments_of asked }))
    (does w machine process (record c { read = w.second }) (started machine l (procedure_of asked) (arguments_of asked)))

-- a process has used the numbers of this second up; its machine has read the second
abbrev pub too_fast : World → (machine : ℕ) → Client → Line → Outcome
too_fast w machine c l =
    record { world = with_client w machine (record c { read = w.second }); acts = TooFast l.caller.activity l.next w.second ∷ [] }

-- a process is asked to start a call
unfoldable pub call_by : World → (machine process : ℕ) → Client → Option Line → CallWord → Outcome
call_by w machine process c None asked = impossible w
call_by w machine process c (Some l) asked =
    if caller.is_idle l.caller.state
    then (if nat_le (number_limit w.second) l.next then too_fast w machine c l else starts w machine process c l asked)
    else impossible w

unfoldable pub call_event : World → (machine process : ℕ) → Option Client → CallWord → Outcome
call_event w machine process None asked = impossible w
call_event w machine process (Some c) asked = call_by w machine process c (numbered 1 c.lines process) asked

-- Binds, and the numbers of calls.

-- an idle process starts a bind to a name; its machine reads the second
abbrev pub starts_bind : World → (machine process : ℕ) → Client → Line → (name : List ℕ) → Outcome
starts_bind w machine process c l name =
    behind
    (Binds (next_call l))
    (does w machine process (record c { read = w.second }) (binds machine l (bind_data (test_name name))))

unfoldable pub bind_by : World → (machine process : ℕ) → Client → Option Line → (name : List ℕ) → Outcome
bind_by w machine process c None name = impossible w
bind_by w machine process c (Some l) name =
    if caller.is_idle l.caller.state
    then (if nat_le (number_limit w.second) l.next then too_fast w machine c l else starts_bind w machine process c l name)
    else impossible w

unfoldable pub bind_event : World → (machine process : ℕ) → Option Client → (name : List ℕ) → Outcome
bind_event w machine process None name = impossible w
bind_event w machine process (Some c) name = bind_by w machine process c (numbered 1 c.lines process) name

-- the largest number that a call can have
abbrev pub last_number : ℕ
last_number = 2 ^ 48 - 1

-- an idle process passes over numbers, unless they would be used up
abbrev pub skips : World → (machine process : ℕ) → Client → Line → (next : ℕ) → Outcome
skips w machine process c l next =
    if nat_le next last_number
    then record {
      world = with_client w machine (with_line c process (record l { next = next }));
      acts = Skips l.caller.activity next ∷ [];
    }
    else impossible w

unfoldable pub skip_by : World → (machine process : ℕ) → Client → Option Line → (count : ℕ) → Outcome
skip_by w machine process c None count = impossible w
skip_by w machine process c (Some l) count =
    if caller.is_idle l.caller.state then skips w machine process c l (l.next + count) else impossible w

unfoldable pub skip_event : World → (machine process : ℕ) → Option Client → (count : ℕ) → Outcome
skip_event w machine process None count = impossible w
skip_event w machine process (Some c) count = skip_by w machine process c (numbered 1 c.lines process) count

-- one tick of a process; where there is no such process, nothing happens
abbrev pub ticks_line : World → (machine process : ℕ) → Client → Option Line → Outcome
ticks_line w machine process c None = nothing w
ticks_line w machine process c (Some l) = does w machine process c (ticked machine l)

abbrev pub ticks_client : World → (machine process : ℕ) → Option Client → Outcome
ticks_client w machine process None = nothing w
ticks_client w machine process (Some c) = ticks_line w machine process c (numbered 1 c.lines process)

unfoldable pub tick : World → (machine process : ℕ) → Outcome
tick w machine process = ticks_client w machine process (numbered FIRST_CLIENT w.clients machine)

-- so many ticks, each over the world that the one before leaves
abbrev pub ticks : World → (machine process : ℕ) → (count : ℕ) → Outcome
ticks w machine process zero = nothing w
ticks w machine process (suc count) =
    let first : Outcome = tick w machine process in
    let more : Outcome = ticks (settled w first) machine process count in
    record { world = more.world; acts = first.acts ++ more.acts }

-- ticks in which nothing happens are quiet
abbrev pub quiet_if_none : List Act → List Act
quiet_if_none [] = Quiet ∷ []
quiet_if_none (a ∷ acts) = a ∷ acts

unfoldable pub tick_event : World → (machine process count : ℕ) → Outcome
tick_event w machine process count =
    record { world = (ticks w machine process count).world; acts = quiet_if_none (ticks w machine process count).acts }

-- Deliveries.

-- the server takes a packet, or has no room for it
unfoldable pub server_takes : World → (number : ℕ) → Packet → Outcome
server_takes w k p =
    if nat_lt (length w.server.ready) READY_CELLS
    then record { world = record w { server = record w.server { ready = w.server.ready ++ p ∷ [] } }; acts = Readies k ∷ [] }
    else discarded w why.NoRoom

-- a process has a packet of the call that it has open: an act by which nothing changes leaves it unused
abbrev pub hears : World → (number : ℕ) → Packet → Client → Line → (unused : Bool) → Outcome
hears w k p c l unused =
    if unused
    then discarded w why.Unused
    else behind (Hears l.caller.activity k) (does w p.to (p.header.hint + 1) c (heard p.to l p))

-- the cell takes a packet of the number that its caller waits for
unfoldable pub line_takes : World → (number : ℕ) → Packet → Client → Option Line → Outcome
line_takes w k p c None = discarded w why.NoCell
line_takes w k p c (Some l) =
    if caller.is_idle l.caller.state
    then discarded w why.Stale
    else (if l.caller.number == p.header.call.number
    then hears w k p c l (caller.is_unused (caller.on_packet l.caller p.header).act)
    else discarded w why.Stale)

-- the cell of the client that the header's hint names takes the packet
unfoldable pub client_takes : World → (number : ℕ) → Packet → Option Client → Outcome
client_takes w k p None = discarded w why.NoCell
client_takes w k p (Some c) = line_takes w k p c (numbered 1 c.lines (p.header.hint + 1))

-- packet k has come to its receiver
unfoldable pub machine_takes : World → (number : ℕ) → Packet → Outcome
machine_takes w k p =
    if p.to == SERVER_MACHINE then server_takes w k p else client_takes w k p (numbered FIRST_CLIENT w.clients p.to)

abbrev pub takes_arrival : World → (number : ℕ) → Arrival → Outcome
takes_arrival w k (Comes p) = machine_takes w k p
takes_arrival w k (Dropped why) = discarded w why

-- the bytes of the frame of packet k come to machine `me`
abbrev pub receives : World → (number me : ℕ) → List ℕ → Outcome
receives w k me bytes = takes_arrival w k (arrives me bytes)

unfoldable pub deliver_event : World → (number : ℕ) → Option Packet → Outcome
deliver_event w k None = impossible w
deliver_event w k (Some p) = receives w k p.to (frame_of p)

-- the same with one bit flipped, where the frame has that bit
unfoldable pub damage_event : World → (number bit : ℕ) → Option Packet → Outcome
damage_event w k bit None = impossible w
damage_event w k bit (Some p) =
    if nat_lt bit (8 * length (frame_of p)) then receives w k p.to (flipped (frame_of p) bit) else impossible w

abbrev pub show_event : World → (number : ℕ) → Option Packet → Outcome
show_event w k None = impossible w
show_event w k (Some p) = record { world = w; acts = Shows k (frame_of p) ∷ [] }

-- The steps of workers.

-- the reason for which a packet is refused, by what the exports' rows say to it
abbrev pub refusal : Verdict → Option ℕ
refusal verdict.Accepted = None
refusal verdict.WrongBinding = Some 1
refusal verdict.NoProcedure = Some 2

abbrev pub asked_of : List (Option ExportRow) → Packet → Asked
asked_of rows p =
    record {
      named = option_map (look_up rows) (name_in p.payload);
      refused = refusal (accepts rows p.header.export p.header.procedure);
    }

-- the entries with that of an activity exchanged, if it is
abbrev pub exchanged : List Entry → Activity → Option Entry → List Entry
exchanged entries a None = entries
exchanged entries a (Some e) = with_entry entries a e

-- what a step adds to the world, behind the worker's act
abbrev pub adds : World → Act → Adds → Outcome
adds w told Nothing = record { world = w; acts = told ∷ [] }
adds w told (ARun run) = record { world = w; acts = told ∷ HasRun run ∷ [] }
adds w told (APacket p) = record { world = with_packet w p; acts = told ∷ ServerSends (length w.bag + 1) p ∷ [] }
adds w told (ARejection p) =
    record {
      world = with_packet w p;
      acts = told ∷ ServerSends (length w.bag + 1) p ∷ Rejects (length w.bag + 1) w.server.exports.rows ∷ [];
    }

-- a worker does a step for the packet p
unfoldable pub works : World → (who : ℕ) → Packet → worker.Step → Outcome
works w who p step =
    adds
    (record w {
      server = record w.server {
        workers = with_numbered 1 w.server.workers who step.worker;
        entries = exchanged w.server.entries p.header.call.activity step.entry;
      };
    })
    (Works who p.header.call.number step.did)
    step.adds

-- a worker with an admitted call: the body runs, and the service has a new total, or it waits for a buffer
abbrev pub runs_body : World → (who : ℕ) → (buffer : Bool) → Packet → (arguments : List ℕ) → Served → Outcome
runs_body w who buffer p arguments s =
    works
    (record w { server = record w.server { total = if buffer then s.total else w.server.total } })
    who p (on_admitted buffer p arguments s.answer)

-- an idle worker takes the oldest ready packet; without one, it stays idle
unfoldable pub claims_next : World → (who : ℕ) → List Packet → Outcome
claims_next w who [] = record { world = w; acts = Idles who ∷ [] }
claims_next w who (p ∷ rest) =
    works
    (record w { server = record w.server { ready = rest } })
    who p (on_idle (asked_of w.server.exports.rows p) (entry_at w.server.entries p.header.call.activity) p)

-- the entry of a packet's activity
abbrev pub entry_of : World → Packet → Entry
entry_of w p = unwrap_or (entry_at w.server.entries p.header.call.activity) Empty

unfoldable pub work_event : World → (who : ℕ) → Option Worker → Outcome
work_event w who None = impossible w
work_event w who (Some Resting) = claims_next w who w.server.ready
work_event w who (Some (Claimed p seen)) = works w who p (on_claimed has_buffer p seen (entry_of w p))
work_event w who (Some (Took p)) = works w who p (on_took p (entry_of w p))
work_event w who (Some (Admitted p arguments)) =
    runs_body w who has_buffer p arguments (served w.server.total p.header.procedure arguments)
work_event w who (Some (Ran p answer)) = works w who p (on_ran p answer)
work_event w who (Some (Fetched p)) = works w who p (on_fetched p (entry_of w p))

-- The second, exports and restarts.

abbrev pub second_event : World → (second : ℕ) → Outcome
second_event w second =
    if nat_lt w.second second then record { world = record w { second = second }; acts = Seconds second ∷ [] } else impossible w

-- the server exports a name, or doesn't; it has read the second
abbrev pub exports_unless : Option ExportFault → World → InterfaceName → Outcome
exports_unless (Some fault) w name =
    record { world = record w { server = record w.server { read = w.second } }; acts = NoExport fault ∷ [] }
exports_unless None w name =
    record {
      world = record w { server = record w.server { read = w.second; exports = exported w.server.exports name SERVICE_PROCEDURES } };
      acts = act.Exports (next_export w.server.exports) ∷ [];
    }

unfoldable pub export_event : World → (name : List ℕ) → Outcome
export_event w name = exports_unless (export_fault w.server.exports (test_name name) w.second) w (test_name name)

abbrev pub withdraws_if : Option Export → World → InterfaceName → Outcome
withdraws_if None w name = impossible w
withdraws_if (Some export) w name =
    record {
      world = record w { server = record w.server { exports = withdrawn w.server.exports name } };
      acts = Withdraws export.index ∷ [];
    }

unfoldable pub withdraw_event : World → (name : List ℕ) → Outcome
withdraw_event w name = withdraws_if (look_up w.server.exports.rows (test_name name)) w (test_name name)

-- a machine boots at the world's second, which it hasn't read yet
abbrev pub boots_server : World → Outcome
boots_server w =
    if nat_lt w.server.read w.second
    then record {
      world = record w { server = booted_server w.server.small w.server.long w.second };
      acts = Restarts SERVER_MACHINE w.second ∷ [];
    }
    else impossible w

abbrev pub boots_client : World → (machine : ℕ) → Option Client → Outcome
boots_client w machine None = impossible w
boots_client w machine (Some c) =
    if nat_lt c.read w.second
    then record { world = with_client w machine (booted_client w.second machine); acts = Restarts machine w.second ∷ [] }
    else impossible w

unfoldable pub restart_event : World → (machine : ℕ) → Outcome
restart_event w machine =
    if machine == SERVER_MACHINE then boots_server w else boots_client w machine (numbered FIRST_CLIENT w.clients machine)

abbrev pub journal_event : World → Outcome
journal_event w = record { world = w; acts = ListsRuns w.records.journal ∷ [] }

abbrev pub end_event : World → Outcome
end_event w = record { world = w; acts = Ends (counts_of w.records) ∷ [] }

-- what each event does
abbrev pub outcome : World → Event → Outcome
outcome w (event.Call machine process asked) = call_event w machine process (numbered FIRST_CLIENT w.clients machine) asked
outcome w (event.Second second) = second_event w second
outcome w (event.Bind machine process name) = bind_event w machine process (numbered FIRST_CLIENT w.clients machine) name
outcome w (event.Export name) = export_event w name
outcome w (event.Withdraw name) = withdraw_event w name
outcome w (event.Restart machine) = restart_event w machine
outcome w (event.Skip machine process count) = skip_event w machine process (numbered FIRST_CLIENT w.clients machine) count
outcome w (event.Deliver k) = deliver_event w k (packet_at w.bag k)
outcome w (event.Damage k bit) = damage_event w k bit (packet_at w.bag k)
outcome w (event.Tick machine process count) = tick_event w machine process count
outcome w (event.Show k) = show_event w k (packet_at w.bag k)
outcome w (event.Work number) = work_event w number (numbered 1 w.server.workers number)
outcome w event.Journal = journal_event w
outcome w event.End = end_event w

-- the world after an event, with what happened recorded
unfoldable pub step : World → Event → World
step w e = settled w (outcome w e)

-- the world after a list of events
abbrev pub run : World → List Event → World
run w [] = w
run w (e ∷ es) = run (step w e) es

-- what a worked transcript computes with: to unfold `steps` is to unfold each definition that its line names
unfoldable pub steps : Unit {0}
unfolding does call_by call_event bind_by bind_event skip_by skip_event tick tick_event server_takes line_takes client_takes machine_takes deliver_event damage_event works claims_next work_event export_event withdraw_event restart_event step
steps = tt
