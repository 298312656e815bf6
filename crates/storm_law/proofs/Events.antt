-- Each event accounts for its calls: those that are lost are the ones that were open at their client's restart.
use Rattle.std.proofs.Common.{◌≡◌, ℕ, List, [], ◌∷◌, map, Option, Some, None, Bool, true, false, cond, refl, sym, subst, arith, ltb, eqb, eqb-true, ◌+◌, leb}
use Rattle.std.proofs.lemmas.Bool.{cond_both}
use Rattle.binder.specs.declared.interface.InterfaceName.{InterfaceName}
use Rattle.binder.specs.declared.row.ExportFault.{ExportFault}
use Rattle.rpc_header.specs.declared.Export.{Export}
use Rattle.binder.specs.Exports.{export_fault, look_up}
use Rattle.call_rules.specs.Caller.{is_idle}
use Rattle.replay_model.specs.declared.event.Event.{Event}
use Rattle.replay_model.specs.declared.event.Event.TheVariants as event
use Rattle.replay_model.specs.declared.limits.TheConstants.{FIRST_CLIENT, LAST_PROCESS, SERVER_MACHINE}
use Rattle.replay_model.specs.Record.{Restarts}
use Rattle.replay_model.specs.Step.{Outcome, impossible, with_client, outcome, second_event, exports_unless, export_event, withdraws_if, withdraw_event, boots_server, boots_client, restart_event, skips, last_number, skip_by, skip_event}
use Rattle.replay_model.specs.World.{World, Client, numbered, packet_at, booted_line, booted_client, test_name}
use Rattle.replay_model.specs.Process.{Line}
use Rattle.std.specs.List.{range_with_len}
use Rattle.replay_model.specs.OpenCalls.{open_of_lines, open_of, open_of_clients, lost_of, lost_in}
use Rattle.storm_law.proofs.Places.{client_is_set, line_is_set}
use Rattle.storm_law.proofs.Counting.{Accounts}
use Rattle.storm_law.proofs.Processes.{either, impossible_accounts, call_accounts, bind_accounts, tick_accounts}
use Rattle.storm_law.proofs.Deliveries.{deliver_accounts, damage_accounts, show_accounts, work_accounts}

second_accounts : (w : World) (second : ℕ) → Accounts 0 0 w (second_event w second)
second_accounts w second = either w (ltb w.second second) _ _ (λ later. record { balanced = refl }) (λ earlier. impossible_accounts w)

exports_unless_accounts : (o : Option ExportFault) (w : World) (name : InterfaceName) → Accounts 0 0 w (exports_unless o w name)
exports_unless_accounts (Some fault) w name = record { balanced = refl }
exports_unless_accounts None w name = record { balanced = refl }

export_accounts : (w : World) (name : List ℕ) → Accounts 0 0 w (export_event w name)
unfolding export_event
export_accounts w name = exports_unless_accounts (export_fault w.server.exports (test_name name) w.second) w (test_name name)

withdraws_if_accounts : (o : Option Export) (w : World) (name : InterfaceName) → Accounts 0 0 w (withdraws_if o w name)
withdraws_if_accounts None w name = impossible_accounts w
withdraws_if_accounts (Some export) w name = record { balanced = refl }

withdraw_accounts : (w : World) (name : List ℕ) → Accounts 0 0 w (withdraw_event w name)
unfolding withdraw_event
withdraw_accounts w name = withdraws_if_accounts (look_up w.server.exports.rows (test_name name)) w (test_name name)

-- Restarts.

-- a client boots with no call open
none_open_in : (boot machine : ℕ) (processes : List ℕ) → open_of_lines (map (booted_line boot machine) processes) ≡ 0
none_open_in boot machine [] = refl
none_open_in boot machine (p ∷ ps) = omega (arith, none_open_in boot machine ps)

pub none_open : (boot : ℕ) (machines : List ℕ) → open_of_clients (map (booted_client boot) machines) ≡ 0
none_open boot [] = refl
none_open boot (m ∷ ms) = omega (arith, none_open_in boot m (range_with_len 1 LAST_PROCESS), none_open boot ms)

boots_server_accounts : (w : World) → Accounts 0 0 w (boots_server w)
boots_server_accounts w = either w (ltb w.server.read w.second) _ _ (λ later. record { balanced = refl }) (λ read. impossible_accounts w)

abbrev boots : World → (machine : ℕ) → Outcome
boots w m = record { world = with_client w m (booted_client w.second m); acts = Restarts m w.second ∷ [] }

-- the calls that the client had open are lost, where it boots
boots_client_accounts : (w : World) (m : ℕ) (o : Option Client) → numbered FIRST_CLIENT w.clients m ≡ o → Accounts 0 (lost_of w o) w (boots_client w m o)
boots_client_accounts w m None e = impossible_accounts w
boots_client_accounts w m (Some c) e = go (ltb c.read w.second)
  where
    go : (later : Bool) → Accounts 0 (cond later (open_of c) 0) w (cond later (boots w m) (impossible w))
    go true =
        let set = client_is_set w m c (booted_client w.second m) e in
        record { balanced = omega (arith, set, none_open_in w.second m (range_with_len 1 LAST_PROCESS)) }
    go false = impossible_accounts w

-- the server is no client
no_client : (w : World) (m : ℕ) → m ≡ SERVER_MACHINE → lost_of w (numbered FIRST_CLIENT w.clients m) ≡ 0
no_client w m e = subst (λ (n : ℕ). lost_of w (numbered FIRST_CLIENT w.clients n) ≡ 0) (sym e) refl

restart_accounts : (w : World) (m : ℕ) → Accounts 0 (lost_of w (numbered FIRST_CLIENT w.clients m)) w (restart_event w m)
unfolding restart_event
restart_accounts w m =
    cond_both (eqb m SERVER_MACHINE) _ _ (Accounts 0 (lost_of w (numbered FIRST_CLIENT w.clients m)) w)
    (λ server. subst (λ (lost : ℕ). Accounts 0 lost w (boots_server w)) (sym (no_client w m (eqb-true m SERVER_MACHINE server))) (boots_server_accounts w))
    (λ client. boots_client_accounts w m (numbered FIRST_CLIENT w.clients m) refl)

-- Numbers that are passed over.

skips_accounts : (w : World) (m p : ℕ) (c : Client) (l : Line) (next : ℕ) → numbered FIRST_CLIENT w.clients m ≡ Some c → numbered 1 c.lines p ≡ Some l → Accounts 0 0 w (skips w m p c l next)
skips_accounts w m p c l next ec el =
    either w (leb next last_number) _ _
    (λ room. record { balanced = omega (arith, line_is_set w m p c c l (record l { next = next }) ec el refl) }) (λ full. impossible_accounts w)

skip_by_accounts : (w : World) (m p : ℕ) (c : Client) (o : Option Line) (count : ℕ) → numbered FIRST_CLIENT w.clients m ≡ Some c → numbered 1 c.lines p ≡ o → Accounts 0 0 w (skip_by w m p c o count)
unfolding skip_by
skip_by_accounts w m p c None count ec el = impossible_accounts w
skip_by_accounts w m p c (Some l) count ec el =
    either w (is_idle l.caller.state) _ _ (λ idle. skips_accounts w m p c l (l.next + count) ec el) (λ busy. impossible_accounts w)

skip_accounts : (w : World) (m p : ℕ) (o : Option Client) (count : ℕ) → numbered FIRST_CLIENT w.clients m ≡ o → Accounts 0 0 w (skip_event w m p o count)
unfolding skip_event
skip_accounts w m p None count e = impossible_accounts w
skip_accounts w m p (Some c) count e = skip_by_accounts w m p c (numbered 1 c.lines p) count e refl

-- each event accounts for its calls
pub event_accounts : (w : World) (e : Event) → Accounts 0 (lost_in w e) w (outcome w e)
event_accounts w (event.Second second) = second_accounts w second
event_accounts w (event.Call m p asked) = call_accounts w m p (numbered FIRST_CLIENT w.clients m) asked refl
event_accounts w (event.Bind m p name) = bind_accounts w m p (numbered FIRST_CLIENT w.clients m) name refl
event_accounts w (event.Tick m p count) = tick_accounts w m p count
event_accounts w (event.Deliver k) = deliver_accounts w k (packet_at w.bag k)
event_accounts w (event.Damage k bit) = damage_accounts w k bit (packet_at w.bag k)
event_accounts w (event.Export name) = export_accounts w name
event_accounts w (event.Withdraw name) = withdraw_accounts w name
event_accounts w (event.Restart m) = restart_accounts w m
event_accounts w (event.Skip m p count) = skip_accounts w m p (numbered FIRST_CLIENT w.clients m) count refl
event_accounts w (event.Show k) = show_accounts w k (packet_at w.bag k)
event_accounts w (event.Work n) = work_accounts w n (numbered 1 w.server.workers n)
event_accounts w event.Journal = record { balanced = refl }
event_accounts w event.End = record { balanced = refl }
