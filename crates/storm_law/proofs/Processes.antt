-- The steps of processes account for their calls: starts, binds and ticks.
use Rattle.std.proofs.Common.{◌≡◌, ℕ, zero, suc, List, [], ◌∷◌, Option, Some, None, Bool, true, false, cond, refl, arith, leb}
use Rattle.std.proofs.lemmas.Bool.{cond_both}
use Rattle.call_rules.specs.Packet.{Call}
use Rattle.call_rules.specs.Caller.{is_idle, current_call}
use Rattle.replay_model.specs.declared.event.CallWord.{CallWord}
use Rattle.replay_model.specs.declared.limits.TheConstants.{FIRST_CLIENT}
use Rattle.replay_model.specs.Process.{Line, LineStep, Said, SaysNothing, Sends, Waits, Returned, Fails, BindFails, BoundTo, NotBound, started, binds, ticked}
use Rattle.replay_model.specs.Record.{Act}
use Rattle.replay_model.specs.Service.{procedure_of, arguments_of}
use Rattle.binder.specs.Interfaces.{bind_data}
use Rattle.replay_model.specs.Step.{Outcome, settled, impossible, nothing, with_client, with_line, tells, does, starts, too_fast, call_by, call_event, starts_bind, bind_by, bind_event, tick, ticks, ticks_client, ticks_line, quiet_if_none, tick_event}
use Rattle.replay_model.specs.World.{World, Client, numbered, number_limit, test_name}
use Rattle.replay_model.specs.OpenCalls.{open_calls}
use Rattle.storm_law.proofs.Places.{client_is_set, line_is_set}
use Rattle.storm_law.proofs.Counting.{Accounts, started_by_all, ended_by_all, started_by_both, ended_by_both}
use Rattle.storm_law.proofs.Callers.{Keeps, ended_with, started_keeps, binds_keeps, ticked_keeps}

-- a test goes one way or the other
pub either : (w : World) (b : Bool) (x y : Outcome) → (b ≡ true → Accounts 0 0 w x) → (b ≡ false → Accounts 0 0 w y) → Accounts 0 0 w (cond b x y)
either w b x y = cond_both b x y (Accounts 0 0 w)

pub impossible_accounts : (w : World) → Accounts 0 0 w (impossible w)
impossible_accounts w = record { balanced = refl }

pub nothing_accounts : (w : World) → Accounts 0 0 w (nothing w)
nothing_accounts w = record { balanced = refl }

-- what a process tells of its call changes no process
record Tells (w : World) (said : Said) (o : Outcome) : Type 0 where
  pub started : started_by_all o.acts ≡ 0
  pub ended : ended_by_all o.acts ≡ ended_with said
  pub still_open : open_calls o.world ≡ open_calls w

what_is_told : (w : World) (call : Call) (said : Said) → Tells w said (tells w call said)
what_is_told w call SaysNothing = record { started = refl; ended = refl; still_open = refl }
what_is_told w call (Sends p) = record { started = refl; ended = refl; still_open = refl }
what_is_told w call Waits = record { started = refl; ended = refl; still_open = refl }
what_is_told w call (Returned x) = record { started = refl; ended = refl; still_open = refl }
what_is_told w call (Fails cause) = record { started = refl; ended = refl; still_open = refl }
what_is_told w call BindFails = record { started = refl; ended = refl; still_open = refl }
what_is_told w call (BoundTo export) = record { started = refl; ended = refl; still_open = refl }
what_is_told w call NotBound = record { started = refl; ended = refl; still_open = refl }

-- a process does a step that keeps its calls
pub does_accounts : (begun : ℕ) (w : World) (m p : ℕ) (b c : Client) (l : Line) (s : LineStep) → numbered FIRST_CLIENT w.clients m ≡ Some b → numbered 1 c.lines p ≡ Some l → c.lines ≡ b.lines → Keeps begun l.caller.state s → Accounts begun 0 w (does w m p c s)
unfolding does
does_accounts begun w m p b c l s eb el same keeps =
    let told = what_is_told (with_client w m (with_line c p s.line)) (current_call s.line.caller) s.said in
    let set = line_is_set w m p b c l s.line eb el same in
    record { balanced = omega (arith, told.started, told.ended, told.still_open, keeps.balanced) }

-- Starts.

starts_accounts : (w : World) (m p : ℕ) (c : Client) (l : Line) (asked : CallWord) → numbered FIRST_CLIENT w.clients m ≡ Some c → numbered 1 c.lines p ≡ Some l → is_idle l.caller.state ≡ true → Accounts 0 0 w (starts w m p c l asked)
starts_accounts w m p c l asked ec el idle =
    let step : LineStep = started m l (procedure_of asked) (arguments_of asked) in
    let done = does_accounts 1 w m p c (record c { read = w.second }) l step ec el refl (started_keeps m l (procedure_of asked) (arguments_of asked) idle) in
    record { balanced = omega (arith, done.balanced) }

-- a machine reads the second
too_fast_accounts : (w : World) (m : ℕ) (c : Client) (l : Line) → numbered FIRST_CLIENT w.clients m ≡ Some c → Accounts 0 0 w (too_fast w m c l)
too_fast_accounts w m c l ec = record { balanced = omega (arith, client_is_set w m c (record c { read = w.second }) ec) }

call_by_accounts : (w : World) (m p : ℕ) (c : Client) (o : Option Line) (asked : CallWord) → numbered FIRST_CLIENT w.clients m ≡ Some c → numbered 1 c.lines p ≡ o → Accounts 0 0 w (call_by w m p c o asked)
unfolding call_by
call_by_accounts w m p c None asked ec el = impossible_accounts w
call_by_accounts w m p c (Some l) asked ec el =
    either w (is_idle l.caller.state) _ _
    (λ idle. either w (leb (number_limit w.second) l.next) _ _ (λ full. too_fast_accounts w m c l ec) (λ free. starts_accounts w m p c l asked ec el idle))
    (λ busy. impossible_accounts w)

pub call_accounts : (w : World) (m p : ℕ) (o : Option Client) (asked : CallWord) → numbered FIRST_CLIENT w.clients m ≡ o → Accounts 0 0 w (call_event w m p o asked)
unfolding call_event
call_accounts w m p None asked e = impossible_accounts w
call_accounts w m p (Some c) asked e = call_by_accounts w m p c (numbered 1 c.lines p) asked e refl

-- Binds.

starts_bind_accounts : (w : World) (m p : ℕ) (c : Client) (l : Line) (name : List ℕ) → numbered FIRST_CLIENT w.clients m ≡ Some c → numbered 1 c.lines p ≡ Some l → is_idle l.caller.state ≡ true → Accounts 0 0 w (starts_bind w m p c l name)
starts_bind_accounts w m p c l name ec el idle =
    let step : LineStep = binds m l (bind_data (test_name name)) in
    let done = does_accounts 0 w m p c (record c { read = w.second }) l step ec el refl (binds_keeps m l (bind_data (test_name name)) idle) in
    record { balanced = omega (arith, done.balanced) }

bind_by_accounts : (w : World) (m p : ℕ) (c : Client) (o : Option Line) (name : List ℕ) → numbered FIRST_CLIENT w.clients m ≡ Some c → numbered 1 c.lines p ≡ o → Accounts 0 0 w (bind_by w m p c o name)
unfolding bind_by
bind_by_accounts w m p c None name ec el = impossible_accounts w
bind_by_accounts w m p c (Some l) name ec el =
    either w (is_idle l.caller.state) _ _
    (λ idle. either w (leb (number_limit w.second) l.next) _ _ (λ full. too_fast_accounts w m c l ec) (λ free. starts_bind_accounts w m p c l name ec el idle))
    (λ busy. impossible_accounts w)

pub bind_accounts : (w : World) (m p : ℕ) (o : Option Client) (name : List ℕ) → numbered FIRST_CLIENT w.clients m ≡ o → Accounts 0 0 w (bind_event w m p o name)
unfolding bind_event
bind_accounts w m p None name e = impossible_accounts w
bind_accounts w m p (Some c) name e = bind_by_accounts w m p c (numbered 1 c.lines p) name e refl

-- Ticks.

ticks_line_accounts : (w : World) (m p : ℕ) (c : Client) (o : Option Line) → numbered FIRST_CLIENT w.clients m ≡ Some c → numbered 1 c.lines p ≡ o → Accounts 0 0 w (ticks_line w m p c o)
ticks_line_accounts w m p c None ec el = nothing_accounts w
ticks_line_accounts w m p c (Some l) ec el = does_accounts 0 w m p c c l (ticked m l) ec el refl (ticked_keeps m l)

ticks_client_accounts : (w : World) (m p : ℕ) (o : Option Client) → numbered FIRST_CLIENT w.clients m ≡ o → Accounts 0 0 w (ticks_client w m p o)
ticks_client_accounts w m p None e = nothing_accounts w
ticks_client_accounts w m p (Some c) e = ticks_line_accounts w m p c (numbered 1 c.lines p) e refl

one_tick_accounts : (w : World) (m p : ℕ) → Accounts 0 0 w (tick w m p)
unfolding tick
one_tick_accounts w m p = ticks_client_accounts w m p (numbered FIRST_CLIENT w.clients m) refl

ticks_accounts : (w : World) (m p count : ℕ) → Accounts 0 0 w (ticks w m p count)
ticks_accounts w m p zero = nothing_accounts w
ticks_accounts w m p (suc count) =
    let first : Outcome = tick w m p in
    let more : Outcome = ticks (settled w first) m p count in
    let one = one_tick_accounts w m p in
    let rest = ticks_accounts (settled w first) m p count in
    record { balanced = omega (arith, one.balanced, rest.balanced, started_by_both first.acts more.acts, ended_by_both first.acts more.acts) }

-- quiet ticks start and end no call
quiet_starts_none : (acts : List Act) → started_by_all (quiet_if_none acts) ≡ started_by_all acts
quiet_starts_none [] = refl
quiet_starts_none (a ∷ acts) = refl

quiet_ends_none : (acts : List Act) → ended_by_all (quiet_if_none acts) ≡ ended_by_all acts
quiet_ends_none [] = refl
quiet_ends_none (a ∷ acts) = refl

pub tick_accounts : (w : World) (m p count : ℕ) → Accounts 0 0 w (tick_event w m p count)
unfolding tick_event
tick_accounts w m p count =
    let all : Outcome = ticks w m p count in
    let passed = ticks_accounts w m p count in
    record { balanced = omega (arith, passed.balanced, quiet_starts_none all.acts, quiet_ends_none all.acts) }
