-- What a worker's step makes of the server.
use Rattle.std.proofs.Common.{◌≡◌, ℕ, ◌+◌, ◌-◌, ◌≤◌, List, [], ◌∷◌, length, Option, Some, None, Bool, true, false, cond, set, ap, sym, subst, ◌∙◌, refl, arith}
use Rattle.std.specs.Prelude.{unwrap_or, slice_get}
use Rattle.std.proofs.lemmas.List.{set-get_or}
use Rattle.std.proofs.lemmas.Bool.{le-ltb, cond-false}
use Rattle.std.proofs.lemmas.Option.{slice_get_past, unwrap_or-slice_get}
use Rattle.rpc_header.specs.declared.Activity.{Activity}
use Rattle.rpc_header.specs.declared.CallNumber.{CallNumber}
use Rattle.call_rules.specs.Packet.{Packet}
use Rattle.call_rules.specs.Entry.{Entry, Empty}
use Rattle.call_rules.specs.declared.worker.Did.{Did}
use Rattle.call_rules.specs.Worker.{on_idle}
use Rattle.call_rules.specs.Worker as rules
use Rattle.replay_model.specs.Record.{Idles, Works}
use Rattle.replay_model.specs.World.{World, Server, numbered, is_entry_activity, entry_place, entry_at, with_entry}
use Rattle.replay_model.specs.Step.{Outcome, impossible, adds, asked_of, exchanged, entry_of, works, work_event, claims_next}
use Rattle.replay_server.specs.declared.step.Step.{Step}
use Rattle.replay_server.specs.declared.step.Stepped.{Stepped}
use Rattle.replay_server.specs.declared.step.Worked.{Worked}
use Rattle.replay_server.specs.declared.stage.Stage.{Stage}
use Rattle.replay_server.specs.declared.stage.Stage.TheVariants as stage
use Rattle.replay_server.specs.GoesOn.{ExchangesIn, GoesOn, GoesOnAt, row_over}
use Rattle.replay_server.specs.Rules.{Keeps, Exchanges, row_at, total_at}
use Rattle.replay_server.specs.Stepped.{StandsFor, StepsAs, WorksAs}
use Rattle.replay_server.specs.Worker.{worker_at, worker_after}
use Rattle.replay_server.proofs.Rows.{exchanges_as}

-- an entry written back
kept : (inside : Bool) (es : List Entry) (i : ℕ) → cond inside (set es i (unwrap_or (cond inside (slice_get es i) None) Empty)) es ≡ es
kept true es i = ap (λ (e : Entry). set es i e) (unwrap_or-slice_get es i Empty) ∙ set-get_or es i Empty
kept false es i = refl

-- an entry written back after a row's step
put_back : (es : List Entry) (a : Activity) (o : Option Entry) → with_entry es a (unwrap_or o (unwrap_or (entry_at es a) Empty)) ≡ exchanged es a o
put_back es a None = kept (is_entry_activity a) es (entry_place a)
put_back es a (Some x) = refl

-- a row's step of an entry, e1 before it and e2 after it, is one of the entries
pub exchanges_in : (p : Packet) (s : Stage) (t : ℕ) (es0 es1 : List Entry) (a : Activity) (e1 e2 : Entry) (step : Step) → a ≡ p.header.call.activity → e1 ≡ unwrap_or (entry_at es0 a) Empty → es1 ≡ with_entry es0 a e2 → Exchanges p (row_at p s t e1) e1 e2 step → ExchangesIn p (row_over p s t es0) es0 es1 step
exchanges_in p s t es0 es1 a e1 e2 step activity was after made =
    let row : rules.Step = row_over p s t es0 in
    let same : row_at p s t e1 ≡ row =
    ap (λ (e : Entry). row_at p s t e) (was ∙ ap (λ (x : Activity). unwrap_or (entry_at es0 x) Empty) activity) in
    let h : Exchanges p row e1 e2 step = exchanges_as p _ _ e1 e2 step same made in
    record {
      worker = h.worker;
      entries = after
          ∙ (ap (λ (e : Entry). with_entry es0 a e) (h.entry ∙ ap (λ (e : Entry). unwrap_or row.entry e) was)
          ∙ (put_back es0 a row.entry ∙ ap (λ (x : Activity). exchanged es0 x row.entry) activity));
      did = h.did;
      adds = h.adds;
    }

-- the step of a worker that holds a packet
event_at : (w : World) (who : ℕ) (p : Packet) (s : Stage) → work_event w who (Some (worker_at p s)) ≡ works (record w { server = record w.server { total = total_at p s w.server.total } }) who p (row_at p s w.server.total (entry_of w p))
unfolding work_event
event_at w who p (stage.Claimed seen) = refl
event_at w who p stage.Took = refl
event_at w who p (stage.Admitted arguments) = refl
event_at w who p (stage.Ran answer) = refl
event_at w who p stage.Fetched = refl

-- the number of the worker at a place
back : (j : ℕ) → j + 1 - 1 ≡ j
back j = omega arith

-- a row's step of the worker at a place: s1 is the server after it
pub steps_at : (w : World) (s0 s1 : Server) (j : ℕ) (p : Packet) (row : rules.Step) (x : Stepped) → s1 ≡ record s0 { workers = set s0.workers j row.worker; entries = exchanged s0.entries p.header.call.activity row.entry } → x.number.value ≡ p.header.call.number → x.did ≡ row.did → StandsFor x.adds row.adds → StepsAs w (j + 1) s1 x (works (record w { server = s0 }) (j + 1) p row)
unfolding works
steps_at w s0 s1 j p row x server number did stands =
    let es : List Entry = exchanged s0.entries p.header.call.activity row.entry in
    record {
      added = row.adds;
      stands = stands;
      outcome = ap (λ (i : ℕ). adds (record w { server = record s0 { workers = set s0.workers i row.worker; entries = es } }) (Works (j + 1) p.header.call.number row.did) row.adds) (back j)
          ∙ (ap (λ (s : Server). adds (record w { server = s }) (Works (j + 1) p.header.call.number row.did) row.adds) (sym server)
          ∙ (ap (λ (n : ℕ). adds (record w { server = s1 }) (Works (j + 1) n row.did) row.adds) (sym number)
          ∙ ap (λ (d : Did). adds (record w { server = s1 }) (Works (j + 1) x.number.value d) row.adds) (sym did)));
    }

-- an idle worker has taken the packet p: s1 is the server without it, and s2 has the worker again
pub claims : (w : World) (s0 s1 s2 : Server) (j : ℕ) (p : Packet) (rest : List Packet) (step : Step) (n : CallNumber) → n.value ≡ p.header.call.number → s0.ready ≡ p ∷ rest → s1 ≡ record s0 { ready = rest } → Keeps p (on_idle (asked_of s1.exports.rows p) (entry_at s1.entries p.header.call.activity) p) step → s2 ≡ record s1 { workers = set s1.workers j (worker_after p step.next) } → StepsAs (record w { server = s0 }) (j + 1) s2 (record { number = n; did = step.did; adds = step.adds }) (claims_next (record w { server = s0 }) (j + 1) s0.ready)
unfolding claims_next
claims w s0 s1 s2 j p rest step n number ready without made settled =
    let row : rules.Step = on_idle (asked_of s0.exports.rows p) (entry_at s0.entries p.header.call.activity) p in
    let h : Keeps p row step = subst (λ (x : Server). Keeps p (on_idle (asked_of x.exports.rows p) (entry_at x.entries p.header.call.activity) p) step) without made in
    let x : Stepped = record { number = n; did = step.did; adds = step.adds } in
    let server : s2 ≡ record s0 { ready = rest; workers = set s0.workers j row.worker; entries = exchanged s0.entries p.header.call.activity row.entry } =
    settled
    ∙ (ap (λ (y : Server). record y { workers = set y.workers j (worker_after p step.next) }) without
    ∙ (ap (λ (y : rules.Worker). record s0 { ready = rest; workers = set s0.workers j y }) h.worker
    ∙ ap (λ (o : Option Entry). record s0 { ready = rest; workers = set s0.workers j row.worker; entries = exchanged s0.entries p.header.call.activity o }) (sym h.entry))) in
    let P : List Packet → Type 0 = λ ps. StepsAs (record w { server = s0 }) (j + 1) s2 x (claims_next (record w { server = s0 }) (j + 1) ps) in
    subst P (sym ready) (steps_at (record w { server = s0 }) (record s0 { ready = rest }) s2 j p row x server number h.did h.adds)

-- nothing is ready
pub claims_none : (w : World) (who : ℕ) (ready : List Packet) → ready ≡ [] → claims_next w who ready ≡ record { world = w; acts = Idles who ∷ [] }
unfolding claims_next
claims_none w who ready h = ap (claims_next w who) h

-- the worker of a number, by its place
worker_in : (ws : List rules.Worker) (who j : ℕ) → 1 ≤ who → j ≡ who - 1 → numbered 1 ws who ≡ slice_get ws j
worker_in ws who j low place = cond-false _ _ _ (le-ltb who 1 low) ∙ ap (slice_get ws) (sym place)

-- there is no worker of this number
pub no_worker : (w : World) (ws : List rules.Worker) (who j : ℕ) → 1 ≤ who → j ≡ who - 1 → length ws ≤ j → work_event w who (numbered 1 ws who) ≡ impossible w
unfolding work_event
no_worker w ws who j low place past = ap (work_event w who) (worker_in ws who j low place ∙ slice_get_past ws j past)

-- a worker that held a packet has done its step
pub task_works : (w : World) (s0 s1 : Server) (who j : ℕ) (x : Stepped) → 1 ≤ who → j ≡ who - 1 → GoesOnAt j s0 s1 (Some x) → StepsAs (record w { server = s0 }) who s1 x (work_event (record w { server = s0 }) who (numbered 1 s0.workers who))
task_works w s0 s1 who j x low place h =
    let w' : World = record w { server = s0 } in
    let g : GoesOn h.before h.after s0.total s1.total s0.entries s1.entries x = h.goes in
    let p : Packet = g.carrier in
    let s : Stage = g.stage in
    let row : rules.Step = row_over p s s0.total s0.entries in
    let parts : List rules.Worker → List Entry → ℕ → Server = λ ws es t. record s0 { workers = ws; entries = es; total = t } in
    let server : s1 ≡ parts (set s0.workers j row.worker) (exchanged s0.entries p.header.call.activity row.entry) (total_at p s s0.total) =
    h.server
    ∙ (ap (λ (y : rules.Worker). parts (set s0.workers j y) s1.entries s1.total) g.worker
    ∙ (ap (λ (es : List Entry). parts (set s0.workers j row.worker) es s1.total) g.entries
    ∙ ap (λ (t : ℕ). parts (set s0.workers j row.worker) (exchanged s0.entries p.header.call.activity row.entry) t) g.total)) in
    let made : StepsAs w' (j + 1) s1 x (work_event w' (j + 1) (Some (worker_at p s))) =
    subst (λ (o : Outcome). StepsAs w' (j + 1) s1 x o) (sym (event_at w' (j + 1) p s))
    (steps_at w' (record s0 { total = total_at p s s0.total }) s1 j p row x server g.number g.did g.adds) in
    let worker : numbered 1 s0.workers who ≡ Some (worker_at p s) =
    worker_in s0.workers who j low place ∙ (h.there ∙ ap (λ (y : rules.Worker). Some y) g.was) in
    let P : ℕ → Option rules.Worker → Type 0 = λ i o. StepsAs w' i s1 x (work_event w' i o) in
    let number : j + 1 ≡ who = omega arith in
    subst (λ (i : ℕ). P i (numbered 1 s0.workers who)) number (subst (P (j + 1)) (sym worker) made)

-- an item written over itself
set-same : {A : Type 0} (xs : List A) (i : ℕ) (x : A) → slice_get xs i ≡ Some x → set xs i x ≡ xs
set-same {A} xs i x h =
    ap (λ (y : A). set xs i y) (sym (ap (λ (o : Option A). unwrap_or o x) h) ∙ unwrap_or-slice_get xs i x) ∙ set-get_or xs i x

-- a worker that has nothing to go on with is idle
pub is_idle : (s0 s1 : Server) (j : ℕ) → GoesOnAt j s0 s1 None → slice_get s0.workers j ≡ Some rules.Resting
is_idle s0 s1 j h = h.there ∙ ap (λ (y : rules.Worker). Some y) h.goes.0

-- and the server is as it was
pub as_before : (s0 s1 : Server) (j : ℕ) → GoesOnAt j s0 s1 None → s1 ≡ s0
as_before s0 s1 j h =
    h.server
    ∙ (ap (λ (y : rules.Worker). record s0 { workers = set s0.workers j y; entries = s1.entries; total = s1.total }) h.goes.1
    ∙ (ap (λ (ws : List rules.Worker). record s0 { workers = ws; entries = s1.entries; total = s1.total }) (set-same s0.workers j h.before h.there)
    ∙ (ap (λ (t : ℕ). record s0 { entries = s1.entries; total = t }) h.goes.2
    ∙ ap (λ (es : List Entry). record s0 { entries = es }) h.goes.3)))

-- an idle worker has done its step
pub idle_works : (r : Worked) (w : World) (s0 s1 s2 : Server) (who j : ℕ) → 1 ≤ who → j ≡ who - 1 → slice_get s0.workers j ≡ Some rules.Resting → s1 ≡ s0 → WorksAs (record w { server = s1 }) (j + 1) s2 r (claims_next (record w { server = s1 }) (j + 1) s1.ready) → WorksAs (record w { server = s0 }) who s2 r (work_event (record w { server = s0 }) who (numbered 1 s0.workers who))
unfolding work_event
idle_works r w s0 s1 s2 who j low place worker same h =
    let w' : World = record w { server = s0 } in
    let number : j + 1 ≡ who = omega arith in
    let P : ℕ → Option rules.Worker → Type 0 = λ i o. WorksAs w' i s2 r (work_event w' i o) in
    subst (λ (i : ℕ). P i (numbered 1 s0.workers who)) number
    (subst (P (j + 1)) (sym (worker_in s0.workers who j low place ∙ worker))
    (subst (λ (s : Server). WorksAs (record w { server = s }) (j + 1) s2 r (claims_next (record w { server = s }) (j + 1) s.ready)) same h))
