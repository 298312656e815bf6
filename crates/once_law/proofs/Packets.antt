-- The invariant is kept where a packet comes, whole or damaged, and where a worker works.
use Rattle.std.proofs.Common.{◌≡◌, ◌≢◌, ℕ, ◌+◌, ◌*◌, List, [], ◌∷◌, length, Option, Some, None, refl, sym, ◌∙◌, subst, arith, ltb, eqb, eqb-true}
use Rattle.std.specs.Prelude.{Contains, unwrap_or}
use Rattle.std.proofs.lemmas.Option.{none-some, same_Some}
use Rattle.std.proofs.lemmas.List.Elements.{Contains-append_right}
use Rattle.std.proofs.lemmas.Bool.{eqb-false}
use Rattle.udp_frames.specs.Damage.{flipped}
use Rattle.call_rules.specs.Packet.{Packet}
use Rattle.call_rules.specs.Entry.{Entry, Empty}
use Rattle.call_rules.specs.Worker.{Worker, Resting, Claimed, Took, Admitted, Ran, Fetched, Step, on_idle, on_claimed, on_took, on_admitted, on_ran, on_fetched}
use Rattle.call_rules.specs.Caller.{is_idle, is_unused, on_packet}
use Rattle.replay_model.specs.declared.limits.TheConstants.{READY_CELLS, SERVER_MACHINE}
use Rattle.replay_model.specs.Arrival.{Arrival, Comes, Dropped, arrives, frame_of}
use Rattle.replay_model.specs.Once.{sent_since}
use Rattle.replay_model.specs.Process.{Line, heard}
use Rattle.replay_model.specs.Service.{Served, served}
use Rattle.replay_model.specs.Step.{settled, works, asked_of, server_takes, hears, line_takes, client_takes, machine_takes, takes_arrival, deliver_event, damage_event, show_event, claims_next, work_event}
use Rattle.replay_model.specs.World.{World, Client, numbered, packet_at, entry_at, has_buffer}
use Rattle.lawful_rules.specs.Known.{known}
use Rattle.lawful_rules.specs.Facts.{IsRequest, IsWorkerAt, carrier}
use Rattle.lawful_rules.specs.Lawful.{Grounds, LawfulStep, ByPacket}
use Rattle.once_law.proofs.Lists.{members_push}
use Rattle.once_law.proofs.Places.{line_at_read, entry_is_there}
use Rattle.once_law.proofs.Parts.{life, Holds}
use Rattle.once_law.proofs.Exporting.{rows_of}
use Rattle.once_law.proofs.Laws.{RuleLaws, Laws}
use Rattle.once_law.proofs.Arriving.{ComesAs, sent_can_arrive, frame_comes, damaged_frame_comes}
use Rattle.once_law.proofs.Works.{works-keeps}
use Rattle.once_law.proofs.Does.{does-keeps}
use Rattle.once_law.proofs.Calls.{either, reply_grounds}
use Rattle.once_law.proofs.Services.{served_reply}

-- Deliveries.

Holds-server_takes : (w : World) (k : ℕ) (p : Packet) → Holds w → IsRequest (known w) p → Holds (settled w (server_takes w k p))
unfolding server_takes
Holds-server_takes w k p h r =
    either w (ltb (length w.server.ready) READY_CELLS) _ _
    (λ room. record {
      names = h.names;
      reads = h.reads;
      lives = h.lives;
      lines = h.lines;
      unreturned = h.unreturned;
      marks = h.marks;
      sent = h.sent;
      ready = members_push (IsRequest (known w)) w.server.ready p h.ready r;
      workers = h.workers;
      entries = h.entries;
      told = h.told;
    })
    (λ full. h)

Holds-hears : RuleLaws → (w : World) (k : ℕ) (p : Packet) (c : Client) (l : Line) → Holds w → packet_at w.bag k ≡ Some p → p.to ≢ 1 → numbered 2 w.clients p.to ≡ Some c → numbered 1 c.lines (p.header.hint + 1) ≡ Some l → Holds (settled w (hears w k p c l (is_unused (on_packet l.caller p.header).act)))
Holds-hears laws w k p c l h there to ec el =
    either w (is_unused (on_packet l.caller p.header).act) _ _ (λ unused. h)
    (λ used. does-keeps w p.to (p.header.hint + 1) c c l (ByPacket k p) (heard p.to l p) h ec el refl (omega arith) (h.reads.read_first p.to c ec) tt
    (laws.packet (known w) p.to (p.header.hint + 1) l k p (sent_since l.caller.activity w.records.marks) (reply_grounds w h)
    (h.lines p.to (p.header.hint + 1) l (line_at_read w.clients p.to (p.header.hint + 1) c l ec el)) ((h.sent k p there).to_client to) there used))

Holds-line_takes : RuleLaws → (w : World) (k : ℕ) (p : Packet) (c : Client) (o : Option Line) → Holds w → packet_at w.bag k ≡ Some p → p.to ≢ 1 → numbered 2 w.clients p.to ≡ Some c → numbered 1 c.lines (p.header.hint + 1) ≡ o → Holds (settled w (line_takes w k p c o))
unfolding line_takes
Holds-line_takes laws w k p c None h there to ec el = h
Holds-line_takes laws w k p c (Some l) h there to ec el =
    either w (is_idle l.caller.state) _ _ (λ idle. h)
    (λ busy. either w (eqb l.caller.number p.header.call.number) _ _ (λ same. Holds-hears laws w k p c l h there to ec el) (λ other. h))

Holds-client_takes : RuleLaws → (w : World) (k : ℕ) (p : Packet) (o : Option Client) → Holds w → packet_at w.bag k ≡ Some p → p.to ≢ 1 → numbered 2 w.clients p.to ≡ o → Holds (settled w (client_takes w k p o))
unfolding client_takes
Holds-client_takes laws w k p None h there to e = h
Holds-client_takes laws w k p (Some c) h there to e =
    Holds-line_takes laws w k p c (numbered 1 c.lines (p.header.hint + 1)) h there to e refl

Holds-machine_takes : RuleLaws → (w : World) (k : ℕ) (p : Packet) → Holds w → packet_at w.bag k ≡ Some p → Holds (settled w (machine_takes w k p))
unfolding machine_takes
Holds-machine_takes laws w k p h there =
    either w (eqb p.to SERVER_MACHINE) _ _ (λ t. Holds-server_takes w k p h ((h.sent k p there).to_server (eqb-true p.to 1 t)))
    (λ f. Holds-client_takes laws w k p (numbered 2 w.clients p.to) h there (eqb-false p.to 1 f) refl)

-- a packet that was sent comes, or is dropped
Holds-takes_arrival : RuleLaws → (w : World) (k : ℕ) (p : Packet) (a : Arrival) → Holds w → packet_at w.bag k ≡ Some p → ComesAs p a → Holds (settled w (takes_arrival w k a))
Holds-takes_arrival laws w k p (Comes q) h there e = subst (λ r. Holds (settled w (machine_takes w k r))) (sym e) (Holds-machine_takes laws w k p h there)
Holds-takes_arrival laws w k p (Dropped why) h there e = h

pub Holds-deliver : Laws → (w : World) (k : ℕ) (o : Option Packet) → Holds w → packet_at w.bag k ≡ o → Holds (settled w (deliver_event w k o))
unfolding deliver_event
Holds-deliver laws w k None h e = h
Holds-deliver laws w k (Some p) h e =
    subst (λ a. Holds (settled w (takes_arrival w k a))) (sym (frame_comes laws.frames p (sent_can_arrive (h.sent k p e))))
    (Holds-machine_takes laws.rules w k p h e)

pub Holds-damage : Laws → (w : World) (k bit : ℕ) (o : Option Packet) → Holds w → packet_at w.bag k ≡ o → Holds (settled w (damage_event w k bit o))
unfolding damage_event
Holds-damage laws w k bit None h e = h
Holds-damage laws w k bit (Some p) h e =
    either w (ltb bit (8 * length (frame_of p))) _ _
    (λ within. Holds-takes_arrival laws.rules w k p (arrives p.to (flipped (frame_of p) bit)) h e (damaged_frame_comes laws.frames p bit (sent_can_arrive (h.sent k p e))))
    (λ beyond. h)

pub Holds-show : (w : World) (k : ℕ) (o : Option Packet) → Holds w → Holds (settled w (show_event w k o))
Holds-show w k None h = h
Holds-show w k (Some p) h = h

-- Workers.

-- what a worker's rows rest on
grounds : (w : World) (p : Packet) (e : Entry) → Holds w → entry_at w.server.entries p.header.call.activity ≡ Some e → Grounds (known w) (life w) p.header.call.activity e
grounds w p e h ee =
    record {
      one_start = h.names.one_start;
      entry = h.entries.each p.header.call.activity e ee;
      remembered = h.entries.remembered p.header.call.activity e ee;
      replies = h.told.replies;
    }

-- the first ready packet is taken
Holds-popped : (w : World) (p : Packet) (rest : List Packet) → Holds w → w.server.ready ≡ p ∷ rest → Holds (record w { server = record w.server { ready = rest } })
Holds-popped w p rest h er =
    record {
      names = h.names;
      reads = h.reads;
      lives = h.lives;
      lines = h.lines;
      unreturned = h.unreturned;
      marks = h.marks;
      sent = h.sent;
      ready = λ q c. h.ready q (subst (λ ps. Contains ps q) (sym er) (Contains-append_right (p ∷ []) rest q c));
      workers = h.workers;
      entries = h.entries;
      told = h.told;
    }

-- the service has another total
Holds-total : (w : World) (total : ℕ) → Holds w → Holds (record w { server = record w.server { total = total } })
Holds-total w total h =
    record {
      names = h.names;
      reads = h.reads;
      lives = h.lives;
      lines = h.lines;
      unreturned = h.unreturned;
      marks = h.marks;
      sent = h.sent;
      ready = h.ready;
      workers = h.workers;
      entries = h.entries;
      told = h.told;
    }

Holds-claims_next : Laws → (w : World) (n : ℕ) (ready : List Packet) → Holds w → numbered 1 w.server.workers n ≡ Some Resting → w.server.ready ≡ ready → Holds (settled w (claims_next w n ready))
unfolding claims_next
Holds-claims_next laws w n [] h en er = h
Holds-claims_next laws w n (p ∷ rest) h en er =
    let request : IsRequest (known w) p = h.ready p (subst (λ ps. Contains ps p) (sym er) (0, omega arith, refl)) in
    let t = entry_is_there w.server.entries p.header.call.activity h.entries.count request.has_entry in
    let popped : World = record w { server = record w.server { ready = rest } } in
    subst (λ o. Holds (settled popped (works popped n p (on_idle (asked_of w.server.exports.rows p) o p)))) (sym t.1)
    (works-keeps popped n Resting p t.0 (on_idle (asked_of w.server.exports.rows p) (Some t.0) p) (Holds-popped w p rest h er)
    (record { all = h.workers; there = en; only = λ q c. absurd (none-some q c); request = request; entry = t.1 })
    (laws.rules.idle (known w) (life w) w.server.exports.rows p t.0 request (rows_of laws.exports h.lives) (grounds w p t.0 h t.1)))

-- a worker with a packet does a step by its entry
Holds-works : (w : World) (n : ℕ) (v : Worker) (p : Packet) (step : Entry → Step) → Holds w → numbered 1 w.server.workers n ≡ Some v → carrier v ≡ Some p → ((e : Entry) → IsWorkerAt (known w) (life w) v e → IsRequest (known w) p) → ((e : Entry) → IsWorkerAt (known w) (life w) v e → Grounds (known w) (life w) p.header.call.activity e → LawfulStep (known w) (life w) w.server.exports.rows p v e (step e)) → Holds (settled w (works w n p (step (unwrap_or (entry_at w.server.entries p.header.call.activity) Empty))))
Holds-works w n v p step h en is request lawful =
    let own = h.workers.works n v en in
    let t = entry_is_there w.server.entries p.header.call.activity h.entries.count (own.has_entry p is) in
    let at : IsWorkerAt (known w) (life w) v t.0 = own.at_entry p is t.0 t.1 in
    subst (λ o. Holds (settled w (works w n p (step (unwrap_or o Empty))))) (sym t.1)
    (works-keeps w n v p t.0 (step t.0) h
    (record { all = h.workers; there = en; only = λ q c. same_Some q p (sym c ∙ is); request = request t.0 at; entry = t.1 })
    (lawful t.0 at (grounds w p t.0 h t.1)))

pub Holds-work : Laws → (w : World) (n : ℕ) (o : Option Worker) → Holds w → numbered 1 w.server.workers n ≡ o → Holds (settled w (work_event w n o))
unfolding work_event
Holds-work laws w n None h e = h
Holds-work laws w n (Some Resting) h e = Holds-claims_next laws w n w.server.ready h e refl
Holds-work laws w n (Some (Claimed p seen)) h e =
    Holds-works w n (Claimed p seen) p (on_claimed has_buffer p seen) h e refl (λ x at. at.request)
    (λ x at g. laws.rules.claimed (known w) (life w) w.server.exports.rows has_buffer p seen x at g)
Holds-work laws w n (Some (Took p)) h e =
    Holds-works w n (Took p) p (on_took p) h e refl (λ x at. at.0.request)
    (λ x at g. laws.rules.took (known w) (life w) w.server.exports.rows p x at g)
Holds-work laws w n (Some (Admitted p arguments)) h e =
    let s : Served = served w.server.total p.header.procedure arguments in
    Holds-works (record w { server = record w.server { total = s.total } }) n (Admitted p arguments) p (λ x. on_admitted has_buffer p arguments s.answer)
    (Holds-total w s.total h) e refl (λ x at. at.0.request)
    (λ x at g. laws.rules.admitted (known w) (life w) w.server.exports.rows has_buffer p arguments s.answer x (served_reply w.server.total p.header.procedure arguments) at g)
Holds-work laws w n (Some (Ran p answer)) h e =
    Holds-works w n (Ran p answer) p (λ x. on_ran p answer) h e refl (λ x at. at.0.request)
    (λ x at g. laws.rules.ran (known w) (life w) w.server.exports.rows p answer x at g)
Holds-work laws w n (Some (Fetched p)) h e =
    Holds-works w n (Fetched p) p (on_fetched p) h e refl (λ x at. at.0.request)
    (λ x at g. laws.rules.fetched (known w) (life w) w.server.exports.rows p x at g)
