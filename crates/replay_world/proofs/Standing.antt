-- What still stands for the world when something happens in it, and that outcomes were played.
use Rattle.std.proofs.Common.{◌≡◌, ℕ, ◌+◌, ◌-◌, ◌<◌, ◌≤◌, List, [], ◌∷◌, ◌++◌, map, length, get_or, set, drop, Bool, true, false, Option, Some, None, Result, Ok, Err, ap, sym, subst, refl, ◌∙◌, arith}
use Rattle.std.specs.Prelude.{OnOk, IfSome, filter, not, slice_get}
use Rattle.std.proofs.lemmas.List.{append-nil, append_assoc, length-map, length_push, length-drop, map-append, drop-append-le, drop-drop, get_or-drop}
use Rattle.std.proofs.lemmas.List.Elements.{filter-append}
use Rattle.std.proofs.lemmas.Bool.{cond-true, cond-false, lt-leb}
use Rattle.std.proofs.lemmas.Result.{on_ok_weaker}
use Rattle.call_rules.specs.Packet.{Call, Packet}
use Rattle.call_rules.specs.Worker.{Run}
use Rattle.replay_model.specs.declared.limits.TheConstants.{FIRST_CLIENT}
use Rattle.replay_model.specs.Record.{Act, Records, Counts, Start, Starts, Return, Returns, Failure, Unanswered, RefusedFor, HasRun, Fails, counts_of, no_records, recorded, is_unanswered}
use Rattle.replay_model.specs.World.{World, Server, Client, numbered, packet_at, booted_server, first_world}
use Rattle.replay_model.specs.Step.{Outcome, behind, with_packet}
use Rattle.replay_model.specs.Lines.{lines_of_act}
use Rattle.replay_model.specs.Digests.{RunDigest, run_digest}
use Rattle.replay_lines.specs.Counts.{counts_run, counts_return, counts_failure, counts_refusal}
use Rattle.replay_lines.specs.Page.{Page, written}
use Rattle.replay_packets.specs.Sent.{SentFrame, sent_of}
use Rattle.replay_world.specs.Kept.{kept_at}
use Rattle.replay_world.specs.Stored.{Stored, RoseByAtMost, Keeps, packets_of}
use Rattle.replay_world.specs.Stands.{Stands, IsServer, IsClient, AreClients}
use Rattle.replay_world.specs.Played.{Plays}
use Rattle.replay_world.proofs.Numbered.{numbered-none, numbered-some, numbered-at, numbered-mapped, set-there}
use Rattle.replay_world.proofs.Pages.{written-joined, written-nothing}
use Rattle.replay_world.proofs.Zips.{zip-at, zip-set}

-- two writes
two_add : (o o1 o2 : Page) (a b : List ℕ) → o1 ≡ written o a → o2 ≡ written o1 b → o2 ≡ written o (a ++ b)
two_add o o1 o2 a b e f = f ∙ (ap (λ (p : Page). written p b) e ∙ written-joined o a b)

-- nothing happens
pub plays_none : (before : Page) (s : Stored) (w : World) → Stands s w → Plays before before s w.records (record { world = w; acts = [] })
plays_none before s w h = record { printed = sym (written-nothing before); stands = h }

-- one thing happens
pub plays_one : (before after : Page) (s : Stored) (w : World) (r : Records) (a : Act) → after ≡ written before (lines_of_act a) → Stands s (record w { records = recorded r a })
    → Plays before after s r (record { world = w; acts = a ∷ [] })
plays_one before after s w r a e h = record { printed = e ∙ ap (written before) (sym (append-nil (lines_of_act a))); stands = h }

-- one thing happens before others
pub plays_behind : (before middle after : Page) (s : Stored) (r : Records) (a : Act) (o : Outcome) → middle ≡ written before (lines_of_act a) → Plays middle after s (recorded r a) o
    → Plays before after s r (behind a o)
plays_behind before middle after s r a o e h = record { printed = two_add before middle after _ _ e h.printed; stands = h.stands }

-- an outcome that is another's
pub plays_as : (before after : Page) (s : Stored) (r : Records) (o p : Outcome) → o ≡ p → Plays before after s r p → Plays before after s r o
plays_as before after s r o p e h = subst (Plays before after s r) (sym e) h

-- the frames that the player has, and those that are forgotten, are as many as the packets
pub same_count : (s : Stored) (w : World) → Stands s w → packets_of s ≡ length w.bag
same_count s w h =
    let few : s.forgotten ≤ length w.bag = h.few in
    let count : length s.bag ≡ length w.bag - s.forgotten = ap length h.bag ∙ (length-drop s.forgotten (map sent_of w.bag) ∙ ap (λ (n : ℕ). n - s.forgotten) (length-map w.bag sent_of)) in
    omega arith

-- what is recorded beside starts, runs, returns and failures
pub stands-beside : (s : Stored) (w : World) (r : Records) → r.started ≡ w.records.started → r.journal ≡ w.records.journal → counts_of r ≡ counts_of w.records → Stands s w
    → Stands s (record w { records = r })
stands-beside s w r started runs counts h =
    record {
      second = h.second;
      server = h.server;
      clients = h.clients;
      bag = h.bag;
      few = h.few;
      runs = h.runs ∙ ap (map run_digest) (sym runs);
      counts = h.counts ∙ sym counts;
      started = h.started ∙ sym (ap length started);
    }

-- a call is started
pub stands-start : (s : Stored) (w : World) (start : Start) → Stands s w → Stands (record s { started = s.started + 1 }) (record w { records = recorded w.records (Starts start) })
stands-start s w start h =
    record {
      second = h.second;
      server = h.server;
      clients = h.clients;
      bag = h.bag;
      few = h.few;
      runs = h.runs;
      counts = h.counts;
      started = ap (λ (n : ℕ). n + 1) h.started ∙ sym (length_push w.records.started start);
    }

-- the frames that the player has, where one more packet is sent
sent_behind : (n : ℕ) (bag : List Packet) (p : Packet) → n ≤ length bag → drop n (map sent_of (bag ++ p ∷ [])) ≡ drop n (map sent_of bag) ++ sent_of p ∷ []
sent_behind n bag p few =
    ap (drop n) (map-append sent_of bag (p ∷ []))
    ∙ drop-append-le n (map sent_of bag) (sent_of p ∷ []) (let count = length-map bag sent_of in omega arith)

-- one more packet is sent
pub stands-packet : (s : Stored) (w : World) (p : Packet) → Stands s w → Stands (record s { bag = s.bag ++ sent_of p ∷ [] }) (with_packet w p)
stands-packet s w p h =
    record {
      second = h.second;
      server = h.server;
      clients = h.clients;
      bag = ap (λ (x : List SentFrame). x ++ sent_of p ∷ []) h.bag ∙ sym (sent_behind s.forgotten w.bag p h.few);
      few = let more = length_push w.bag p in let few = h.few in omega arith;
      runs = h.runs;
      counts = h.counts;
      started = h.started;
    }

-- a body has run
pub stands-run : (s : Stored) (w : World) (run : Run) → Stands s w
    → Stands (record s { runs = s.runs ++ run_digest run ∷ []; counts = counts_run s.counts }) (record w { records = recorded w.records (HasRun run) })
stands-run s w run h =
    record {
      second = h.second;
      server = h.server;
      clients = h.clients;
      bag = h.bag;
      few = h.few;
      runs = ap (λ (x : List RunDigest). x ++ run_digest run ∷ []) h.runs ∙ sym (map-append run_digest w.records.journal (run ∷ []));
      counts = ap counts_run h.counts ∙ ap (λ (n : ℕ). record (counts_of w.records) { runs = n }) (sym (length_push w.records.journal run));
      started = h.started;
    }

-- the items that pass a test, with one more
counted : {A : Type 0} (p : A → Bool) (xs : List A) (x : A) → p x ≡ true → length (filter p (xs ++ x ∷ [])) ≡ length (filter p xs) + 1
counted {A} p xs x h = ap length (filter-append p xs (x ∷ []) ∙ ap (λ (ys : List A). filter p xs ++ ys) (cond-true _ _ _ h)) ∙ length_push (filter p xs) x

not_counted : {A : Type 0} (p : A → Bool) (xs : List A) (x : A) → p x ≡ false → length (filter p (xs ++ x ∷ [])) ≡ length (filter p xs)
not_counted {A} p xs x h = ap length (filter-append p xs (x ∷ []) ∙ (ap (λ (ys : List A). filter p xs ++ ys) (cond-false _ _ _ h) ∙ append-nil (filter p xs)))

abbrev was_signalled : Return → Bool
was_signalled x = x.signal

abbrev was_returned : Return → Bool
was_returned x = not x.signal

-- the counts with one more return
counts_more : (r : Records) (call : Call) (signal : Bool) (reply : List ℕ)
    → counts_return (counts_of r) signal ≡ counts_of (recorded r (Returns (record { call = call; signal = signal; reply = reply })))
counts_more r call true reply =
    let x : Return = record { call = call; signal = true; reply = reply } in
    ap (λ (n : ℕ). record (counts_of r) { signalled = n }) (sym (counted was_signalled r.returns x refl))
    ∙ ap (λ (n : ℕ). record (counts_of r) { signalled = length (filter was_signalled (r.returns ++ x ∷ [])); returned = n }) (sym (not_counted was_returned r.returns x refl))
counts_more r call false reply =
    let x : Return = record { call = call; signal = false; reply = reply } in
    ap (λ (n : ℕ). record (counts_of r) { returned = n }) (sym (counted was_returned r.returns x refl))
    ∙ ap (λ (n : ℕ). record (counts_of r) { returned = length (filter was_returned (r.returns ++ x ∷ [])); signalled = n }) (sym (not_counted was_signalled r.returns x refl))

-- a call has returned
pub stands-return : (s : Stored) (w : World) (call : Call) (signal : Bool) (reply : List ℕ) → Stands s w
    → Stands (record s { counts = counts_return s.counts signal }) (record w { records = recorded w.records (Returns (record { call = call; signal = signal; reply = reply })) })
stands-return s w call signal reply h =
    record {
      second = h.second;
      server = h.server;
      clients = h.clients;
      bag = h.bag;
      few = h.few;
      runs = h.runs;
      started = h.started;
      counts = ap (λ (n : Counts). counts_return n signal) h.counts ∙ counts_more w.records call signal reply;
    }

abbrev was_unanswered : Failure → Bool
was_unanswered f = is_unanswered f.cause

abbrev was_refused : Failure → Bool
was_refused f = not (is_unanswered f.cause)

-- a call has failed
pub stands-failure : (s : Stored) (w : World) (call : Call) → Stands s w
    → Stands (record s { counts = counts_failure s.counts }) (record w { records = recorded w.records (Fails call Unanswered) })
stands-failure s w call h =
    let f : Failure = record { call = call; cause = Unanswered; marks = w.records.marks } in
    let fs : List Failure = w.records.failures in
    record {
      second = h.second;
      server = h.server;
      clients = h.clients;
      bag = h.bag;
      few = h.few;
      runs = h.runs;
      started = h.started;
      counts =
          ap counts_failure h.counts
          ∙ (ap (λ (n : ℕ). record (counts_of w.records) { failed = n }) (sym (counted was_unanswered fs f refl))
          ∙ ap (λ (n : ℕ). record (counts_of w.records) { failed = length (filter was_unanswered (fs ++ f ∷ [])); refused = n }) (sym (not_counted was_refused fs f refl)));
    }

pub stands-refusal : (s : Stored) (w : World) (call : Call) (reason : ℕ) → Stands s w
    → Stands (record s { counts = counts_refusal s.counts }) (record w { records = recorded w.records (Fails call (RefusedFor reason)) })
stands-refusal s w call reason h =
    let f : Failure = record { call = call; cause = RefusedFor reason; marks = w.records.marks } in
    let fs : List Failure = w.records.failures in
    record {
      second = h.second;
      server = h.server;
      clients = h.clients;
      bag = h.bag;
      few = h.few;
      runs = h.runs;
      started = h.started;
      counts =
          ap counts_refusal h.counts
          ∙ (ap (λ (n : ℕ). record (counts_of w.records) { refused = n }) (sym (counted was_refused fs f refl))
          ∙ ap (λ (n : ℕ). record (counts_of w.records) { failed = n; refused = length (filter was_refused (fs ++ f ∷ [])) }) (sym (not_counted was_unanswered fs f refl)));
    }

-- what holds where two calls' clauses do
pub on_ok_both : {T E P Q R : Type 0} (r : Result T E) → (P → Q → R) → OnOk r P → OnOk r Q → OnOk r R
on_ok_both {T} {E} {P} {Q} {R} (Ok x) f p q = f p q
on_ok_both {T} {E} {P} {Q} {R} (Err e) f p q = tt

-- what holds at any answer
pub on_ok_always : {T E P : Type 0} (r : Result T E) → P → OnOk r P
on_ok_always {T} {E} {P} (Ok x) p = p
on_ok_always {T} {E} {P} (Err e) p = tt

-- no call was lost
pub none_lost : {T E : Type 0} (result : Result T E) (old new : Stored) → OnOk result (Keeps old new) → OnOk result (new.lost ≡ old.lost + 0)
none_lost {T} {E} result old new h = on_ok_weaker result (λ (k : Keeps old new). omega (arith, k.1)) h

-- the second has become another
pub stands-second : (s : Stored) (w : World) (second : ℕ) → Stands s w → Stands (record s { second = second }) (record w { second = second })
stands-second s w second h = record { second = refl; server = h.server; clients = h.clients; bag = h.bag; few = h.few; runs = h.runs; counts = h.counts; started = h.started }

-- more calls are lost
pub stands-lost : (s : Stored) (w : World) (lost : ℕ) → Stands s w → Stands (record s { lost = lost }) w
stands-lost s w lost h =
    record { second = h.second; server = h.server; clients = h.clients; bag = h.bag; few = h.few; runs = h.runs; counts = h.counts; started = h.started }

-- the server has become another
pub stands-server : (s : Stored) (w : World) (now server : Server) → Stands s w → IsServer now server → Stands (record s { server = now }) (record w { server = server })
stands-server s w now server h is = record { second = h.second; server = is; clients = h.clients; bag = h.bag; few = h.few; runs = h.runs; counts = h.counts; started = h.started }

-- the clients have become others
pub stands-clients : (s : Stored) (w : World) (now clients : List Client) → Stands s w → AreClients now clients → Stands (record s { clients = now }) (record w { clients = clients })
stands-clients s w now clients h are = record { second = h.second; server = h.server; clients = are; bag = h.bag; few = h.few; runs = h.runs; counts = h.counts; started = h.started }

-- the packet of a frame in the bag
pub sent_packet : (s : Stored) (w : World) (n place : ℕ) (sent : SentFrame) → Stands s w → s.forgotten + place + 1 ≡ n → place < length s.bag → sent ≡ get_or s.bag place sent
    → (p : Packet) × (packet_at w.bag n ≡ Some p) × (sent_of p ≡ sent)
sent_packet s w n place sent h at within is =
    let frames : List SentFrame = map sent_of w.bag in
    let low : 1 ≤ n = omega arith in
    let all : length frames ≡ length w.bag = length-map w.bag sent_of in
    let inside : n - 1 < length w.bag = omega (arith, same_count s w h) in
    let place_is : s.forgotten + place ≡ n - 1 = omega arith in
    let there : sent ≡ get_or frames (n - 1) sent = is ∙ (ap (λ (xs : List SentFrame). get_or xs place sent) h.bag ∙ (get_or-drop s.forgotten frames place sent ∙ ap (λ (i : ℕ). get_or frames i sent) place_is)) in
    let found = numbered-mapped sent_of 1 w.bag n low inside in
    (found.0, found.1, found.2 sent (numbered-some 1 frames n sent low (omega arith) there))

-- a packet that isn't forgotten
pub kept_at-there : (forgotten : ℕ) (bag : List Packet) (n : ℕ) → forgotten < n → kept_at forgotten bag n ≡ packet_at bag n
kept_at-there forgotten bag n h = cond-false _ _ _ (lt-leb n forgotten h)

-- where a packet is in the bag
pub place_at : (now s : Stored) (o : Option ℕ) (place n : ℕ) → now ≡ s → o ≡ Some place
    → IfSome o (λ k. (now.forgotten + k + 1 ≡ n) × (k < length now.bag)) → (s.forgotten + place + 1 ≡ n) × (place < length s.bag)
place_at now s o place n same is h =
    let P : Stored → Type 0 = λ x. (x.forgotten + place + 1 ≡ n) × (place < length x.bag) in
    let Q : Option ℕ → Type 0 = λ p. IfSome p (λ k. (now.forgotten + k + 1 ≡ n) × (k < length now.bag)) in
    subst P same (subst Q is h)

-- there is no packet of a number that is neither forgotten nor in the bag
pub no_packet : (s : Stored) (w : World) (n : ℕ) → Stands s w → packets_of s < n → packet_at w.bag n ≡ None
no_packet s w n h past = let count = same_count s w h in numbered-none 1 w.bag n (omega arith) (omega arith)

-- both machines' parts have become others
pub stands-machines : (s : Stored) (w : World) (now server : Server) (nows clients : List Client) → Stands s w → IsServer now server → AreClients nows clients
    → Stands (record s { server = now; clients = nows }) (record w { server = server; clients = clients })
stands-machines s w now server nows clients h is are = record { second = h.second; server = is; clients = are; bag = h.bag; few = h.few; runs = h.runs; counts = h.counts; started = h.started }

-- the client of a machine, by the one that the player has
pub record ClientOf (clients : List Client) (machine : ℕ) (stored : Client) (place : ℕ) : Type 0 where
  pub client : Client
  pub there : numbered FIRST_CLIENT clients machine ≡ Some client
  pub at_place : slice_get clients place ≡ Some client
  pub is_client : IsClient stored client

pub client_of : (xs clients : List Client) (machine place : ℕ) (stored : Client) → AreClients xs clients → FIRST_CLIENT ≤ machine → place ≡ machine - FIRST_CLIENT → place < length xs
    → stored ≡ get_or xs place stored → ClientOf clients machine stored place
client_of xs clients machine place stored are low at within is =
    let found = zip-at IsClient xs clients place stored are within is in
    record {
      client = found.item;
      there = numbered-at FIRST_CLIENT clients machine found.item low (ap (slice_get clients) (sym at) ∙ found.there);
      at_place = found.there;
      is_client = found.related;
    }

-- a client has become another
pub clients_with : (xs clients : List Client) (machine place : ℕ) (now client : Client) → AreClients xs clients → IsClient now client → place ≡ machine - FIRST_CLIENT
    → AreClients (set xs place now) (set clients (machine - FIRST_CLIENT) client)
clients_with xs clients machine place now client are is at =
    let P : ℕ → Type 0 = λ i. AreClients (set xs place now) (set clients i client) in
    subst P at (zip-set IsClient xs clients place now client are is)

-- a client is what it was
pub clients_same : (xs clients : List Client) (place : ℕ) (now before after : Client) → AreClients xs clients → IsClient now after → after ≡ before → slice_get clients place ≡ Some before
    → AreClients (set xs place now) clients
clients_same xs clients place now before after are is same there =
    let P : List Client → Type 0 = λ ys. AreClients (set xs place now) ys in
    subst P (ap (set clients place) same ∙ set-there clients place before there) (zip-set IsClient xs clients place now after are is)

-- what has risen by at most one has risen by at most a thousand, and so has what has risen by fewer
pub rose_more : {T E : Type 0} (result : Result T E) (n : ℕ) (old new : Stored) → n ≤ 1000 → OnOk result (RoseByAtMost n old new) → OnOk result (RoseByAtMost 1000 old new)
rose_more {T} {E} result n old new few h =
    on_ok_weaker result (λ (p : RoseByAtMost n old new).
    (omega (arith, p.0), (omega (arith, p.1.0), omega (arith, p.1.1), omega (arith, p.1.2), omega (arith, p.1.3), omega (arith, p.1.4)), omega (arith, p.2), omega (arith, p.3))) h

-- what stands for the first world
pub first_stands : (small long : ℕ) (server : Server) (clients : List Client) (forgotten : ℕ) (bag : List SentFrame) (runs : List RunDigest) (counts : Counts)
    → server ≡ booted_server small long 1 → AreClients clients (first_world small long).clients → forgotten ≡ 0 → bag ≡ [] → runs ≡ [] → counts ≡ counts_of no_records
    → Stands (record { second = 1; server = server; clients = clients; forgotten = forgotten; bag = bag; runs = runs; counts = counts; started = 0; lost = 0 }) (first_world small long)
first_stands small long server clients forgotten bag runs counts e f k g h i =
    record {
      second = refl;
      server = e;
      clients = f;
      bag = g ∙ sym (ap (λ (n : ℕ). drop n []) k);
      few = omega arith;
      runs = h;
      counts = i;
      started = refl;
    }

-- packets are forgotten
pub stands-forget : (s : Stored) (w : World) (n : ℕ) → n ≤ length s.bag → Stands s w → Stands (record s { forgotten = s.forgotten + n; bag = drop n s.bag }) w
stands-forget s w n within h =
    let count = same_count s w h in
    record {
      second = h.second;
      server = h.server;
      clients = h.clients;
      bag = ap (drop n) h.bag ∙ drop-drop n s.forgotten (map sent_of w.bag);
      few = omega arith;
      runs = h.runs;
      counts = h.counts;
      started = h.started;
    }
