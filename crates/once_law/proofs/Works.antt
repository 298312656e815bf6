-- Each lawful step of a worker keeps the invariant.
use Rattle.std.proofs.Common.{◌≡◌, ℕ, ◌≤◌, List, [], ◌∷◌, ◌++◌, length, map, Option, Some, None, refl, ap, sym, ◌∙◌, subst, arith, inl, inr}
use Rattle.std.specs.Prelude.{Contains}
use Rattle.std.proofs.lemmas.Option.{same_Some, none-some}
use Rattle.std.proofs.lemmas.List.Elements.{Contains-push_cases}
use Rattle.rpc_header.specs.declared.Activity.{Activity}
use Rattle.binder.specs.declared.row.ExportRow.{ExportRow}
use Rattle.binder.specs.Exports.{Exports}
use Rattle.call_rules.specs.Packet.{Packet}
use Rattle.call_rules.specs.Entry.{Entry, word_of}
use Rattle.call_rules.specs.declared.worker.Did.{Did}
use Rattle.call_rules.specs.Worker.{Worker, Run, Adds, Nothing, ARun, APacket, ARejection, Step}
use Rattle.replay_model.specs.Once.{NoneTwice, call_of_run}
use Rattle.replay_model.specs.Record.{Start, Return, Failure}
use Rattle.replay_model.specs.Step.{exchanged, settled, works}
use Rattle.replay_model.specs.World.{World, Client, with_numbered, packet_at, entry_at}
use Rattle.lawful_rules.specs.Known.{Known, Grows, known, next_packet, with_adds}
use Rattle.lawful_rules.specs.Facts.{Life, IsSent, IsAnswer, IsEntry, Remembers}
use Rattle.lawful_rules.specs.Lawful.{Advances, IsLawfulRun, AreLawfulAdds, LawfulStep}
use Rattle.once_law.proofs.Lists.{none_twice_push}
use Rattle.once_law.proofs.Places.{entries_set, length-with_entry, packet_cases}
use Rattle.once_law.proofs.Parts.{life, Names, Reads, Lives, Sent, RemembersRuns, Entries, IsStartedRun, Told, Holds}
use Rattle.once_law.proofs.Grows.{Grows-with_adds, HasRun-grows, IsStartedRun-grows, IsRequest-grows, IsSent-grows, IsEntry-grows, IsLine-grows, IsMarked-grows, FailedFor-grows}
use Rattle.once_law.proofs.Owning.{AreRunsBack, IsAt, admitted_at, Workers-after}

-- What a step adds: no start, at most a run, at most a packet.

starts_back : (k : Known) (rows : List (Option ExportRow)) (a : Adds) (s : Start) → Contains (with_adds k rows a).started s → Contains k.started s
starts_back k rows Nothing s c = c
starts_back k rows _ s c = c

runs_back : (k : Known) (rows : List (Option ExportRow)) (p : Packet) (v : Worker) (o : Option Entry) (a : Adds) → AreLawfulAdds k rows p v o a → AreRunsBack k (with_adds k rows a) p v o
runs_back k rows p v o (ARun x) h r c =
    elim (Contains-push_cases k.journal x r c) [ inl old ↦ inl old | inr e ↦ inr (subst (IsLawfulRun k p v) e h.0, h.1) ]
runs_back k rows p v o _ h r c = inl c

answer_sent : {k : Known} {n : ℕ} {p : Packet} → IsAnswer k n p → IsSent k n p
answer_sent h = record { to_server = λ e. absurd (h.to_client e); to_client = λ ne. h }

-- a packet that was sent is one of those before, or the new one
sent_push : (k new : Known) (q : Packet) → Sent k → Grows k new → IsAnswer new (next_packet k) q → (n : ℕ) (p : Packet) → packet_at (k.bag ++ q ∷ []) n ≡ Some p → IsSent new n p
sent_push k new q h g a n p e =
    elim (packet_cases k.bag q n p e) [
      | inl old ↦ IsSent-grows g (h n p old)
      | inr x ↦ subst (λ m. IsSent new m p) (sym x.0) (subst (IsSent new (next_packet k)) x.1 (answer_sent a))
    ]

Sent-after : (k : Known) (rows : List (Option ExportRow)) (p : Packet) (v : Worker) (o : Option Entry) (a : Adds) → Sent k → AreLawfulAdds k rows p v o a → Sent (with_adds k rows a)
Sent-after k rows p v o Nothing h l = h
Sent-after k rows p v o (ARun x) h l = λ n q e. IsSent-grows (Grows-with_adds k rows (ARun x)) (h n q e)
Sent-after k rows p v o (APacket x) h l = sent_push k (with_adds k rows (APacket x)) x h (Grows-with_adds k rows (APacket x)) l
Sent-after k rows p v o (ARejection x) h l = sent_push k (with_adds k rows (ARejection x)) x h (Grows-with_adds k rows (ARejection x)) l

-- no call runs twice, since what was admitted has not run
runs_once_after : {k : Known} {f : Life} {es : List Entry} {ws : List Worker} {i : ℕ} {v : Worker} {p : Packet} {e : Entry} (rows : List (Option ExportRow)) (o : Option Entry) (a : Adds) → IsAt k f es ws i v p e → AreLawfulAdds k rows p v o a → NoneTwice (map call_of_run k.journal) → NoneTwice (map call_of_run (with_adds k rows a).journal)
runs_once_after {k} rows o (ARun x) at l h =
    none_twice_push call_of_run k.journal x h (λ r c same. (admitted_at at x l.0).3 r c (same ∙ l.0.same_call))
runs_once_after rows o _ at l h = h

-- The parts.

started_run : {k : Known} {f : Life} {es : List Entry} {ws : List Worker} {i : ℕ} {v : Worker} {p : Packet} {e : Entry} → IsAt k f es ws i v p e → (r : Run) → IsLawfulRun k p v r → IsStartedRun k r
started_run {k} {f} {es} {ws} {i} {v} {p} at r h =
    record {
      start = record { call = p.header.call; export = p.header.export; procedure = p.header.procedure; arguments = r.arguments };
      is_listed = (admitted_at at r h).2;
      same_call = sym h.same_call;
      same_procedure = sym h.same_procedure;
      same_arguments = refl;
    }

Told-after : {k : Known} {f : Life} {es : List Entry} {ws : List Worker} {i : ℕ} {v : Worker} {p : Packet} {e : Entry} (rows : List (Option ExportRow)) (o : Option Entry) (a : Adds) (returns : List Return) (failures : List Failure) → IsAt k f es ws i v p e → AreLawfulAdds k rows p v o a → Told k returns failures → Told (with_adds k rows a) returns failures
Told-after {k} {f} {es} {ws} {i} {v} {p} rows o a returns failures at l h =
    let g = Grows-with_adds k rows a in
    record {
      runs_started = λ r c. elim (runs_back k rows p v o a l r c) [
        | inl old ↦ IsStartedRun-grows g (h.runs_started r old)
        | inr new ↦ IsStartedRun-grows g (started_run at r new.0)
      ];
      replies = λ r c. elim (runs_back k rows p v o a l r c) [ inl old ↦ h.replies r old | inr new ↦ new.0.has_reply ];
      runs_once = runs_once_after rows o a at l h.runs_once;
      returns_run = λ x c. HasRun-grows g (h.returns_run x c);
      returns_once = h.returns_once;
      failed = λ x c. FailedFor-grows g x x.cause (h.failed x c);
    }

Lives-after : {k : Known} {f : Life} {es : List Entry} {ws : List Worker} {i : ℕ} {v : Worker} {p : Packet} {e : Entry} (second : ℕ) (exports : Exports) (o : Option Entry) (a : Adds) (clients : List Client) → IsAt k f es ws i v p e → AreLawfulAdds k exports.rows p v o a → Names clients k.started → Lives second f exports k.started k.journal → Lives second f exports (with_adds k exports.rows a).started (with_adds k exports.rows a).journal
Lives-after {k} {f} {es} {ws} {i} {v} {p} second exports o a clients at l names h =
    record {
      boot_first = h.boot_first;
      read_first = h.read_first;
      second_fits = h.second_fits;
      sound = h.sound;
      next_read = h.next_read;
      runs_read = λ r c s cs same. elim (runs_back k exports.rows p v o a l r c) [
        | inl old ↦ h.runs_read r old s (starts_back k exports.rows a s cs) same
        | inr new ↦ read_by r new.0 s (starts_back k exports.rows a s cs) same
      ];
    }
  where
    read_by : (r : Run) → IsLawfulRun k p v r → (s : Start) → Contains k.started s → s.call ≡ r.call → s.export.identifier ≤ f.read
    read_by r new s cs same =
        let w = admitted_at at r new in
        let e = names.one_start s (record { call = p.header.call; export = p.header.export; procedure = p.header.procedure; arguments = r.arguments }) cs w.2 (same ∙ new.same_call) in
        subst (λ n. n ≤ f.read) (sym (ap (λ t. t.export.identifier) e)) w.0.up_to_read

Reads-after : (k : Known) (rows : List (Option ExportRow)) (a : Adds) (second : ℕ) (clients : List Client) → Reads second clients k.started → Reads second clients (with_adds k rows a).started
Reads-after k rows a second clients h =
    record { read_first = h.read_first; below_read = λ m c e s cs. h.below_read m c e s (starts_back k rows a s cs) }

Names-after : (k : Known) (rows : List (Option ExportRow)) (a : Adds) (clients : List Client) → Names clients k.started → Names clients (with_adds k rows a).started
Names-after k rows a clients h =
    record {
      below_next = λ m p l e s c. h.below_next m p l e s (starts_back k rows a s c);
      one_start = λ s t cs ct. h.one_start s t (starts_back k rows a s cs) (starts_back k rows a t ct);
    }

-- an entry remembers the run that a worker was admitted to by it
new_remembered : {k : Known} {f : Life} {es : List Entry} {ws : List Worker} {i : ℕ} {v : Worker} {p : Packet} {e : Entry} → IsAt k f es ws i v p e → (r : Run) → IsLawfulRun k p v r → Remembers (word_of e) r.call.number
new_remembered {k} {f} {es} {ws} {i} {v} {p} {e} at r h =
    let reaches : r.call.number ≤ p.header.call.number = omega (arith, ap (λ c. c.number) h.same_call) in
    subst (λ w. Remembers w r.call.number) (sym ((admitted_at at r h).1)) reaches

length-exchanged : (es : List Entry) (a : Activity) (o : Option Entry) → length (exchanged es a o) ≡ length es
length-exchanged es a None = refl
length-exchanged es a (Some x) = length-with_entry es a x

abbrev IsNewEntry : (k new : Known) → Activity → (old : Entry) → Option Entry → Type 0
IsNewEntry k new a e o = (x : Entry) → o ≡ Some x → IsEntry new a x × Advances (word_of e) (word_of x)

each_after : {k : Known} {f : Life} {es : List Entry} {ws : List Worker} {i : ℕ} {v : Worker} {p : Packet} {e : Entry} (new : Known) (o : Option Entry) → IsAt k f es ws i v p e → Grows k new → IsNewEntry k new p.header.call.activity e o → Entries k f es → (b : Activity) (x : Entry) → entry_at (exchanged es p.header.call.activity o) b ≡ Some x → IsEntry new b x
each_after new None at g n h b x e = IsEntry-grows g b x (h.each b x e)
each_after {k} {f} {es} {ws} {i} {v} {p} new (Some y) at g n h b x e =
    entries_set (IsEntry new) es p.header.call.activity y (λ c z f ne. IsEntry-grows g c z (h.each c z f)) (n y refl).0 b x e

remembered_after : {k : Known} {f : Life} {es : List Entry} {ws : List Worker} {i : ℕ} {v : Worker} {p : Packet} {e : Entry} (rows : List (Option ExportRow)) (o : Option Entry) (a : Adds) → IsAt k f es ws i v p e → AreLawfulAdds k rows p v o a → IsNewEntry k (with_adds k rows a) p.header.call.activity e o → Entries k f es → (b : Activity) (x : Entry) → entry_at (exchanged es p.header.call.activity o) b ≡ Some x → RemembersRuns (with_adds k rows a) f b x
remembered_after {k} {f} {es} {ws} {i} {v} {p} {e} rows None a at l n h b x ex r c same s cs es' boot =
    elim (runs_back k rows p v None a l r c) [
      | inl old ↦ h.remembered b x ex r old same s (starts_back k rows a s cs) es' boot
      | inr new ↦ subst (λ y. Remembers (word_of y) r.call.number)
          (same_Some e x (sym at.entry ∙ ap (entry_at es) (ap (λ d. d.activity) (sym new.0.same_call) ∙ same) ∙ ex)) (new_remembered at r new.0)
    ]
remembered_after {k} {f} {es} {ws} {i} {v} {p} {e} rows (Some y) a at l n h b x ex r c same s cs es' boot =
    elim (runs_back k rows p v (Some y) a l r c) [
      | inl old ↦ entries_set (λ d z. r.call.activity ≡ d → Remembers (word_of z) r.call.number) es p.header.call.activity y
          (λ d z g ne here. h.remembered d z g r old here s (starts_back k rows a s cs) es' boot)
          (λ here. (n y refl).1 r.call.number (h.remembered p.header.call.activity e at.entry r old here s (starts_back k rows a s cs) es' boot))
          b x ex same
      | inr new ↦ absurd (none-some y (sym new.1))
    ]

Entries-after : {k : Known} {f : Life} {es : List Entry} {ws : List Worker} {i : ℕ} {v : Worker} {p : Packet} {e : Entry} (rows : List (Option ExportRow)) (o : Option Entry) (a : Adds) → IsAt k f es ws i v p e → AreLawfulAdds k rows p v o a → IsNewEntry k (with_adds k rows a) p.header.call.activity e o → Entries k f es → Entries (with_adds k rows a) f (exchanged es p.header.call.activity o)
Entries-after {k} {f} {es} {ws} {i} {v} {p} {e} rows o a at l n h =
    record {
      count = length-exchanged es p.header.call.activity o ∙ h.count;
      each = each_after (with_adds k rows a) o at (Grows-with_adds k rows a) n h;
      remembered = remembered_after rows o a at l n h;
    }

-- The world after a step.
abbrev worked : World → (who : ℕ) → Packet → Worker → Option Entry → Adds → World
worked w who p u o a =
    let k : Known = with_adds (known w) w.server.exports.rows a in
    record w {
      server = record w.server {
        workers = with_numbered 1 w.server.workers who u;
        entries = exchanged w.server.entries p.header.call.activity o;
      };
      bag = k.bag;
      records = record w.records { started = k.started; journal = k.journal; rejects = k.rejects };
    }

worked_is : (w : World) (who : ℕ) (p : Packet) (u : Worker) (o : Option Entry) (d : Did) (a : Adds) → settled w (works w who p (record { worker = u; entry = o; did = d; adds = a })) ≡ worked w who p u o a
unfolding works
worked_is w who p u o d Nothing = refl
worked_is w who p u o d (ARun r) = refl
worked_is w who p u o d (APacket q) = refl
worked_is w who p u o d (ARejection q) = refl

pub works-keeps : (w : World) (who : ℕ) (v : Worker) (p : Packet) (e : Entry) (s : Step) → Holds w → IsAt (known w) (life w) w.server.entries w.server.workers who v p e → LawfulStep (known w) (life w) w.server.exports.rows p v e s → Holds (settled w (works w who p s))
works-keeps w who v p e s h at l =
    let rows : List (Option ExportRow) = w.server.exports.rows in
    let g = Grows-with_adds (known w) rows s.adds in
    subst Holds (sym (worked_is w who p s.worker s.entry s.did s.adds))
    (record {
      names = Names-after (known w) rows s.adds w.clients h.names;
      reads = Reads-after (known w) rows s.adds w.second w.clients h.reads;
      lives = Lives-after w.second w.server.exports s.entry s.adds w.clients at l.adds h.names h.lives;
      lines = λ m q x y. IsLine-grows g (h.lines m q x y);
      unreturned = h.unreturned;
      marks = λ m q x y. IsMarked-grows g x.caller _ (h.marks m q x y);
      sent = Sent-after (known w) rows p v s.entry s.adds h.sent l.adds;
      ready = λ q c. IsRequest-grows g (h.ready q c);
      workers = Workers-after (with_adds (known w) rows s.adds) s.entry s.worker at g (runs_back (known w) rows p v s.entry s.adds l.adds) l.carries l.worker
          (λ o. l.alone (elim o [ inl x ↦ inl x | inr x ↦ inr (inl x) ]));
      entries = Entries-after rows s.entry s.adds at l.adds l.entry h.entries;
      told = Told-after rows s.entry s.adds w.records.returns w.records.failures at l.adds h.told;
    })
