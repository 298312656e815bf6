-- What workers own: no two own of one activity, and an entry in a worker's hands is in the phase that says so.
use Rattle.std.proofs.Common.{◌≡◌, ◌≢◌, ◌⊎◌, ℕ, ◌≤◌, List, Option, Some, None, true, false, refl, ap, sym, ◌∙◌, subst, inl, inr}
use Rattle.std.specs.Prelude.{unwrap_or, is_some, Contains}
use Rattle.std.proofs.lemmas.Option.{same_Some, none-some}
use Rattle.std.proofs.lemmas.Bool.{true≢false, both_ways, false_from_ne_true}
use Rattle.rpc_header.specs.declared.Activity.{Activity}
use Rattle.call_rules.specs.Packet.{Packet}
use Rattle.call_rules.specs.Entry.{Entry, word_of}
use Rattle.call_rules.specs.Worker.{Worker, Resting, Claimed, Took, Admitted, Ran, Fetched, Run}
use Rattle.replay_model.specs.Step.{exchanged}
use Rattle.replay_model.specs.World.{numbered, with_numbered, entry_at, is_entry_activity}
use Rattle.lawful_rules.specs.Known.{Known, Grows}
use Rattle.lawful_rules.specs.Facts.{Life, IsRequest, HasNotRun, carrier, IsWorkerAt}
use Rattle.lawful_rules.specs.Lawful.{owns, is_owned, IsLawfulRun}
use Rattle.once_law.proofs.Places.{numbered_read, numbered_set, entries_set}
use Rattle.once_law.proofs.Parts.{owned, OwnsElsewhere, IsWorker, Workers}
use Rattle.once_law.proofs.Grows.{IsWorkerAt-grows}

owned_by : (v : Worker) → owns v ≡ true → (p : Packet) × (owned v ≡ Some p)
owned_by Resting o = absurd (both_ways false refl o)
owned_by (Claimed p seen) o = absurd (both_ways false refl o)
owned_by (Took p) o = (p, refl)
owned_by (Admitted p arguments) o = (p, refl)
owned_by (Ran p answer) o = (p, refl)
owned_by (Fetched p) o = (p, refl)

owned_carries : (v : Worker) (p : Packet) → owned v ≡ Some p → carrier v ≡ Some p
owned_carries Resting p o = absurd (none-some p o)
owned_carries (Claimed q seen) p o = absurd (none-some p o)
owned_carries (Took q) p o = o
owned_carries (Admitted q arguments) p o = o
owned_carries (Ran q answer) p o = o
owned_carries (Fetched q) p o = o

owned_owns : (v : Worker) (p : Packet) → owned v ≡ Some p → owns v ≡ true
owned_owns Resting p o = absurd (none-some p o)
owned_owns (Claimed q seen) p o = absurd (none-some p o)
owned_owns (Took q) p o = refl
owned_owns (Admitted q arguments) p o = refl
owned_owns (Ran q answer) p o = refl
owned_owns (Fetched q) p o = refl

-- the entry of an owner is in a phase of which there is an owner
owned_phase : (k : Known) (f : Life) (v : Worker) (e : Entry) (p : Packet) → owned v ≡ Some p → IsWorkerAt k f v e → is_owned (word_of e).phase ≡ true
owned_phase k f Resting e p o h = absurd (none-some p o)
owned_phase k f (Claimed q seen) e p o h = absurd (none-some p o)
owned_phase k f (Took q) e p o h = ap (λ w. is_owned w.phase) h.2
owned_phase k f (Admitted q arguments) e p o h = ap (λ w. is_owned w.phase) h.1
owned_phase k f (Ran q answer) e p o h = ap (λ w. is_owned w.phase) h.1
owned_phase k f (Fetched q) e p o h = ap (λ w. is_owned w.phase) h.1

-- what is no owner doesn't ask which entry there is
no_owner_at : (k : Known) (f : Life) (v : Worker) (e x : Entry) → owns v ≡ false → IsWorkerAt k f v e → IsWorkerAt k f v x
no_owner_at k f Resting e x o h = tt
no_owner_at k f (Claimed p seen) e x o h = h
no_owner_at k f (Took p) e x o h = absurd (true≢false o)
no_owner_at k f (Admitted p arguments) e x o h = absurd (true≢false o)
no_owner_at k f (Ran p answer) e x o h = absurd (true≢false o)
no_owner_at k f (Fetched p) e x o h = absurd (true≢false o)

-- a worker carries no other packet than this
abbrev pub CarriesOnly : Packet → Worker → Type 0
CarriesOnly p v = (q : Packet) → carrier v ≡ Some q → q ≡ p

-- a run that is new is that of the worker's call, and leaves the entry
abbrev pub AreRunsBack : (k new : Known) → Packet → Worker → Option Entry → Type 0
AreRunsBack k new p v o = (r : Run) → Contains new.journal r → Contains k.journal r ⊎ (IsLawfulRun k p v r × (o ≡ None))

-- the place of a worker among all, with its packet and that packet's entry
pub record IsAt (k : Known) (f : Life) (entries : List Entry) (workers : List Worker) (i : ℕ) (v : Worker) (p : Packet) (e : Entry) : Type 0 where
  pub all : Workers k f entries workers
  pub there : numbered 1 workers i ≡ Some v
  pub only : CarriesOnly p v
  pub request : IsRequest k p
  pub entry : entry_at entries p.header.call.activity ≡ Some e

-- where a worker owns, or its entry has no owner, no other worker owns of its activity
pub others_elsewhere : {k : Known} {f : Life} {es : List Entry} {ws : List Worker} {i : ℕ} {v : Worker} {p : Packet} {e : Entry} → IsAt k f es ws i v p e → (owns v ≡ true) ⊎ (is_owned (word_of e).phase ≡ false) → (j : ℕ) (u : Worker) → numbered 1 ws j ≡ Some u → j ≢ i → OwnsElsewhere p.header.call.activity u
others_elsewhere {k} {f} {es} {ws} {i} {v} {p} {e} at (inl o) j u g ne =
    let mine = owned_by v o in
    subst (λ q. OwnsElsewhere q.header.call.activity u) (at.only mine.0 (owned_carries v mine.0 mine.1)) (at.all.apart i j v u at.there g (λ same. ne (sym same)) mine.0 mine.1)
others_elsewhere {k} {f} {es} {ws} {i} {v} {p} {e} at (inr free) j u g ne =
    λ q hq same. both_ways (is_owned (word_of e).phase) free
    (owned_phase k f u e q hq ((at.all.works j u g).at_entry q (owned_carries u q hq) e (ap (entry_at es) same ∙ at.entry)))

-- the worker of a run was admitted to it
pub admitted_at : {k : Known} {f : Life} {es : List Entry} {ws : List Worker} {i : ℕ} {v : Worker} {p : Packet} {e : Entry} → IsAt k f es ws i v p e → (r : Run) → IsLawfulRun k p v r → IsWorkerAt k f (Admitted p r.arguments) e
admitted_at {k} {f} {es} {ws} {i} {v} {p} {e} at r h =
    subst (λ u. IsWorkerAt k f u e) h.was_admitted ((at.all.works i v at.there).at_entry p (ap carrier h.was_admitted) e at.entry)

-- an admitted call of another worker is not that of a new run
not_run_elsewhere : {k : Known} {f : Life} {es : List Entry} {ws : List Worker} {i : ℕ} {v : Worker} {p : Packet} {e : Entry} (new : Known) (o : Option Entry) → IsAt k f es ws i v p e → AreRunsBack k new p v o → (j : ℕ) (u : Worker) → numbered 1 ws j ≡ Some u → j ≢ i → (q : Packet) (arguments : List ℕ) → u ≡ Admitted q arguments → HasNotRun k q → HasNotRun new q
not_run_elsewhere {k} {f} {es} {ws} {i} {v} {p} {e} new o at runs j u g ne q arguments is n r c same =
    elim (runs r c) [
      | inl old ↦ n r old same
      | inr own ↦ others_elsewhere at (inl (ap owns own.0.was_admitted)) j u g ne q (ap owned is) (ap (λ d. d.activity) (sym same ∙ own.0.same_call))
    ]

-- the worker's own entry after an exchange
exchanged_at : (es : List Entry) (a : Activity) (o : Option Entry) (e x : Entry) → entry_at es a ≡ Some e → entry_at (exchanged es a o) a ≡ Some x → unwrap_or o e ≡ x
exchanged_at es a None e x h g = same_Some e x (sym h ∙ g)
exchanged_at es a (Some y) e x h g =
    entries_set (λ b z. b ≡ a → y ≡ z) es a y (λ b z n ne same. absurd (ne same)) (λ same. refl) a x g refl

-- another worker after an exchange
other_at : {k : Known} {f : Life} {es : List Entry} {ws : List Worker} {i : ℕ} {v : Worker} {p : Packet} {e : Entry} (new : Known) (o : Option Entry) → IsAt k f es ws i v p e → Grows k new → AreRunsBack k new p v o → (is_some o ≡ true → (owns v ≡ true) ⊎ (is_owned (word_of e).phase ≡ false)) → (j : ℕ) (u : Worker) → numbered 1 ws j ≡ Some u → j ≢ i → (q : Packet) → carrier u ≡ Some q → (x : Entry) → entry_at (exchanged es p.header.call.activity o) q.header.call.activity ≡ Some x → IsWorkerAt new f u x
other_at {k} {f} {es} {ws} {i} {v} {p} {e} new None at g runs alone j u gu ne q c x h =
    IsWorkerAt-grows g f u x (not_run_elsewhere new None at runs j u gu ne) ((at.all.works j u gu).at_entry q c x h)
other_at {k} {f} {es} {ws} {i} {v} {p} {e} new (Some y) at g runs alone j u gu ne q c x h =
    entries_set (λ b z. b ≡ q.header.call.activity → IsWorkerAt new f u z) es p.header.call.activity y
    (λ b z n apart same. grown z (ap (entry_at es) (sym same) ∙ n))
    (λ same. no_owner_at new f u e y (false_from_ne_true (owns u) (λ o. no_owner o same)) (grown e (ap (entry_at es) (sym same) ∙ at.entry)))
    q.header.call.activity x h refl
  where
    grown : (z : Entry) → entry_at es q.header.call.activity ≡ Some z → IsWorkerAt new f u z
    grown z n = IsWorkerAt-grows g f u z (not_run_elsewhere new (Some y) at runs j u gu ne) ((at.all.works j u gu).at_entry q c z n)

    no_owner : owns u ≡ true → p.header.call.activity ≡ q.header.call.activity → ⊥
    no_owner o same =
        let t = owned_by u o in
        others_elsewhere at (alone refl) j u gu ne t.0 t.1 (ap (λ k. k.header.call.activity) (same_Some t.0 q (sym (owned_carries u t.0 t.1) ∙ c)) ∙ sym same)

-- one worker is written, and owns of an activity of which no other does
apart_set : (ws : List Worker) (i : ℕ) (v : Worker) → 1 ≤ i → ((j k : ℕ) (a b : Worker) → numbered 1 ws j ≡ Some a → numbered 1 ws k ≡ Some b → j ≢ k → (p : Packet) → owned a ≡ Some p → OwnsElsewhere p.header.call.activity b) → ((j : ℕ) (u : Worker) → numbered 1 ws j ≡ Some u → j ≢ i → (p : Packet) → owned v ≡ Some p → OwnsElsewhere p.header.call.activity u) → (j k : ℕ) (a b : Worker) → numbered 1 (with_numbered 1 ws i v) j ≡ Some a → numbered 1 (with_numbered 1 ws i v) k ≡ Some b → j ≢ k → (p : Packet) → owned a ≡ Some p → OwnsElsewhere p.header.call.activity b
apart_set ws i v low old new j k a b ha hb ne p hp =
    numbered_set (λ j a. (k : ℕ) (b : Worker) → numbered 1 (with_numbered 1 ws i v) k ≡ Some b → j ≢ k → (p : Packet) → owned a ≡ Some p → OwnsElsewhere p.header.call.activity b) 1 ws i v low
    (λ j a ga nj k b hb ne p hp. numbered_set (λ k b. j ≢ k → OwnsElsewhere p.header.call.activity b) 1 ws i v low
    (λ k b gb nk ne. old j k a b ga gb ne p hp) (λ ne q hq e. new j a ga nj q hq p hp (sym e)) k b hb ne)
    (λ k b hb ne p hp. numbered_set (λ k b. i ≢ k → OwnsElsewhere p.header.call.activity b) 1 ws i v low
    (λ k b gb nk ne. new k b gb nk p hp) (λ ne. absurd (ne refl)) k b hb ne)
    j a ha k b hb ne p hp

-- a worker does a step that is its owner's, or finds no owner
pub Workers-after : {k : Known} {f : Life} {es : List Entry} {ws : List Worker} {i : ℕ} {v : Worker} {p : Packet} {e : Entry} (new : Known) (o : Option Entry) (u : Worker) → IsAt k f es ws i v p e → Grows k new → AreRunsBack k new p v o → CarriesOnly p u → IsWorkerAt new f u (unwrap_or o e) → ((is_some o ≡ true) ⊎ (owns u ≡ true) → (owns v ≡ true) ⊎ (is_owned (word_of e).phase ≡ false)) → Workers new f (exchanged es p.header.call.activity o) (with_numbered 1 ws i u)
Workers-after {k} {f} {es} {ws} {i} {v} {p} {e} new o u at g runs only hu alone =
    record {
      works = numbered_set (λ j x. IsWorker new f (exchanged es p.header.call.activity o) x) 1 ws i u low
          (λ j x gx ne. record { has_entry = (at.all.works j x gx).has_entry; at_entry = other_at new o at g runs (λ s. alone (inl s)) j x gx ne })
          (record {
            has_entry = λ q c. subst (λ x. is_entry_activity x.header.call.activity ≡ true) (sym (only q c)) at.request.has_entry;
            at_entry = λ q c x h. subst (IsWorkerAt new f u)
                (exchanged_at es p.header.call.activity o e x at.entry (ap (λ y. entry_at (exchanged es p.header.call.activity o) y.header.call.activity) (sym (only q c)) ∙ h)) hu;
          });
      apart = apart_set ws i u low at.all.apart
          (λ j x gx ne q hq. subst (λ y. OwnsElsewhere y.header.call.activity x) (sym (only q (owned_carries u q hq)))
          (others_elsewhere at (alone (inr (owned_owns u q hq))) j x gx ne));
    }
  where
    low : 1 ≤ i
    low = (numbered_read 1 ws i v at.there).0

-- no worker does a step, and there is no new run
pub Workers-known : {k new : Known} {f : Life} {es : List Entry} {ws : List Worker} → Grows k new → ((r : Run) → Contains new.journal r → Contains k.journal r) → Workers k f es ws → Workers new f es ws
Workers-known {k} {new} {f} g back h =
    record {
      works = λ i v e. record {
        has_entry = (h.works i v e).has_entry;
        at_entry = λ p c x y. IsWorkerAt-grows g f v x (λ q arguments is n r d. n r (back r d)) ((h.works i v e).at_entry p c x y);
      };
      apart = h.apart;
    }
