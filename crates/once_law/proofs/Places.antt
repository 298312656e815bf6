-- The world's maps: what a process, an entry or a worker is after a write of one of them.
use Rattle.std.proofs.Common.{◌≡◌, ◌≢◌, ◌⊎◌, ℕ, ◌+◌, ◌-◌, ◌≤◌, List, [], ◌∷◌, ◌++◌, length, refl, ap, sym, ◌∙◌, subst, arith, Some, None, inl, inr, Bool, true, false, ltb, cond, ltb-false, get_or}
use Rattle.std.specs.Prelude.{slice_get, slice_set, Contains}
use Rattle.std.proofs.lemmas.Option.{none-some, option_and_then_some, slice_get-get_or, slice_get_read}
use Rattle.std.proofs.lemmas.Bool.{le-ltb, false≢true}
use Rattle.std.proofs.lemmas.Bool.Decides.{nat_tests}
use Rattle.std.proofs.lemmas.List.{length-set}
use Rattle.once_law.proofs.Lists.{places_set, contains_read, slice_get_front, slice_get_last, slice_get_push_cases}
use Rattle.rpc_header.specs.declared.Activity.{Activity}
use Rattle.call_rules.specs.Entry.{Entry, Empty}
use Rattle.call_rules.specs.Packet.{Packet}
use Rattle.replay_model.specs.Process.{Line}
use Rattle.replay_model.specs.World.{Client, numbered, with_numbered, packet_at, line_at, entry_at, with_entry, is_entry_activity, entry_place}

-- a number that has an item is not below the first, and the item stands at its place
pub numbered_read : {A : Type 0} (from : ℕ) (xs : List A) (n : ℕ) (x : A) → numbered from xs n ≡ Some x → (from ≤ n) × (slice_get xs (n - from) ≡ Some x)
numbered_read from xs n x h = go (ltb n from) refl h
  where
    go : (b : Bool) → ltb n from ≡ b → cond b None (slice_get xs (n - from)) ≡ Some x → (from ≤ n) × (slice_get xs (n - from) ≡ Some x)
    go true e g = absurd (none-some x g)
    go false e g = (ltb-false n from e, g)

pub numbered_at : {A : Type 0} (from : ℕ) (xs : List A) (n : ℕ) (x : A) → from ≤ n → slice_get xs (n - from) ≡ Some x → numbered from xs n ≡ Some x
numbered_at from xs n x l h = rw (le-ltb n from l) h

-- what holds of each numbered item, also after a write
pub numbered_set : {A : Type 0} (P : ℕ → A → Type 0) (from : ℕ) (xs : List A) (n : ℕ) (a : A) → from ≤ n → ((m : ℕ) (x : A) → numbered from xs m ≡ Some x → m ≢ n → P m x) → P n a → (m : ℕ) (x : A) → numbered from (with_numbered from xs n a) m ≡ Some x → P m x
numbered_set {A} P from xs n a l old new m x h =
    let r = numbered_read from (with_numbered from xs n a) m x h in
    places_set (λ k y. (i : ℕ) → from ≤ i → i - from ≡ k → P i y) xs (n - from) a
    (λ k y g ne i li e. old i y (numbered_at from xs i y li (rw e g)) (λ same. ne (omega arith)))
    (λ i li e. subst (λ j. P j a) (omega arith) new)
    (m - from) x r.1 m r.0 refl

pub contains_numbered : {A : Type 0} (from : ℕ) (xs : List A) (n : ℕ) (x : A) → numbered from xs n ≡ Some x → Contains xs x
contains_numbered from xs n x h = contains_read xs (n - from) x (numbered_read from xs n x h).1

-- the process of a client
pub line_at_read : (cs : List Client) (machine process : ℕ) (c : Client) (l : Line) → numbered 2 cs machine ≡ Some c → numbered 1 c.lines process ≡ Some l → line_at cs machine process ≡ Some l
line_at_read cs machine process c l e g = rw e g

-- what holds of each process, also after its client was written
pub lines_set_client : (P : ℕ → ℕ → Line → Type 0) (cs : List Client) (machine : ℕ) (c : Client) → 2 ≤ machine → ((m p : ℕ) (l : Line) → line_at cs m p ≡ Some l → m ≢ machine → P m p l) → ((p : ℕ) (l : Line) → numbered 1 c.lines p ≡ Some l → P machine p l) → (m p : ℕ) (l : Line) → line_at (with_numbered 2 cs machine c) m p ≡ Some l → P m p l
lines_set_client P cs machine c low old new m p l h =
    option_and_then_some {P = P m p l} (λ (d : Client). numbered 1 d.lines p) (numbered 2 (with_numbered 2 cs machine c) m) l h
    (λ d e g. numbered_set (λ n d'. numbered 1 d'.lines p ≡ Some l → P n p l) 2 cs machine c low
    (λ n d' e' ne g'. old n p l (line_at_read cs n p d' l e' g') ne) (λ g'. new p l g') m d e g)

-- what holds of each process, also after one was written
pub lines_set : (P : ℕ → ℕ → Line → Type 0) (cs : List Client) (machine process : ℕ) (c d : Client) (a b : Line) → numbered 2 cs machine ≡ Some c → numbered 1 c.lines process ≡ Some a → d.lines ≡ with_numbered 1 c.lines process b → ((m p : ℕ) (l : Line) → line_at cs m p ≡ Some l → (m ≡ machine → p ≡ process → ⊥) → P m p l) → P machine process b → (m p : ℕ) (l : Line) → line_at (with_numbered 2 cs machine d) m p ≡ Some l → P m p l
lines_set P cs machine process c d a b ec ea ed old new =
    lines_set_client P cs machine d (numbered_read 2 cs machine c ec).0
    (λ m p l h ne. old m p l h (λ e f. ne e))
    (λ p l h. numbered_set (λ q k. P machine q k) 1 c.lines process b (numbered_read 1 c.lines process a ea).0
    (λ q k g ne. old machine q k (line_at_read cs machine q c k ec g) (λ e f. ne f)) new p l (rw ed at h))

-- an activity that has an entry is one of the places
pub entry_at_read : (es : List Entry) (a : Activity) (e : Entry) → entry_at es a ≡ Some e → (is_entry_activity a ≡ true) × (slice_get es (entry_place a) ≡ Some e)
entry_at_read es a e h = go (is_entry_activity a) refl h
  where
    go : (b : Bool) → is_entry_activity a ≡ b → cond b (slice_get es (entry_place a)) None ≡ Some e → (is_entry_activity a ≡ true) × (slice_get es (entry_place a) ≡ Some e)
    go true i g = (i, g)
    go false i g = absurd (none-some e g)

pub entry_at_from : (es : List Entry) (a : Activity) (e : Entry) → is_entry_activity a ≡ true → slice_get es (entry_place a) ≡ Some e → entry_at es a ≡ Some e
entry_at_from es a e i h = rw i h

pub record InRange (a : Activity) : Type 0 where
  pub first_machine : 2 ≤ a.machine
  pub last_machine : a.machine ≤ 9
  pub first_process : 1 ≤ a.process
  pub last_process : a.process ≤ 8

pub in_range : (a : Activity) → is_entry_activity a ≡ true → InRange a
in_range a h =
    record {
      first_machine = grind (arith, nat_tests);
      last_machine = grind (arith, nat_tests);
      first_process = grind (arith, nat_tests);
      last_process = grind (arith, nat_tests);
    }

same_activity : (a b : Activity) → a.machine ≡ b.machine → a.process ≡ b.process → a ≡ b
same_activity a b p q = λ i. record { machine = p i; process = q i }

-- two activities do not have one entry
pub same_place : (a b : Activity) → is_entry_activity a ≡ true → is_entry_activity b ≡ true → entry_place a ≡ entry_place b → a ≡ b
same_place a b ia ib h =
    let ra = in_range a ia in
    let rb = in_range b ib in
    same_activity a b (omega arith) (omega arith)

-- what holds of each entry, also after a write
pub entries_set : (P : Activity → Entry → Type 0) (es : List Entry) (a : Activity) (e : Entry) → ((b : Activity) (x : Entry) → entry_at es b ≡ Some x → b ≢ a → P b x) → P a e → (b : Activity) (x : Entry) → entry_at (with_entry es a e) b ≡ Some x → P b x
entries_set P es a e old new b x h = go (is_entry_activity a) refl h
  where
    go : (t : Bool) → is_entry_activity a ≡ t → entry_at (cond t (slice_set es (entry_place a) e) es) b ≡ Some x → P b x
    go true i g =
        let r = entry_at_read (slice_set es (entry_place a) e) b x g in
        places_set (λ k y. (d : Activity) → is_entry_activity d ≡ true → entry_place d ≡ k → P d y) es (entry_place a) e
        (λ k y f ne d id ed. old d y (entry_at_from es d y id (rw ed f)) (λ same. ne (sym ed ∙ ap entry_place same)))
        (λ d id ed. subst (λ z. P z e) (sym (same_place d a id i ed)) new)
        (entry_place b) x r.1 b r.0 refl
    go false i g =
        let r = entry_at_read es b x g in
        old b x g (λ same. false≢true (sym i ∙ ap is_entry_activity (sym same) ∙ r.0))

-- an entry is there for each activity that has one
pub entry_is_there : (es : List Entry) (a : Activity) → length es ≡ 64 → is_entry_activity a ≡ true → (e : Entry) × (entry_at es a ≡ Some e)
entry_is_there es a n i =
    let r = in_range a i in
    (get_or es (entry_place a) Empty, entry_at_from es a (get_or es (entry_place a) Empty) i (slice_get-get_or es (entry_place a) Empty (omega arith)))

pub length-with_entry : (es : List Entry) (a : Activity) (e : Entry) → length (with_entry es a e) ≡ length es
length-with_entry es a e = go (is_entry_activity a)
  where
    go : (t : Bool) → length (cond t (slice_set es (entry_place a) e) es) ≡ length es
    go true = length-set es (entry_place a) e
    go false = refl

-- Packets: a new one has the next number, and the others keep theirs.

pub packet_kept : (bag : List Packet) (q : Packet) (n : ℕ) (p : Packet) → packet_at bag n ≡ Some p → packet_at (bag ++ q ∷ []) n ≡ Some p
packet_kept bag q n p h =
    let r = numbered_read 1 bag n p h in
    numbered_at 1 (bag ++ q ∷ []) n p r.0 (slice_get_front bag q (n - 1) p r.1)

pub packet_last : (bag : List Packet) (q : Packet) → packet_at (bag ++ q ∷ []) (length bag + 1) ≡ Some q
packet_last bag q =
    numbered_at 1 (bag ++ q ∷ []) (length bag + 1) q (omega arith)
    (subst (λ k. slice_get (bag ++ q ∷ []) k ≡ Some q) (omega arith) (slice_get_last bag q))

pub packet_cases : (bag : List Packet) (q : Packet) (n : ℕ) (p : Packet) → packet_at (bag ++ q ∷ []) n ≡ Some p → (packet_at bag n ≡ Some p) ⊎ ((n ≡ length bag + 1) × (q ≡ p))
packet_cases bag q n p h =
    let r = numbered_read 1 (bag ++ q ∷ []) n p h in
    elim (slice_get_push_cases bag q (n - 1) p r.1) [
      | inl old ↦ inl (numbered_at 1 bag n p r.0 old)
      | inr new ↦ inr (omega (arith, new.0, r.0), new.1)
    ]

-- a packet that stands in the bag has a number
pub packet_number : (bag : List Packet) (p : Packet) → Contains bag p → (n : ℕ) × (packet_at bag n ≡ Some p)
packet_number bag p c = (
  c.0 + 1,
  numbered_at 1 bag (c.0 + 1) p (omega arith)
      (subst (λ k. slice_get bag k ≡ Some p) (omega arith) (slice_get_read bag (length bag) c.0 p refl c.1 (sym c.2))),
)

-- One process is written: each process afterwards is one of the others, or the one that was written.
pub record Rewrites (before after : List Client) (machine process : ℕ) (old new : Line) : Type 0 where
  pub was : line_at before machine process ≡ Some old
  pub reads : (m p : ℕ) (l : Line) → line_at after m p ≡ Some l →
      ((line_at before m p ≡ Some l) × (m ≡ machine → p ≡ process → ⊥)) ⊎ ((m ≡ machine) × (p ≡ process) × (new ≡ l))

pub rewrites : (cs : List Client) (machine process : ℕ) (c d : Client) (a b : Line) → numbered 2 cs machine ≡ Some c → numbered 1 c.lines process ≡ Some a → d.lines ≡ with_numbered 1 c.lines process b → Rewrites cs (with_numbered 2 cs machine d) machine process a b
rewrites cs machine process c d a b ec ea ed =
    record {
      was = line_at_read cs machine process c a ec ea;
      reads = lines_set (λ m p l. ((line_at cs m p ≡ Some l) × (m ≡ machine → p ≡ process → ⊥)) ⊎ ((m ≡ machine) × (p ≡ process) × (b ≡ l)))
          cs machine process c d a b ec ea ed (λ m p l h ne. inl (h, ne)) (inr (refl, refl, refl));
    }

-- what holds of each process
abbrev pub EachLine : List Client → (ℕ → ℕ → Line → Type 0) → Type 0
EachLine clients P = (m p : ℕ) (l : Line) → line_at clients m p ≡ Some l → P m p l

pub rewritten : {before after : List Client} {machine process : ℕ} {old new : Line} → Rewrites before after machine process old new → (P : ℕ → ℕ → Line → Type 0) → ((m p : ℕ) (l : Line) → line_at before m p ≡ Some l → (m ≡ machine → p ≡ process → ⊥) → P m p l) → P machine process new → EachLine after P
rewritten {before} {after} {machine} {process} {old} {new} h P others own m p l e =
    elim (h.reads m p l e) [
      | inl o ↦ others m p l o.0 o.1
      | inr n ↦ subst (λ x. P x p l) (sym n.0) (subst (λ y. P machine y l) (sym n.1) (subst (λ z. P machine process z) n.2 own))
    ]
