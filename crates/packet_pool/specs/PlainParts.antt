-- What each part of the plain law makes of one view, or one word, that changes.
use Rattle.std.specs.Prelude.{◌≡◌, ◌≢◌, ℕ, zero, suc, ◌+◌, ◌<◌, ◌≤◌, ◌⊎◌, if◌then◌else◌, Bool, true, false, ◌||◌, List, [], ◌∷◌, ◌++◌, length, slice_set, Option, Some, None, refl}
use Rattle.std.proofs.Common.{sym, ap, ◌∙◌, subst, inl, inr, ⊎_elim, true≢false, arith, eq-eqb, ne_eqb}
use Rattle.std.proofs.lemmas.List.{append-nil}
use mathlib.Core.Option.{none, some, some-injective, some-ne-none}
use mathlib.Core.Option as maybe
use mathlib.Core.Logic.{dite}
use native.Mathlib.Decide.{ℕ_discrete}
use lib.ListN.{get_elem?}
use Rattle.atomic_table.proofs.Lists.{at_set, at_snoc, at_longer, set_here, set_else}
use Rattle.packet_board.specs.declared.word.Word.{Word}
use Rattle.packet_board.specs.declared.layout.Layout.{Layout}
use Rattle.packet_board.specs.declared.buffer.Buffer.{Buffer}
use Rattle.packet_board.specs.declared.view.Met.{Met}
use Rattle.packet_board.specs.Words.{weigh, empty}
use Rattle.packet_board.specs.Views.{meeting}
use Rattle.packet_board.specs.Weights.{weigh_set, below}
use Rattle.packet_pool.specs.declared.item.Item.{Item}
use Rattle.packet_pool.specs.Cells.{ready_word, item, Rises, newest}
use Rattle.packet_pool.specs.Plain.{PlainView, Views, IsPlain, Posting, weight_found, weight_named, weight_in, weight_at, up_to, PlainFresh, PlainUntouched}

-- The right to post

-- a view with the right is the poster's, and any other is plain
pub poster_is : (vs : Views) (p : Posting vs) (id : ℕ) (v : PlainView) → get_elem? vs id ≡ some v → v.notes.right ≡ true → id ≡ p.id
poster_is vs p id v at right = dite (ℕ_discrete id p.id) (λ e. e) (λ ne. absurd (true≢false (sym right ∙ (p.others id v ne at).no_right)))

pub plain_beside : (vs : Views) (p : Posting vs) (id : ℕ) (v : PlainView) → get_elem? vs id ≡ some v → v.notes.right ≡ true → (j : ℕ) (w : PlainView) → j ≢ id → get_elem? vs j ≡ some w → IsPlain w
plain_beside vs p id v at right j w ne there = p.others j w (λ e. ne (e ∙ sym (poster_is vs p id v at right))) there

-- one view became another: it is the poster's and keeps the right and what rises, or plain and stays so
pub posting_set : (vs : Views) (p : Posting vs) (id : ℕ) (v w : PlainView) → get_elem? vs id ≡ some v
    → (v.notes.right ≡ true → Rises v.notes.posted → (w.notes.right ≡ true) × Rises w.notes.posted) → (IsPlain v → IsPlain w) → Posting (slice_set vs id w)
posting_set vs p id v w at mine plain = dite (ℕ_discrete p.id id)
    (λ e. let same : p.poster ≡ v = some-injective p.poster v (sym p.seat ∙ (ap (get_elem? vs) e ∙ at)) in
    let new = mine (ap (λ (z : PlainView). z.notes.right) (sym same) ∙ p.right) (subst (λ (z : PlainView). Rises z.notes.posted) same p.rises) in record {
      id = id;
      poster = w;
      seat = set_here vs id w (below vs id v at);
      right = new.0;
      rises = new.1;
      others = λ j u ne there. ⊎_elim (λ q. absurd (ne q.0)) (λ q. p.others j u (λ h. ne (h ∙ e)) q.1) (at_set vs id j w u there);
    })
    (λ ne. record {
      id = p.id;
      poster = p.poster;
      seat = set_else vs id p.id w ne ∙ p.seat;
      right = p.right;
      rises = p.rises;
      others = λ j u apart there. ⊎_elim (λ q. subst IsPlain q.1 (plain (p.others id v (λ h. ne (sym h)) at))) (λ q. p.others j u apart q.1) (at_set vs id j w u there);
    })

-- a further view that is plain
pub posting_more : (vs : Views) (p : Posting vs) (w : PlainView) → IsPlain w → Posting (vs ++ w ∷ [])
posting_more vs p w plain = record {
  id = p.id;
  poster = p.poster;
  seat = at_longer vs (w ∷ []) p.id p.poster p.seat;
  right = p.right;
  rises = p.rises;
  others = λ j u apart there. ⊎_elim (λ q. p.others j u apart q) (λ q. subst IsPlain q plain) (at_snoc vs w u j there);
}

pub or_true : (a b : Bool) → a ≡ true → (a || b) ≡ true
or_true true b e = refl
or_true false b e = absurd (true≢false (sym e))

pub rises_joined : (xs ys : List Item) → ys ≡ [] → Rises xs → Rises (xs ++ ys)
rises_joined xs ys e rises = subst (λ (z : List Item). Rises (xs ++ z)) (sym e) (subst Rises (sym (append-nil xs)) rises)

-- Weights

pub weigh_same : {A : Type 0} (f : A → ℕ) (xs : List A) (i : ℕ) (x y : A) → get_elem? xs i ≡ some x → f y ≡ f x → weigh f (slice_set xs i y) ≡ weigh f xs
weigh_same f xs i x y at e = let s = weigh_set f xs i x y at in omega (arith, s, e)

pub weigh_append : {A : Type 0} (f : A → ℕ) (xs ys : List A) → weigh f (xs ++ ys) ≡ weigh f xs + weigh f ys
weigh_append f [] ys = omega arith
weigh_append f (x ∷ xs) ys = let r = weigh_append f xs ys in omega (arith, r)

-- one view took in all that another one weighs, which then weighs nothing
pub weigh_moved : {A : Type 0} (f : A → ℕ) (xs : List A) (i j : ℕ) (x y u z : A) → get_elem? xs i ≡ some x → get_elem? xs j ≡ some y → j ≢ i → f u ≡ f x + f y → f z ≡ 0 → weigh f (slice_set (slice_set xs i u) j z) ≡ weigh f xs
weigh_moved f xs i j x y u z at there ne both nothing = let a = weigh_set f xs i x u at in let b = weigh_set f (slice_set xs i u) j y z (set_else xs i j u ne ∙ there) in omega (arith, a, b, both, nothing)

-- Sums over the ready cells

pub same_up_to : (n : ℕ) (g h : ℕ → ℕ) → ((i : ℕ) → i < n → g i ≡ h i) → up_to n g ≡ up_to n h
same_up_to zero g h same = refl
same_up_to (suc n) g h same = let r = same_up_to n g h (λ i room. same i (omega arith)) in let e = same n (omega arith) in omega (arith, r, e)

pub one_up_to : (n c : ℕ) (g h : ℕ → ℕ) → c < n → ((i : ℕ) → i < n → i ≢ c → g i ≡ h i) → up_to n g + h c ≡ up_to n h + g c
one_up_to zero c g h room same = absurd (omega arith)
one_up_to (suc n) c g h room same = dite (ℕ_discrete c n)
    (λ e. let r = same_up_to n g h (λ i less. same i (omega arith) (λ p. omega arith)) in let a : g c ≡ g n = ap g e in let b : h c ≡ h n = ap h e in omega (arith, r, a, b))
    (λ ne. let r = one_up_to n c g h (omega arith) (λ i less apart. same i (omega arith) apart) in let e = same n (omega arith) (λ p. ne (sym p)) in omega (arith, r, e))

pub none_up_to : (n : ℕ) (g : ℕ → ℕ) → ((i : ℕ) → i < n → g i ≡ 0) → up_to n g ≡ 0
none_up_to zero g same = refl
none_up_to (suc n) g same = let r = none_up_to n g (λ i room. same i (omega arith)) in let e = same n (omega arith) in omega (arith, r, e)

pub weight_empty : (f : Item → ℕ) (ws : List Word) (bs : List (Option Buffer)) (cell : ℕ) (w : Word) → get_elem? ws cell ≡ some w → w ≡ empty → weight_at f ws bs cell ≡ 0
weight_empty f ws bs cell w at is = ap (weight_in f bs cell) (at ∙ ap some is)

pub weight_full : (f : Item → ℕ) (ws : List Word) (bs : List (Option Buffer)) (cell order n : ℕ) (w : Word) (y : Buffer) → get_elem? ws cell ≡ some w → w ≡ ready_word order n → get_elem? bs n ≡ some (Some y) → weight_at f ws bs cell ≡ f (item order cell y)
weight_full f ws bs cell order n w y at is there = ap (weight_in f bs cell) (at ∙ ap some is) ∙ ap (weight_found f order cell) there

-- a cell weighs the same where its word is the same, and the slot of the number that it names
weight_kept_in : (f : Item → ℕ) (bs cs : List (Option Buffer)) (cell : ℕ) (w : maybe.Option Word) → ((x : Word) (n : ℕ) → w ≡ some x → x.buffer ≡ Some n → get_elem? cs n ≡ get_elem? bs n) → weight_in f cs cell w ≡ weight_in f bs cell w
weight_kept_in f bs cs cell none same = refl
weight_kept_in f bs cs cell (some w) same = weight_kept_named f bs cs w.tag cell w.buffer (λ n e. same w n refl e)
  where
    weight_kept_named : (f : Item → ℕ) (bs cs : List (Option Buffer)) (order cell : ℕ) (b : Option ℕ) → ((n : ℕ) → b ≡ Some n → get_elem? cs n ≡ get_elem? bs n) → weight_named f cs order cell b ≡ weight_named f bs order cell b
    weight_kept_named f bs cs order cell None same = refl
    weight_kept_named f bs cs order cell (Some n) same = ap (weight_found f order cell) (same n refl)

pub weight_kept : (f : Item → ℕ) (ws us : List Word) (bs cs : List (Option Buffer)) (cell : ℕ) → get_elem? us cell ≡ get_elem? ws cell → ((x : Word) (n : ℕ) → get_elem? ws cell ≡ some x → x.buffer ≡ Some n → get_elem? cs n ≡ get_elem? bs n) → weight_at f us cs cell ≡ weight_at f ws bs cell
weight_kept f ws us bs cs cell same slots = ap (weight_in f cs cell) same ∙ weight_kept_in f bs cs cell (get_elem? ws cell) slots

-- What a seat met last, where it is the only one

pub newest_after : (ms : List Met) (cell c : ℕ) (w : Word) (n : ℕ) (m : Met) → newest c (meeting cell w n ∷ ms) ≡ some m → ((c ≡ cell) × (m.word ≡ w)) ⊎ ((c ≢ cell) × (newest c ms ≡ some m))
newest_after ms cell c w n m e = dite (ℕ_discrete cell c)
    (λ h. inl (sym h, ap (λ (z : Met). z.word) (sym (some-injective (meeting cell w n) m (subst (λ t. (if t then some (meeting cell w n) else newest c ms) ≡ some m) (eq-eqb cell c h) e)))))
    (λ ne. inr ((λ h. ne (sym h)), subst (λ t. (if t then some (meeting cell w n) else newest c ms) ≡ some m) (ne_eqb cell c ne) e))

-- one live view became another live one; the words are as they were, and so is what that view met
pub fresh_same : (ws : List Word) (vs : Views) → PlainFresh ws vs → (id : ℕ) (v w : PlainView) → get_elem? vs id ≡ some v → v.live ≡ true → w.live ≡ true → ((cell : ℕ) (m : Met) → newest cell w.met ≡ some m → (newest cell v.met ≡ some m) ⊎ (get_elem? ws cell ≡ some m.word)) → PlainFresh ws (slice_set vs id w)
fresh_same ws vs fresh id v w at live lives met j u cell m there out only is = dite (ℕ_discrete j id)
    (λ e. ⊎_elim (λ q. ⊎_elim (λ r. fresh id v cell m at live (λ i x ne put. only i x (λ h. ne (h ∙ e)) (set_else vs id i w ne ∙ put)) r) (λ r. r) (met cell m (subst (λ (z : PlainView). newest cell z.met ≡ some m) (sym q.1) is))) (λ q. absurd (q.0 e)) (at_set vs id j w u there))
    (λ ne. absurd (true≢false (sym lives ∙ only id w (λ h. ne (sym h)) (set_here vs id w (below vs id v at)))))

-- an exchange
pub fresh_word : (ws : List Word) (vs : Views) → PlainFresh ws vs → (id cell n : ℕ) (new : Word) (old : Word) (v w : PlainView) → get_elem? vs id ≡ some v → get_elem? ws cell ≡ some old → v.live ≡ true → w.live ≡ true → w.met ≡ meeting cell new n ∷ v.met → PlainFresh (slice_set ws cell new) (slice_set vs id w)
fresh_word ws vs fresh id cell n new old v w at word live lives met j u c m there out only is = dite (ℕ_discrete j id)
    (λ e. ⊎_elim
    (λ q. ⊎_elim
    (λ r. subst (λ (z : ℕ). get_elem? (slice_set ws cell new) z ≡ some m.word) (sym r.0) (set_here ws cell new (below ws cell old word) ∙ ap some (sym r.1)))
    (λ r. set_else ws cell c new r.0 ∙ fresh id v c m at live (λ i x ne put. only i x (λ h. ne (h ∙ e)) (set_else vs id i w ne ∙ put)) r.1)
    (newest_after v.met cell c new n m (subst (λ (z : List Met). newest c z ≡ some m) met (subst (λ (z : PlainView). newest c z.met ≡ some m) (sym q.1) is))))
    (λ q. absurd (q.0 e)) (at_set vs id j w u there))
    (λ ne. absurd (true≢false (sym lives ∙ only id w (λ h. ne (sym h)) (set_here vs id w (below vs id v at)))))

-- a further view, which is live and met nothing
pub fresh_more : (ws : List Word) (vs : Views) (id : ℕ) (v r : PlainView) → PlainFresh ws vs → get_elem? vs id ≡ some v → v.live ≡ true → r.live ≡ true → r.met ≡ [] → PlainFresh ws (vs ++ r ∷ [])
fresh_more ws vs id v r fresh at live lives nothing j u cell m there out only is = ⊎_elim
    (λ q. absurd (true≢false (sym lives ∙ only (length vs) r (λ h. let b = below vs j u q in omega (arith, b, h)) (last_of vs r))))
    (λ q. absurd (some-ne-none m (sym (subst (λ (z : List Met). newest cell z ≡ some m) nothing (subst (λ (z : PlainView). newest cell z.met ≡ some m) (sym q) is)))))
    (at_snoc vs r u j there)
  where
    last_of : (xs : Views) (x : PlainView) → get_elem? (xs ++ x ∷ []) (length xs) ≡ some x
    last_of [] x = refl
    last_of (y ∷ ys) x = last_of ys x

-- a view that a join has spent is not live
pub fresh_spent : (ws : List Word) (vs : Views) (other : ℕ) (s : PlainView) (id : ℕ) (v : PlainView) → get_elem? vs id ≡ some v → v.live ≡ true → v.met ≡ [] → other ≢ id → s.live ≡ false → PlainFresh ws (slice_set vs other s)
fresh_spent ws vs other s id v at live nothing ne dead j u cell m there out only is = ⊎_elim
    (λ q. absurd (true≢false (sym out ∙ (ap (λ (z : PlainView). z.live) (sym q.1) ∙ dead))))
    (λ q. dite (ℕ_discrete j id)
    (λ e. let same : u ≡ v = some-injective u v (sym q.1 ∙ (ap (get_elem? vs) e ∙ at)) in absurd (some-ne-none m (sym (subst (λ (z : List Met). newest cell z ≡ some m) nothing (subst (λ (z : PlainView). newest cell z.met ≡ some m) same is)))))
    (λ apart. absurd (true≢false (sym live ∙ only id v (λ h. apart (sym h)) (set_else vs other id s (λ h. ne (sym h)) ∙ at)))))
    (at_set vs other j s u there)

-- What a seat that made a step knows of one that has the right and made none: there is none

-- whatever becomes of the words, where one live view makes a step
pub touched : (k : Layout) (ws us : List Word) (vs : Views) → PlainUntouched k ws vs → (id : ℕ) (v w : PlainView) → get_elem? vs id ≡ some v → v.live ≡ true → 1 ≤ w.steps → PlainUntouched k us (slice_set vs id w)
touched k ws us vs old id v w at live made j u there right none_made = ⊎_elim (λ q. let e : w.steps ≡ u.steps = ap (λ (z : PlainView). z.steps) q.1 in absurd (omega (arith, e, made, none_made)))
    (λ q. absurd (true≢false (sym live ∙ (old j u q.1 right none_made).0 id v (λ h. q.0 (sym h)) at))) (at_set vs id j w u there)

-- a further view without the right, and one that lost it
pub touched_more : (k : Layout) (ws : List Word) (vs : Views) (id : ℕ) (v r : PlainView) → PlainUntouched k ws vs → get_elem? vs id ≡ some v → v.live ≡ true → 1 ≤ v.steps → r.notes.right ≡ false → PlainUntouched k ws (vs ++ r ∷ [])
touched_more k ws vs id v r old at live made plain j u there right none_made = ⊎_elim
    (λ q. dite (ℕ_discrete j id) (λ e. let same : u ≡ v = some-injective u v (sym q ∙ (ap (get_elem? vs) e ∙ at)) in let s : u.steps ≡ v.steps = ap (λ (z : PlainView). z.steps) same in absurd (omega (arith, s, made, none_made)))
    (λ ne. absurd (true≢false (sym live ∙ (old j u q right none_made).0 id v (λ h. ne (sym h)) at))))
    (λ q. absurd (true≢false (sym right ∙ (ap (λ (z : PlainView). z.notes.right) (sym q) ∙ plain)))) (at_snoc vs r u j there)

pub touched_spent : (k : Layout) (ws : List Word) (vs : Views) (id other : ℕ) (v s : PlainView) → PlainUntouched k ws vs → get_elem? vs id ≡ some v → v.live ≡ true → 1 ≤ v.steps → s.notes.right ≡ false → PlainUntouched k ws (slice_set vs other s)
touched_spent k ws vs id other v s old at live made plain j u there right none_made = ⊎_elim
    (λ q. absurd (true≢false (sym right ∙ (ap (λ (z : PlainView). z.notes.right) (sym q.1) ∙ plain))))
    (λ q. dite (ℕ_discrete j id) (λ e. let same : u ≡ v = some-injective u v (sym q.1 ∙ (ap (get_elem? vs) e ∙ at)) in let m : u.steps ≡ v.steps = ap (λ (z : PlainView). z.steps) same in absurd (omega (arith, m, made, none_made)))
    (λ ne. absurd (true≢false (sym live ∙ (old j u q.1 right none_made).0 id v (λ h. ne (sym h)) at))))
    (at_set vs other j s u there)
