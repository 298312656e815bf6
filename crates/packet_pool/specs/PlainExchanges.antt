-- That each allowed exchange keeps the plain law.
use Rattle.std.specs.Prelude.{◌≡◌, ◌≢◌, ℕ, ◌+◌, ◌-◌, ◌<◌, ◌≤◌, Bool, true, false, List, [], map, length, slice_set, Option, Some, None, refl}
use Rattle.std.proofs.Common.{sym, ap, ◌∙◌, subst, inl, inr, ⊎_elim, true≢false, arith, if◌then◌else◌, nat_lt}
use Rattle.std.proofs.lemmas.List.{length-map}
use mathlib.Core.Option.{some}
use mathlib.Core.Logic.{dite}
use native.Mathlib.Decide.{ℕ_discrete}
use lib.ListN.{get_elem?}
use Rattle.atomic_table.proofs.Lists.{set_else, at_set, set_here, at_map}
use Rattle.packet_board.specs.declared.word.Word.{Word}
use Rattle.packet_board.specs.declared.layout.Layout.{Layout}
use Rattle.packet_board.specs.declared.buffer.Buffer.{Buffer}
use Rattle.packet_board.specs.Words.{names, weigh, in_words, buffers_of}
use Rattle.packet_board.specs.Hands.{gives_of, takes_of, placed, flat}
use Rattle.packet_board.specs.Views.{exchanged}
use Rattle.packet_board.specs.Laws.{Homes, Exchanges, Meets}
use Rattle.packet_board.specs.Weights.{weigh_at, weigh_two, weigh_set, below, one_at_most, names_is, names_self}
use Rattle.packet_board.specs.Holding.{takes_from, placed_else}
use Rattle.packet_board.specs.Custody.{in_no_word}
use Rattle.packet_pool.specs.declared.item.Item.{Item}
use Rattle.packet_pool.specs.declared.plain.PlainNotes.{PlainNotes}
use Rattle.packet_pool.specs.Cells.{ready_count, ready_cell, IsReadyCell, item, IsFreeWord, IsReadyWord, Rises}
use Rattle.packet_pool.specs.Plain.{PlainView, Views, plain_with_taken, posted_by, claimed_by, waiting, weight_at, PlainHolds, Kind, taking, giving, posting, claiming, IsTaking, IsGiving, IsPosting, IsClaiming, IsKind, plain_allows}
use Rattle.packet_pool.specs.PlainParts.{posting_set, same_up_to, one_up_to, weight_empty, weight_full, weight_kept, fresh_word, touched}

-- a cell beside the one that is exchanged names neither the number that is given nor the one that is taken
module _ (k : Layout) (ws : List Word) (out : ℕ) (hs : Homes) (vs : Views) (id : ℕ) (v : PlainView) (cell : ℕ) (old new : Word) (given found : Option Buffer) (meets : Meets PlainHolds k ws out hs vs id v cell old new found) where
  not_given : (c n : ℕ) (w : Word) → get_elem? ws c ≡ some w → w.buffer ≡ Some n → names n (gives_of old.buffer new.buffer) ≡ 0
  not_given c n w at is = dite (ℕ_discrete (names n (gives_of old.buffer new.buffer)) 0) (λ e. e) (λ ne. let some_names : 1 ≤ names n (gives_of old.buffer new.buffer) = omega (arith, ne) in
      let none_there = in_no_word k ws out hs vs id v n meets.seen.sound meets.seen.seat (meets.given n (names_is n (gives_of old.buffer new.buffer) some_names)) in
      let once = weigh_at (λ (z : Word). names n z.buffer) ws c w at in let self : names n w.buffer ≡ 1 = ap (names n) is ∙ names_self n in absurd (omega (arith, none_there, once, self)))

  not_taken : (c n : ℕ) (w : Word) → c ≢ cell → get_elem? ws c ≡ some w → w.buffer ≡ Some n → names n (takes_of old.buffer new.buffer) ≡ 0
  not_taken c n w ne at is = dite (ℕ_discrete (names n (takes_of old.buffer new.buffer)) 0) (λ e. e) (λ apart. let some_names : 1 ≤ names n (takes_of old.buffer new.buffer) = omega (arith, apart) in
      let there : old.buffer ≡ Some n = takes_from old.buffer new.buffer n (names_is n (takes_of old.buffer new.buffer) some_names) in
      let two = weigh_two (λ (z : Word). names n z.buffer) ws cell c old w meets.at_cell at ne in let a : names n old.buffer ≡ 1 = ap (names n) there ∙ names_self n in let b : names n w.buffer ≡ 1 = ap (names n) is ∙ names_self n in
      let cust = meets.seen.sound.custody n in let most = one_at_most (nat_lt n (buffers_of k)) in let x : ℕ = in_words n ws in let two' : names n old.buffer + names n w.buffer ≤ x = two in absurd (omega (arith, two', a, b, cust, most)))

  abbrev pub homes_after : List (Option Buffer)
  homes_after = placed (takes_of old.buffer new.buffer) None (placed (gives_of old.buffer new.buffer) given (map flat hs))

  -- so it weighs what it weighed
  pub beside : (f : Item → ℕ) (c : ℕ) → c ≢ cell → weight_at f (slice_set ws cell new) homes_after c ≡ weight_at f ws (map flat hs) c
  beside f c ne = weight_kept f ws (slice_set ws cell new) (map flat hs) homes_after c (set_else ws cell c new ne) (λ w n at is.
      placed_else (takes_of old.buffer new.buffer) None (placed (gives_of old.buffer new.buffer) given (map flat hs)) n (not_taken c n w ne at is) ∙ placed_else (gives_of old.buffer new.buffer) given (map flat hs) n (not_given c n w at is))

  -- what waits, after an exchange of a free cell and of a ready one
  pub waits_same : (f : Item → ℕ) → cell < buffers_of k → waiting f k (slice_set ws cell new) homes_after ≡ waiting f k ws (map flat hs)
  waits_same f room = same_up_to (ready_count k) (λ i. weight_at f (slice_set ws cell new) homes_after (ready_cell k i)) (λ i. weight_at f ws (map flat hs) (ready_cell k i)) (λ i less. beside f (ready_cell k i) (λ e. omega arith))

  pub waits_one : (f : Item → ℕ) → IsReadyCell k cell → waiting f k (slice_set ws cell new) homes_after + weight_at f ws (map flat hs) cell ≡ waiting f k ws (map flat hs) + weight_at f (slice_set ws cell new) homes_after cell
  waits_one f is = let low = is.0 in let high = is.1 in let i : ℕ = cell - buffers_of k in let at : ready_cell k i ≡ cell = omega arith in
      let g : ℕ → ℕ = λ j. weight_at f (slice_set ws cell new) homes_after (ready_cell k j) in let h : ℕ → ℕ = λ j. weight_at f ws (map flat hs) (ready_cell k j) in
      let r = one_up_to (ready_count k) i g h (omega arith) (λ j less ne. beside f (ready_cell k j) (λ e. ne (omega arith))) in
      subst (λ (z : ℕ). waiting f k (slice_set ws cell new) homes_after + weight_at f ws (map flat hs) z ≡ waiting f k ws (map flat hs) + weight_at f (slice_set ws cell new) homes_after z) at r

  -- the law after an exchange, by what becomes of its parts
  pub record Swap (notes : PlainNotes) : Type 0 where
    pub right : notes.right ≡ v.notes.right
    pub rises : v.notes.right ≡ true → Rises v.notes.posted → Rises notes.posted
    pub plain : v.notes.right ≡ false → v.notes.posted ≡ [] → notes.posted ≡ []
    pub free : cell < buffers_of k → IsFreeWord cell new
    pub ready : IsReadyCell k cell → IsReadyWord k new
    pub weights : (f : Item → ℕ) → waiting f k ws (map flat hs) + weigh f notes.posted + weigh f v.notes.claimed ≡ waiting f k (slice_set ws cell new) homes_after + weigh f notes.claimed + weigh f v.notes.posted

  pub swapped : (notes : PlainNotes) → Swap notes → PlainHolds k (slice_set ws cell new) homes_after (slice_set vs id (exchanged v cell old new notes))
  swapped notes s = let law = meets.seen.lawful in let at = meets.seen.seat in let w : PlainView = exchanged v cell old new notes in record {
    posting = posting_set vs law.posting id v w at (λ right rises. (s.right ∙ right, s.rises right rises)) (λ p. record { no_right = s.right ∙ p.no_right; none_posted = s.plain p.no_right p.none_posted; balanced = p.balanced; settled = p.settled });
    cells = record {
      free = λ n u room e. ⊎_elim (λ q. subst (λ (z : ℕ × Word). IsFreeWord z.0 z.1) (λ i. (sym q.0 i, q.1 i)) (s.free (subst (λ (z : ℕ). z < buffers_of k) q.0 room))) (λ q. law.cells.free n u room q.1) (at_set ws cell n new u e);
      ready = λ c u is e. ⊎_elim (λ q. subst (IsReadyWord k) q.1 (s.ready (subst (IsReadyCell k) q.0 is))) (λ q. law.cells.ready c u is q.1) (at_set ws cell c new u e);
      postable = λ c n u y is e b there. tt;
    };
    counted = λ f. let p = weigh_set (posted_by f) vs id v w at in let c = weigh_set (claimed_by f) vs id v w at in let l = law.counted f in let e = s.weights f in
        let p' : weigh (posted_by f) (slice_set vs id w) + weigh f v.notes.posted ≡ weigh (posted_by f) vs + weigh f notes.posted = p in
        let c' : weigh (claimed_by f) (slice_set vs id w) + weigh f v.notes.claimed ≡ weigh (claimed_by f) vs + weigh f notes.claimed = c in omega (arith, p', c', l, e);
    fresh = fresh_word ws vs law.fresh id cell (v.steps + 1) new old v w at meets.at_cell meets.seen.live meets.seen.live refl;
    untouched = touched k ws (slice_set ws cell new) vs law.untouched id v w at meets.seen.live (omega arith);
  }

-- a taking keeps all but what is taken
pub kept_take : (t : Bool) (n : ℕ) (notes : PlainNotes) → let after : PlainNotes = if t then plain_with_taken n notes else notes in (after.right ≡ notes.right) × (after.posted ≡ notes.posted) × (after.claimed ≡ notes.claimed)
kept_take true n notes = (refl, refl, refl)
kept_take false n notes = (refl, refl, refl)

module _ (k : Layout) (ws : List Word) (out : ℕ) (hs : Homes) (vs : Views) (id : ℕ) (v : PlainView) (cell : ℕ) (old new : Word) (given found : Option Buffer) (meets : Meets PlainHolds k ws out hs vs id v cell old new found) (notes : PlainNotes) where
  abbrev pub of_layout : v.layout ≡ k
  of_layout = meets.seen.sound.of_layout id v meets.seen.seat meets.seen.live

  abbrev pub Swaps : Type 0
  Swaps = Swap k ws out hs vs id v cell old new given found meets notes

  -- a free cell, and notes that keep what was posted and claimed
  freely : cell < buffers_of v.layout → IsFreeWord cell new → notes.right ≡ v.notes.right → notes.posted ≡ v.notes.posted → notes.claimed ≡ v.notes.claimed → Swaps
  freely room word right posted claimed = let room' : cell < buffers_of k = subst (λ (z : Layout). cell < buffers_of z) of_layout room in record {
    right = right;
    rises = λ _ rises. subst Rises (sym posted) rises;
    plain = λ _ none_posted. posted ∙ none_posted;
    free = λ _. word;
    ready = λ is. let low = is.0 in absurd (omega (arith, low, room'));
    weights = λ f. let a = waits_same k ws out hs vs id v cell old new given found meets f room' in let p = ap (weigh f) posted in let c = ap (weigh f) claimed in omega (arith, a, p, c);
  }

  takes_free : IsTaking v cell old new notes → Swaps
  takes_free is = let kept = kept_take (nat_lt cell v.layout.small) cell v.notes in let same = is.notes_after in
      freely is.free (inl is.after) (ap (λ (z : PlainNotes). z.right) same ∙ kept.0) (ap (λ (z : PlainNotes). z.posted) same ∙ kept.1) (ap (λ (z : PlainNotes). z.claimed) same ∙ kept.2)

  gives_free : IsGiving v cell old new notes → Swaps
  gives_free is = let same = is.notes_after in freely is.free (inr is.after) (ap (λ (z : PlainNotes). z.right) same) (ap (λ (z : PlainNotes). z.posted) same) (ap (λ (z : PlainNotes). z.claimed) same)

  posts_ready : (n order : ℕ) (y : Buffer) → IsPosting v cell old new given notes n order y → Swaps
  posts_ready n order y is = let ready : IsReadyCell k cell = subst (λ (z : Layout). IsReadyCell z cell) of_layout is.ready in let small : n < k.small = subst (λ (z : Layout). n < z.small) of_layout is.small in let same = is.notes_after in
      let bs : List (Option Buffer) = map flat hs in
      let gives_n : gives_of old.buffer new.buffer ≡ Some n = λ i. gives_of (is.before i).buffer (is.after i).buffer in
      let takes_none : takes_of old.buffer new.buffer ≡ None = λ i. takes_of (is.before i).buffer (is.after i).buffer in
      let long : length bs ≡ buffers_of k = length-map hs flat ∙ meets.seen.sound.long in
      let there : get_elem? (homes_after k ws out hs vs id v cell old new given found meets) n ≡ some (Some y) = (λ i. get_elem? (placed (takes_none i) None (placed (gives_n i) (is.packet i) bs)) n) ∙ set_here bs n (Some y) (omega (arith, long, small)) in record {
        right = ap (λ (z : PlainNotes). z.right) same;
        rises = λ _ rises. subst (λ (z : PlainNotes). Rises z.posted) (sym same) (is.next, rises);
        plain = λ no_right _. absurd (true≢false (sym is.may ∙ no_right));
        free = λ room. let low = ready.0 in absurd (omega (arith, low, room));
        ready = λ _. inr (n, ap (λ (z : Word). z.buffer) is.after, small);
        weights = λ f. let one = waits_one k ws out hs vs id v cell old new given found meets f ready in let before = weight_empty f ws bs cell old meets.at_cell is.before in
            let after = weight_full f (slice_set ws cell new) (homes_after k ws out hs vs id v cell old new given found meets) cell order n new y (set_here ws cell new (below ws cell old meets.at_cell)) is.after there in
            let p : weigh f notes.posted ≡ f (item order cell y) + weigh f v.notes.posted = ap (λ (z : PlainNotes). weigh f z.posted) same in let c : weigh f notes.claimed ≡ weigh f v.notes.claimed = ap (λ (z : PlainNotes). weigh f z.claimed) same in
            omega (arith, one, before, after, p, c);
      }

  claims_ready : (n order : ℕ) (y : Buffer) → IsClaiming v cell old new found notes n order y → Swaps
  claims_ready n order y is = let ready : IsReadyCell k cell = subst (λ (z : Layout). IsReadyCell z cell) of_layout is.ready in let same = is.notes_after in let bs : List (Option Buffer) = map flat hs in
      let takes_n : takes_of old.buffer new.buffer ≡ Some n = λ i. takes_of (is.before i).buffer (is.after i).buffer in
      let there : get_elem? bs n ≡ some (Some y) = at_map flat hs n (some found) (meets.taken n takes_n) ∙ ap some is.packet in record {
        right = ap (λ (z : PlainNotes). z.right) same;
        rises = λ _ rises. subst (λ (z : PlainNotes). Rises z.posted) (sym same) rises;
        plain = λ _ none_posted. ap (λ (z : PlainNotes). z.posted) same ∙ none_posted;
        free = λ room. let low = ready.0 in absurd (omega (arith, low, room));
        ready = λ _. inl is.after;
        weights = λ f. let one = waits_one k ws out hs vs id v cell old new given found meets f ready in let before = weight_full f ws bs cell order n old y meets.at_cell is.before there in
            let after = weight_empty f (slice_set ws cell new) (homes_after k ws out hs vs id v cell old new given found meets) cell new (set_here ws cell new (below ws cell old meets.at_cell)) is.after in
            let p : weigh f notes.posted ≡ weigh f v.notes.posted = ap (λ (z : PlainNotes). weigh f z.posted) same in let c : weigh f notes.claimed ≡ f (item order cell y) + weigh f v.notes.claimed = ap (λ (z : PlainNotes). weigh f z.claimed) same in
            omega (arith, one, before, after, p, c);
      }

  pub each_kind : (kind : Kind) → IsKind v cell old new given found notes kind → Swaps
  each_kind taking is = takes_free is
  each_kind giving is = gives_free is
  each_kind (posting n order y) is = posts_ready n order y is
  each_kind (claiming n order y) is = claims_ready n order y is

pub plain_exchanges : Exchanges PlainHolds plain_allows
plain_exchanges k ws out hs vs id v cell old new given found notes meets allowed = swapped k ws out hs vs id v cell old new given found meets notes (each_kind k ws out hs vs id v cell old new given found meets notes allowed.0 allowed.1)
