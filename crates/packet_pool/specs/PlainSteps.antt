-- That each kind of step keeps the plain law.
use Rattle.std.specs.Prelude.{◌≡◌, ℕ, ◌+◌, ◌<◌, ◌≤◌, ◌⊎◌, true, List, [], ◌∷◌, map, slice_set, Option, Some, None, refl}
use Rattle.std.proofs.Common.{zero, suc, sym, ap, ◌∙◌, subst, inl, inr, ⊎_elim, true≢false, arith}
use Rattle.atomic_table.proofs.Lists.{set_here, set_else}
use mathlib.Core.Option.{some, some-injective, some-ne-none}
use lib.ListN.{get_elem?}
use Rattle.packet_board.specs.declared.word.Word.{Word}
use Rattle.packet_board.specs.declared.layout.Layout.{Layout}
use Rattle.packet_board.specs.declared.buffer.Buffer.{Buffer}
use Rattle.packet_board.specs.declared.view.Met.{Met}
use Rattle.packet_board.specs.Words.{weigh, cell_count, first_word, first_cells, empty}
use Rattle.packet_board.specs.Views.{looked, begun, settled, newcomer, joined, spent, landed, told_out, opening_view}
use Rattle.packet_board.specs.Laws.{Opens, Looks, Counts, Begins, Parts, Merges, Ends, Bounds}
use Rattle.packet_board.specs.Hands.{flat}
use Rattle.packet_board.specs.Weights.{weigh_more, below}
use Rattle.packet_board.specs.Opening.{first_at, free_word, other_word}
use Rattle.packet_pool.specs.declared.plain.PlainNotes.{PlainNotes}
use Rattle.packet_pool.specs.Cells.{ready_count, ready_cell, Rises, newest}
use Rattle.packet_pool.specs.Laws.{PoolCells}
use Rattle.packet_pool.specs.Plain.{PlainView, Views, first_notes, blank_notes, plain_both, every_packet, may_split, IsPlain, posted_by, claimed_by, waiting, weight_at, PlainHolds}
use Rattle.packet_pool.specs.PlainParts.{plain_beside, posting_set, posting_more, or_true, rises_joined, weigh_same, weigh_append, weigh_moved, none_up_to, weight_empty, newest_after, fresh_same, fresh_more, fresh_spent, touched, touched_more, touched_spent}

one_only : (v x : PlainView) (j : ℕ) → get_elem? (v ∷ []) j ≡ some x → (j ≡ 0) × (v ≡ x)
one_only v x zero e = (refl, some-injective v x e)
one_only v x (suc j) e = absurd (some-ne-none x (sym e))

first_of : (k : Layout) (i : ℕ) (w : Word) → i < cell_count k → get_elem? (first_cells k) i ≡ some w → w ≡ first_word k i
first_of k i w room e = some-injective w (first_word k i) (sym e ∙ first_at k (cell_count k) i room)

empty_names_none : (w : Word) (n : ℕ) → w ≡ empty → w.buffer ≡ Some n → ⊥
empty_names_none w n e is = let no_number : None ≡ Some n = ap (λ (z : Word). z.buffer) (sym e) ∙ is in cc

opening_cells : (k : Layout) (bs : List (Option Buffer)) → PoolCells every_packet k (first_cells k) bs
opening_cells k bs = record {
  free = λ n w room e. inr (first_of k n w (let r = room in omega (arith, r)) e ∙ free_word k n room);
  ready = λ c w is e. inl (first_of k c w (let r = is.1 in omega (arith, r)) e ∙ other_word k c is.0);
  postable = λ c n w y is e b there. tt;
}

pub plain_opens : Opens PlainHolds (λ k. Unit {0}) (λ k. first_notes)
plain_opens k xs may new = let v : PlainView = opening_view k first_notes in record {
  posting = record { id = 0; poster = v; seat = refl; right = refl; rises = tt; others = λ j w ne e. absurd (ne (one_only v w j e).0) };
  cells = opening_cells k xs;
  counted = λ f. let ws : List Word = first_cells k in let n : ℕ = ready_count k in
      sym (omega (arith, none_up_to n (λ i. weight_at f ws xs (ready_cell k i)) (λ i room. let r : ready_cell k i < cell_count k = omega (arith, room) in weight_empty f ws xs (ready_cell k i) (first_word k (ready_cell k i)) (first_at k (cell_count k) (ready_cell k i) r) (other_word k (ready_cell k i) (omega arith)))));
  fresh = λ id u cell m at live only is. let same = (one_only v u id at).1 in absurd (some-ne-none m (sym (subst (λ (z : PlainView). newest cell z.met ≡ some m) (sym same) is)));
  untouched = λ id u at right none_made. (λ j w ne e. absurd (ne ((one_only v w j e).0 ∙ sym (one_only v u id at).0)), λ cell room. first_at k (cell_count k) cell room);
}

-- a view that keeps its notes, and whether it is live
stays : (k : Layout) (ws : List Word) (bs : List (Option Buffer)) (vs : Views) (id : ℕ) (v w : PlainView) → PlainHolds k ws bs vs → get_elem? vs id ≡ some v → v.live ≡ true → w.live ≡ true → 1 ≤ w.steps → w.notes ≡ v.notes → (IsPlain v → IsPlain w)
    → ((cell : ℕ) (m : Met) → newest cell w.met ≡ some m → (newest cell v.met ≡ some m) ⊎ (get_elem? ws cell ≡ some m.word)) → PlainHolds k ws bs (slice_set vs id w)
stays k ws bs vs id v w law at live lives made same plain met = record {
  posting = posting_set vs law.posting id v w at (λ right rises. (ap (λ (z : PlainNotes). z.right) same ∙ right, subst (λ (z : PlainNotes). Rises z.posted) (sym same) rises)) plain;
  cells = law.cells;
  counted = λ f. weigh_same (posted_by f) vs id v w at (ap (λ (z : PlainNotes). weigh f z.posted) same) ∙ (law.counted f ∙ ap (λ (z : ℕ). waiting f k ws bs + z) (sym (weigh_same (claimed_by f) vs id v w at (ap (λ (z : PlainNotes). weigh f z.claimed) same))));
  fresh = fresh_same ws vs law.fresh id v w at live lives met;
  untouched = touched k ws ws vs law.untouched id v w at live made;
}

pub plain_looks : Looks PlainHolds
plain_looks k ws out hs vs id v cell word seen at = stays k ws (map flat hs) vs id v (looked v cell word) seen.lawful seen.seat seen.live seen.live (omega arith) refl (λ p. record { no_right = p.no_right; none_posted = p.none_posted; balanced = p.balanced; settled = p.settled })
    (λ c m is. ⊎_elim (λ q. inr (subst (λ (z : ℕ). get_elem? ws z ≡ some m.word) (sym q.0) (at ∙ ap some (sym q.1)))) (λ q. inl q.1) (newest_after v.met cell c word (v.steps + 1) m is))

pub plain_counts : Counts PlainHolds
plain_counts k ws out hs vs id v seen others = stays k ws (map flat hs) vs id v (told_out out v) seen.lawful seen.seat seen.live seen.live (omega arith) refl (λ p. record { no_right = p.no_right; none_posted = p.none_posted; balanced = p.balanced; settled = p.settled }) (λ c m is. inl is)

pub plain_begins : Begins PlainHolds may_split
plain_begins k ws out hs vs id v seen may idle = stays k ws (map flat hs) vs id v (begun v) seen.lawful seen.seat seen.live seen.live (omega arith) refl (λ p. absurd (true≢false (sym may ∙ p.no_right))) (λ c m is. inl is)

pub plain_ends : Ends PlainHolds may_split plain_both
plain_ends k ws out hs vs id v w seen may idle = stays k ws (map flat hs) vs id (joined plain_both v w) (landed (joined plain_both v w)) seen.lawful seen.seat seen.live seen.live (omega arith) refl (λ p. absurd (true≢false (sym (or_true v.notes.right w.notes.right may) ∙ p.no_right))) (λ c m is. inl is)

pub plain_parts : Parts PlainHolds may_split blank_notes
plain_parts k ws out hs vs id v seen may idle = let r : PlainView = newcomer blank_notes (begun v) in let bs : List (Option Buffer) = map flat hs in let us : Views = slice_set vs id (settled (begun v)) in
    let law = stays k ws bs vs id (begun v) (settled (begun v)) seen.lawful seen.seat seen.live seen.live (omega arith) refl (λ p. absurd (true≢false (sym may ∙ p.no_right))) (λ c m is. inl is) in record {
      posting = posting_more us law.posting r record { no_right = refl; none_posted = refl; balanced = refl; settled = refl };
      cells = law.cells;
      counted = λ f. let a = weigh_more (posted_by f) us r in let b = weigh_more (claimed_by f) us r in let c = law.counted f in omega (arith, a, b, c);
      fresh = fresh_more ws us id (settled (begun v)) r law.fresh (set_here vs id (settled (begun v)) (below vs id (begun v) seen.seat)) seen.live refl refl;
      untouched = touched_more k ws us id (settled (begun v)) r law.untouched (set_here vs id (settled (begun v)) (below vs id (begun v) seen.seat)) seen.live (omega arith) refl;
    }

pub plain_merges : Merges PlainHolds may_split plain_both blank_notes
plain_merges k ws out hs vs id v other w seen may idle ne at live none_held rests =
    let j : PlainView = joined plain_both v w in let s : PlainView = spent blank_notes in let us : Views = slice_set vs id j in let law = seen.lawful in let plain = plain_beside vs law.posting id v seen.seat may other w ne at in
    let there : get_elem? us other ≡ some w = set_else vs id other j ne ∙ at in
    let one = posting_set vs law.posting id v j seen.seat (λ right rises. (or_true v.notes.right w.notes.right right, rises_joined v.notes.posted w.notes.posted plain.none_posted rises)) (λ p. absurd (true≢false (sym may ∙ p.no_right))) in record {
      posting = posting_set us one other w s there (λ right rises. absurd (true≢false (sym right ∙ plain.no_right))) (λ p. record { no_right = refl; none_posted = refl; balanced = refl; settled = refl });
      cells = law.cells;
      counted = λ f. weigh_moved (posted_by f) vs id other v w j s seen.seat at ne (weigh_append f v.notes.posted w.notes.posted) refl ∙ (law.counted f
          ∙ ap (λ (z : ℕ). waiting f k ws (map flat hs) + z) (sym (weigh_moved (claimed_by f) vs id other v w j s seen.seat at ne (weigh_append f v.notes.claimed w.notes.claimed) refl)));
      fresh = fresh_spent ws us other s id j (set_here vs id j (below vs id v seen.seat)) seen.live refl ne refl;
      untouched = touched_spent k ws us id other j s (touched k ws ws vs law.untouched id v j seen.seat seen.live (omega arith)) (set_here vs id j (below vs id v seen.seat)) seen.live (omega arith) refl;
    }

pub plain_bounds : Bounds PlainHolds may_split
plain_bounds k ws out hs vs id v other w seen may at ne = let b = (plain_beside vs seen.lawful.posting id v seen.seat may other w ne at).balanced in omega (arith, b)
