-- The law that asks nothing of the words, and that each step keeps it.
use Rattle.std.specs.Prelude.{◌≡◌, ◌≢◌, ℕ, ◌≤◌, Bool, true, false, List, [], ◌∷◌, ◌++◌, slice_set, Option, ◌⊎◌, refl}
use Rattle.std.proofs.Common.{sym, ap, ◌∙◌, subst, inl, inr, ⊎_elim, true≢false, zero, suc, le_refl}
use mathlib.Core.Option.{some, some-ne-none}
use lib.ListN.{get_elem?}
use Rattle.atomic_table.proofs.Lists.{at_set, at_snoc}
use Rattle.packet_board.specs.declared.word.Word.{Word}
use Rattle.packet_board.specs.declared.layout.Layout.{Layout}
use Rattle.packet_board.specs.declared.buffer.Buffer.{Buffer}
use Rattle.packet_board.specs.declared.view.View.{View}
use Rattle.packet_board.specs.Views.{begun, newcomer, joined, spent, opening_view}
use Rattle.packet_board.specs.Laws.{Opens, Looks, Exchanges, Counts, Begins, Parts, Merges, Ends, Bounds}

abbrev pub Seats : Type 0
Seats = List (View Bool)

-- where one view has the right to split, no other has it, and none of the others has a balance above 0
abbrev pub OneSplits : Seats → Type 0
OneSplits vs = (i j : ℕ) (v w : View Bool) → get_elem? vs i ≡ some v → get_elem? vs j ≡ some w → v.notes ≡ true → j ≢ i → (w.notes ≡ false) × (w.begun ≤ w.ended)

abbrev pub free_holds : Layout → List Word → List (Option Buffer) → Seats → Type 0
free_holds k ws bs vs = OneSplits vs

-- every exchange, and the right stays where it is
abbrev pub free_allows : View Bool → ℕ → Word → Word → Option Buffer → Option Buffer → Bool → Type 0
free_allows v cell old new given found notes = notes ≡ v.notes

abbrev pub may_split : View Bool → Type 0
may_split v = v.notes ≡ true

-- one view became another that has the same right; unless it has the right, its balance is as before
replaced : (vs : Seats) (id : ℕ) (v w : View Bool) → OneSplits vs → get_elem? vs id ≡ some v → w.notes ≡ v.notes → (v.notes ≡ true) ⊎ ((w.begun ≡ v.begun) × (w.ended ≡ v.ended)) → OneSplits (slice_set vs id w)
replaced vs id v w one at same keeps i j x y ei ej right ne = ⊎_elim
    (λ p. ⊎_elim (λ q. absurd (ne (q.0 ∙ sym p.0))) (λ q. one id j v y at q.1 (sym same ∙ (ap (λ (z : View Bool). z.notes) p.1 ∙ right)) q.0) (at_set vs id j w y ej))
    (λ p. ⊎_elim
    (λ q. let o = one i id x v p.1 at right (λ e. p.0 (sym e)) in let off = ap (λ (z : View Bool). z.notes) (sym q.1) ∙ (same ∙ o.0) in
    (off, subst (λ (z : View Bool). z.begun ≤ z.ended) q.1 (⊎_elim (λ r. absurd (true≢false (sym r ∙ o.0))) (λ r. subst (λ (z : ℕ × ℕ). z.0 ≤ z.1) (λ n. (sym r.0 n, sym r.1 n)) o.1) keeps)))
    (λ q. one i j x y p.1 q.1 right ne) (at_set vs id j w y ej))
    (at_set vs id i w x ei)

one_only : (v x : View Bool) (j : ℕ) → get_elem? (v ∷ []) j ≡ some x → j ≡ 0
one_only v x zero e = refl
one_only v x (suc j) e = absurd (some-ne-none x (sym e))

pub free_opens : Opens free_holds (λ k. Unit {0}) (λ k. true)
free_opens k xs may new i j v w ei ej right ne = absurd (ne (one_only (opening_view k true) w j ej ∙ sym (one_only (opening_view k true) v i ei)))

pub free_looks : Looks free_holds
free_looks k ws out hs vs id v cell word seen at = replaced vs id v _ seen.lawful seen.seat refl (inr (refl, refl))

pub free_exchanges : Exchanges free_holds free_allows
free_exchanges k ws out hs vs id v cell old new given found notes meets same = replaced vs id v _ meets.seen.lawful meets.seen.seat same (inr (refl, refl))

pub free_counts : Counts free_holds
free_counts k ws out hs vs id v seen others = replaced vs id v _ seen.lawful seen.seat refl (inr (refl, refl))

pub free_begins : Begins free_holds may_split
free_begins k ws out hs vs id v seen may idle = replaced vs id v _ seen.lawful seen.seat refl (inl may)

-- the view behind the others is a newcomer's
joined_by : (vs : Seats) (r : View Bool) → OneSplits vs → r.notes ≡ false → r.begun ≤ r.ended → OneSplits (vs ++ r ∷ [])
joined_by vs r one off low i j x y ei ej right ne = ⊎_elim
    (λ p. ⊎_elim (λ q. one i j x y p q right ne) (λ q. subst (λ (z : View Bool). (z.notes ≡ false) × (z.begun ≤ z.ended)) q (off, low)) (at_snoc vs r y j ej))
    (λ p. absurd (true≢false (sym right ∙ (ap (λ (z : View Bool). z.notes) (sym p) ∙ off))))
    (at_snoc vs r x i ei)

pub free_parts : Parts free_holds may_split false
free_parts k ws out hs vs id v seen may idle = joined_by _ (newcomer false (begun v)) (replaced vs id (begun v) _ seen.lawful seen.seat refl (inl may)) refl (le_refl 0)

pub free_merges : Merges free_holds may_split (λ a b. a) false
free_merges k ws out hs vs id v other w seen may idle ne at live empty rests i j x y ei ej right apart =
    let one = replaced vs id v (joined (λ a b. a) v w) seen.lawful seen.seat refl (inl may) in let s : View Bool = spent false in let vs' : Seats = slice_set vs id (joined (λ a b. a) v w) in ⊎_elim
    (λ p. absurd (true≢false (sym right ∙ ap (λ (z : View Bool). z.notes) (sym p.1))))
    (λ p. ⊎_elim (λ q. subst (λ (z : View Bool). (z.notes ≡ false) × (z.begun ≤ z.ended)) q.1 (refl, le_refl 0)) (λ q. one i j x y p.1 q.1 right apart) (at_set vs' other j s y ej))
    (at_set vs' other i s x ei)

pub free_ends : Ends free_holds may_split (λ a b. a)
free_ends k ws out hs vs id v w seen may idle = replaced vs id (joined (λ a b. a) v w) _ seen.lawful seen.seat refl (inl may)

pub free_bounds : Bounds free_holds may_split
free_bounds k ws out hs vs id v other w seen may at ne = (seen.lawful id other v w seen.seat at may ne).1
