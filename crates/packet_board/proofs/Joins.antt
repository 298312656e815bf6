-- A view that is cut in two, and two views that become one.
use Rattle.std.proofs.Common.{◌≡◌, ◌≢◌, ℕ, ◌+◌, ◌<◌, true, true≢false, List, [], ◌∷◌, ◌++◌, length, length-set, set, sym, ap, ◌∙◌, subst, arith, ⊎_elim}
use mathlib.Core.Option.{some}
use lib.ListN.{get_elem?}
use Rattle.atomic_table.specs.Table.{Splits, Joins}
use Rattle.atomic_table.proofs.Lists.{at_set, at_snoc, set_else}
use Rattle.packet_board.specs.declared.word.Word.{Word}
use Rattle.packet_board.specs.declared.layout.Layout.{Layout}
use Rattle.packet_board.specs.declared.view.View.{View}
use Rattle.packet_board.specs.Words.{one_if, times, in_words}
use Rattle.packet_board.specs.Views.{begun, settled, newcomer, joined, spent, in_hands}
use Rattle.packet_board.specs.Laws.{Homes, Sound, Law, Parts, Merges}
use Rattle.packet_board.specs.Rule.{Kept, cells_of, out_of}
use Rattle.packet_board.specs.Weights.{below, weigh_set, weigh_more}
use Rattle.packet_board.proofs.Turns.{not_first, seen_of}

first_of : {A : Type 0} (xs : List A) (a b : A) → 0 < length xs → get_elem? (xs ++ a ∷ []) 0 ≡ some b → get_elem? xs 0 ≡ some b
first_of [] a b some_item e = absurd (omega arith)
first_of (x ∷ xs) a b some_item e = e

module _ {N : Type 0} where
  parted : (k : Layout) (ws : List Word) (out : ℕ) (hs : Homes) (vs : List (View N)) (id : ℕ) (v : View N) (blank : N) → Sound k ws out hs vs → get_elem? vs id ≡ some (begun v) → v.live ≡ true
      → Sound k ws out hs (set vs id (settled (begun v)) ++ newcomer blank (begun v) ∷ [])
  parted k ws out hs vs id v blank sound at live = let u : View N = begun v in let l : View N = settled u in let r : View N = newcomer blank u in let vs' : List (View N) = set vs id l in record {
    wide = sound.wide;
    long = sound.long;
    custody = λ b. let f = λ (z : View N). times b z.hands in let s = weigh_set f vs id u l at in let m = weigh_more f vs' r in let e : in_hands b (vs' ++ r ∷ []) ≡ in_hands b vs = omega (arith, s, m) in ap (λ (z : ℕ). in_words b ws + z) e ∙ sound.custody b;
    home = sound.home;
    away = sound.away;
    balanced = let f = λ (z : View N). z.ended in let g = λ (z : View N). z.begun in let s = weigh_set f vs id u l at in let m = weigh_more f vs' r in let s' = weigh_set g vs id u l at in let m' = weigh_more g vs' r in let c = sound.balanced in omega (arith, s, m, s', m', c);
    counted = let f = λ (z : View N). one_if z.live in let g = λ (z : View N). z.pending in let s = weigh_set f vs id u l at in let m = weigh_more f vs' r in let s' = weigh_set g vs id u l at in let m' = weigh_more g vs' r in let c = sound.counted in
        omega (arith, s, m, s', m', c);
    of_layout = λ j y e a. ⊎_elim (λ p. ⊎_elim (λ q. subst (λ (z : View N). z.layout ≡ k) q.1 (sound.of_layout id u at live)) (λ q. sound.of_layout j y q.1 a) (at_set vs id j l y p))
        (λ p. subst (λ (z : View N). z.layout ≡ k) p (sound.of_layout id u at live)) (at_snoc vs' r y j e);
    idle = λ j y e a. ⊎_elim (λ p. ⊎_elim (λ q. absurd (true≢false (sym live ∙ (ap (λ (z : View N). z.live) q.1 ∙ a)))) (λ q. sound.idle j y q.1 a) (at_set vs id j l y p))
        (λ p. absurd (true≢false (ap (λ (z : View N). z.live) p ∙ a))) (at_snoc vs' r y j e);
    lonely = λ j y e a. ⊎_elim (λ p. ⊎_elim (λ q. absurd (true≢false (sym (ap (λ (z : View N). z.alone) q.1 ∙ a)))) (λ q. sound.lonely j y q.1 a) (at_set vs id j l y p))
        (λ p. absurd (true≢false (sym (ap (λ (z : View N). z.alone) p ∙ a)))) (at_snoc vs' r y j e);
    untouched = λ y e a z. let b = below vs id u at in let s = length-set vs id l in absurd (not_first vs id u l y (λ y' e' a' z'. (sound.untouched y' e' a' z').one_seat) at (omega arith) (first_of vs' r y (omega (arith, b, s)) e) a z);
  }

  pub parts_seat : (holds : Law N) (splits : View N → Type 0) (blank : N) → Parts holds splits blank → (k : Layout) (id : ℕ) (v u : View N) → u ≡ begun v → v.live ≡ true → v.pending ≡ 0 → splits v → Splits (Kept holds k) id u (settled u) (newcomer blank u)
  parts_seat holds splits blank parts k id v u is live idle may s kept at = let at' : get_elem? s.views id ≡ some (begun v) = at ∙ ap some is in
      subst (λ (z : View N). Kept holds k record { words = s.words; homes = s.homes; views = set s.views id (settled z) ++ newcomer blank z ∷ [] }) (sym is) record {
        some_word = kept.some_word;
        stands = record {
          sound = parted k (cells_of s.words) (out_of s.words) s.homes s.views id v blank kept.stands.sound at' live;
          lawful = parts k (cells_of s.words) (out_of s.words) s.homes s.views id v (seen_of holds k s id (begun v) kept at' live) may idle;
        };
      }

  merged : (k : Layout) (ws : List Word) (out : ℕ) (hs : Homes) (vs : List (View N)) (id : ℕ) (v : View N) (other : ℕ) (w : View N) (both : N → N → N) (blank : N) → Sound k ws out hs vs → get_elem? vs id ≡ some v → v.live ≡ true → v.pending ≡ 0
      → other ≢ id → get_elem? vs other ≡ some w → w.live ≡ true → ((b : ℕ) → times b w.hands ≡ 0) → w.pending ≡ 0 → Sound k ws out hs (set (set vs id (joined both v w)) other (spent blank))
  merged k ws out hs vs id v other w both blank sound at live idle ne there alive empty rests = let u : View N = joined both v w in let x : View N = spent blank in let vs' : List (View N) = set vs id u in
      let there' : get_elem? vs' other ≡ some w = set_else vs id other u ne ∙ there in let o : one_if v.live ≡ 1 = ap one_if live in let o' : one_if w.live ≡ 1 = ap one_if alive in record {
        wide = sound.wide;
        long = sound.long;
        custody = λ b. let f = λ (z : View N). times b z.hands in let s = weigh_set f vs id v u at in let m = weigh_set f vs' other w x there' in let h = empty b in let e : in_hands b (set vs' other x) ≡ in_hands b vs = omega (arith, s, m, h) in
            ap (λ (z : ℕ). in_words b ws + z) e ∙ sound.custody b;
        home = sound.home;
        away = sound.away;
        balanced = let f = λ (z : View N). z.ended in let g = λ (z : View N). z.begun in let s = weigh_set f vs id v u at in let m = weigh_set f vs' other w x there' in let s' = weigh_set g vs id v u at in let m' = weigh_set g vs' other w x there' in
            let c = sound.balanced in omega (arith, s, m, s', m', c);
        counted = let f = λ (z : View N). one_if z.live in let g = λ (z : View N). z.pending in let s = weigh_set f vs id v u at in let m = weigh_set f vs' other w x there' in let s' = weigh_set g vs id v u at in let m' = weigh_set g vs' other w x there' in
            let c = sound.counted in omega (arith, s, m, s', m', c, o, o', idle, rests);
        of_layout = λ j y e a. ⊎_elim (λ p. absurd (true≢false (sym (ap (λ (z : View N). z.live) p.1 ∙ a)))) (λ p. ⊎_elim (λ q. subst (λ (z : View N). z.layout ≡ k) q.1 (sound.of_layout id v at live)) (λ q. sound.of_layout j y q.1 a) (at_set vs id j u y p.1)) (at_set vs' other j x y e);
        idle = λ j y e a. ⊎_elim (λ p b. ap (λ (z : View N). times b z.hands) (sym p.1)) (λ p. ⊎_elim (λ q. absurd (true≢false (sym live ∙ (ap (λ (z : View N). z.live) q.1 ∙ a)))) (λ q. sound.idle j y q.1 a) (at_set vs id j u y p.1)) (at_set vs' other j x y e);
        lonely = λ j y e a. ⊎_elim (λ p. absurd (true≢false (sym (ap (λ (z : View N). z.alone) p.1 ∙ a)))) (λ p. ⊎_elim (λ q. absurd (true≢false (sym (ap (λ (z : View N). z.alone) q.1 ∙ a)))) (λ q. sound.lonely j y q.1 a) (at_set vs id j u y p.1))
            (at_set vs' other j x y e);
        untouched = λ y e a z. ⊎_elim (λ p. absurd (true≢false (sym (ap (λ (z : View N). z.live) p.1 ∙ a)))) (λ p. absurd (not_first vs id v u y (λ y' e' a' z'. (sound.untouched y' e' a' z').one_seat) at (omega arith) p.1 a z)) (at_set vs' other 0 x y e);
      }

  pub merges_seat : (holds : Law N) (splits : View N → Type 0) (both : N → N → N) (blank : N) → Merges holds splits both blank → (k : Layout) (id : ℕ) (v : View N) (other : ℕ) (w : View N) → v.live ≡ true → v.pending ≡ 0 → splits v
      → w.live ≡ true → ((b : ℕ) → times b w.hands ≡ 0) → w.pending ≡ 0 → Joins (Kept holds k) id v other w (joined both v w) (spent blank)
  merges_seat holds splits both blank merges k id v other w live idle may alive empty rests s kept at ne there = let there' : get_elem? s.views other ≡ some w = sym (set_else s.views id other (joined both v w) ne) ∙ there in record {
    some_word = kept.some_word;
    stands = record {
      sound = merged k (cells_of s.words) (out_of s.words) s.homes s.views id v other w both blank kept.stands.sound at live idle ne there' alive empty rests;
      lawful = merges k (cells_of s.words) (out_of s.words) s.homes s.views id v other w (seen_of holds k s id v kept at live) may idle ne there' alive empty rests;
    };
  }
