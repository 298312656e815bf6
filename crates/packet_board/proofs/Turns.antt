-- Steps after which one view is another, and the number of seats out may be: a load, the number of seats out, and the beginning and end of a split and a join.
use Rattle.std.proofs.Common.{◌≡◌, ◌≢◌, ℕ, ◌+◌, ◌-◌, ◌%◌, ◌<◌, ◌≤◌, true, true≢false, eqb-true, List, length, length-set, map, set, get_or, Option, refl, sym, ap, ◌∙◌, subst, arith, mod-eq_of_lt, ⊎_elim}
use native.Mathlib.Nat.{add-mod_right}
use Rattle.std.proofs.lemmas.List.{set-get_or}
use mathlib.Core.Option.{some, none}
use lib.ListN.{get_elem?}
use Rattle.atomic_table.specs.Table.{State, Me, Act, step, keeps, Allows}
use Rattle.atomic_table.proofs.Lists.{at_set}
use Rattle.packet_board.specs.declared.word.Word.{Word}
use Rattle.packet_board.specs.declared.layout.Layout.{Layout}
use Rattle.packet_board.specs.declared.buffer.Buffer.{Buffer}
use Rattle.packet_board.specs.declared.view.View.{View}
use Rattle.packet_board.specs.Words.{one_if, times, in_words, unpacked, cell_count}
use Rattle.packet_board.specs.Hands.{flat}
use Rattle.packet_board.specs.Views.{looked, begun, joined, landed, told_out, in_hands}
use Rattle.packet_board.specs.Laws.{Homes, Sound, Law, Seen, WasAt, Looks, Counts, Begins, Ends, Bounds, Sees}
use Rattle.packet_board.specs.Rule.{Kept, Ready, Mine, cells_of, out_of, at_word, saw, counted, began, ended}
use Rattle.packet_board.specs.Weights.{below, weigh_set, weigh_at, weigh_beside}
use Rattle.packet_board.specs.Custody.{only}
use Rattle.packet_board.proofs.Cells.{cell_there, cells_kept, out_set, out_is}
use Rattle.packet_board.proofs.Brings.{same_state}

less_still : (n : ℕ) → n < 18446744073709551616 → n - 1 < 18446744073709551616
less_still n h = omega arith

module _ {N : Type 0} where
  -- a view that made a step is not that of an untouched board's seat
  pub not_first : (vs : List (View N)) (id : ℕ) (v w u : View N) → ((y : View N) → get_elem? vs 0 ≡ some y → y.live ≡ true → y.steps ≡ 0 → length vs ≡ 1) → get_elem? vs id ≡ some v → 0 < w.steps
      → get_elem? (set vs id w) 0 ≡ some u → u.live ≡ true → u.steps ≡ 0 → ⊥
  not_first vs id v w u one at stepped e live none_made = ⊎_elim (λ p. let s : w.steps ≡ 0 = ap (λ (z : View N). z.steps) p.1 ∙ none_made in absurd (omega (arith, stepped, s)))
      (λ p. let l = one u p.1 live none_made in let b = below vs id v at in let z : 0 ≡ id = omega (arith, l, b) in p.0 z) (at_set vs id 0 w u e)

  pub record Turn (v w : View N) (out out' : ℕ) : Type 0 where
    pub hands : (b : ℕ) → times b w.hands ≡ times b v.hands
    pub live : w.live ≡ v.live
    pub layout : w.layout ≡ v.layout
    pub balanced : out' + w.ended + v.begun ≡ out + v.ended + w.begun
    pub counted : out' + v.pending ≡ out + w.pending
    pub lonely : w.alone ≡ true → (out' ≡ 0) × (w.pending ≡ 0)
    pub stepped : 0 < w.steps

  pub turned : (k : Layout) (ws : List Word) (out out' : ℕ) (hs : Homes) (vs : List (View N)) (id : ℕ) (v w : View N) → Sound k ws out hs vs → get_elem? vs id ≡ some v → v.live ≡ true → Turn v w out out'
      → ((j : ℕ) (u : View N) → j ≢ id → get_elem? vs j ≡ some u → u.alone ≡ true → out' ≡ 0) → Sound k ws out' hs (set vs id w)
  turned k ws out out' hs vs id v w sound at live t others = record {
    wide = sound.wide;
    long = sound.long;
    custody = λ b. let s = weigh_set (λ (z : View N). times b z.hands) vs id v w at in let h = t.hands b in let x : ℕ = in_hands b (set vs id w) in let y : ℕ = in_hands b vs in
        let s' : x + times b v.hands ≡ y + times b w.hands = s in let e : x ≡ y = omega (arith, s', h) in ap (λ (z : ℕ). in_words b ws + z) e ∙ sound.custody b;
    home = sound.home;
    away = sound.away;
    balanced = let s = weigh_set (λ (z : View N). z.ended) vs id v w at in let r = weigh_set (λ (z : View N). z.begun) vs id v w at in let h = t.balanced in let c = sound.balanced in omega (arith, s, r, h, c);
    counted = let s = weigh_set (λ (z : View N). one_if z.live) vs id v w at in let r = weigh_set (λ (z : View N). z.pending) vs id v w at in let h = t.counted in let c = sound.counted in
        let l : one_if w.live ≡ one_if v.live = ap one_if t.live in omega (arith, s, r, h, c, l);
    of_layout = λ j u e l. ⊎_elim (λ p. subst (λ (z : View N). z.layout ≡ k) p.1 (t.layout ∙ sound.of_layout id v at live)) (λ p. sound.of_layout j u p.1 l) (at_set vs id j w u e);
    idle = λ j u e l. ⊎_elim (λ p. absurd (true≢false (sym live ∙ (sym t.live ∙ (ap (λ (z : View N). z.live) p.1 ∙ l))))) (λ p. sound.idle j u p.1 l) (at_set vs id j w u e);
    lonely = λ j u e l. ⊎_elim (λ p. let a = t.lonely (ap (λ (z : View N). z.alone) p.1 ∙ l) in (a.0, ap (λ (z : View N). z.pending) (sym p.1) ∙ a.1, ap (λ (z : View N). z.live) (sym p.1) ∙ (t.live ∙ live)))
        (λ p. let a = sound.lonely j u p.1 l in (others j u p.0 p.1 l, a.1, a.2)) (at_set vs id j w u e);
    untouched = λ u e l z. absurd (not_first vs id v w u (λ y e' l' z'. (sound.untouched y e' l' z').one_seat) at t.stepped e l z);
  }

  pub seen_of : (holds : Law N) (k : Layout) (s : State (Option Buffer) (View N)) (id : ℕ) (v : View N) → Kept holds k s → get_elem? s.views id ≡ some v → v.live ≡ true → Seen holds k (cells_of s.words) (out_of s.words) s.homes s.views id v
  seen_of holds k s id v kept at live = record { sound = kept.stands.sound; lawful = kept.stands.lawful; seat = at; live = live }

  pub was_at : (holds : Law N) (k : Layout) (s : State (Option Buffer) (View N)) (id : ℕ) (v : View N) (cell : ℕ) (word : Word) → Sound k (cells_of s.words) (out_of s.words) s.homes s.views
      → Seen holds k (cells_of s.words) (out_of s.words) s.homes s.views id v → get_elem? (cells_of s.words) cell ≡ some word → WasAt holds cell word v
  was_at holds k s id v cell word sound seen here = (cells_of s.words, out_of s.words, s.homes, s.views, id, subst (λ (l : Layout). Seen holds l (cells_of s.words) (out_of s.words) s.homes s.views id v) (sym (sound.of_layout id v seen.seat seen.live)) seen, here)

  -- a load that leaves words and slots, and another view
  reviewed : (holds : Law N) (k : Layout) (s : State (Option Buffer) (View N)) (i id : ℕ) (w : View N) → Kept holds k s → Sound k (cells_of s.words) (out_of s.words) s.homes (set s.views id w) → holds k (cells_of s.words) (map flat s.homes) (set s.views id w)
      → Kept holds k record { words = set s.words i (get_or s.words i 0); homes = s.homes; views = set s.views id w }
  reviewed holds k s i id w kept sound lawful = same_state holds k record { words = s.words; homes = s.homes; views = set s.views id w } (set s.words i (get_or s.words i 0)) s.homes (set s.views id w) (set-get_or s.words i 0) refl refl
      record { some_word = kept.some_word; stands = record { sound = sound; lawful = lawful } }

  -- a load and an exchange that finds another word: the seat has met the word
  pub looks_again : (holds : Law N) → Looks holds → (k : Layout) (id i : ℕ) (v : View N) (s : State (Option Buffer) (View N)) → Kept holds k s → get_elem? s.views id ≡ some v → v.live ≡ true → get_elem? (cells_of s.words) (i - 1) ≡ some (unpacked (get_or s.words i 0))
      → Kept holds k record { words = set s.words i (get_or s.words i 0); homes = s.homes; views = set s.views id (looked v (i - 1) (unpacked (get_or s.words i 0))) }
  looks_again holds looks k id i v s kept at live here = let sound = kept.stands.sound in let word : Word = unpacked (get_or s.words i 0) in let w : View N = looked v (i - 1) word in
      reviewed holds k s i id w kept (turned k (cells_of s.words) (out_of s.words) (out_of s.words) s.homes s.views id v w sound at live
      record { hands = λ b. refl; live = refl; layout = refl; balanced = refl; counted = refl; lonely = λ a. let l = sound.lonely id v at a in (l.0, l.1); stepped = omega arith } (λ j u ne e a. (sound.lonely j u e a).0))
      (looks k (cells_of s.words) (out_of s.words) s.homes s.views id v (i - 1) word (seen_of holds k s id v kept at live) here)

  pub loads : (holds : Law N) → Looks holds → (k : Layout) (slots id i : ℕ) (me : Mine N) (tells : View N → Word → Type 0) → 0 < i → i - 1 < cell_count k → Ready me.0 me.1 → Sees holds k id me.0 (i - 1) tells
      → Allows (Kept holds k) slots id me i (λ r. r) (at_word holds (saw tells) (step slots i 0 0 none) me)
  loads holds looks k slots id i me tells pos room ready sees s kept _ at _ = let sound = kept.stands.sound in let seen = seen_of holds k s id me.0 kept at ready.live in
      let word : Word = unpacked (get_or s.words i 0) in let wide = sound.wide in let here = cell_there s.words i pos (subst (λ (z : ℕ). i - 1 < z) (sym wide) room) in let w : View N = looked me.0 (i - 1) word in (
        w,
        keeps,
        tt,
        looks_again holds looks k id i me.0 s kept at ready.live here,
        ((refl, sees (cells_of s.words) (out_of s.words) s.homes s.views word seen here), was_at holds k s id me.0 (i - 1) word sound seen here),
      )

  pub counts_seats : (holds : Law N) → Counts holds → (k : Layout) (slots id : ℕ) (me : Mine N) → Ready me.0 me.1 → Allows (Kept holds k) slots id me 0 (λ r. r) (counted holds (step slots 0 0 0 none) me)
  counts_seats holds counts k slots id me ready s kept _ at _ = let sound = kept.stands.sound in let seen = seen_of holds k s id me.0 kept at ready.live in let out : ℕ = out_of s.words in let w : View N = told_out out me.0 in
      let is = out_is s.words kept.some_word in let lay = sound.of_layout id me.0 at ready.live in
      subst (λ (r : ℕ). (x : View N) × (a : Act (Option Buffer)) × Rattle.atomic_table.specs.Table.Valid s.homes me.1 a × Kept holds k (Rattle.atomic_table.specs.Table.stepped s 0 (get_or s.words 0 0) id me.1 x a)
      × counted holds (step slots 0 0 0 none) me r (x, Rattle.atomic_table.specs.Table.carried_after me.1 a)) (sym is) (
        w,
        keeps,
        tt,
        reviewed holds k s 0 id w kept (turned k (cells_of s.words) out out s.homes s.views id me.0 w sound at ready.live
            record { hands = λ b. refl; live = refl; layout = refl; balanced = refl; counted = refl; lonely = λ a. (eqb-true out 0 a, ready.settled); stepped = omega arith } (λ j u ne e a. (sound.lonely j u e a).0))
            (counts k (cells_of s.words) out s.homes s.views id me.0 seen (λ z j u ne e. only k (cells_of s.words) out s.homes s.views id me.0 j u sound at ready.live z ne e)),
        (refl, (cells_of s.words, s.homes, s.views, id, subst (λ (l : Layout). Seen holds l (cells_of s.words) out s.homes s.views id me.0) (sym lay) seen)),
      )

  -- the number of seats out changed, and one view
  rewritten : (holds : Law N) (k : Layout) (s : State (Option Buffer) (View N)) (x id : ℕ) (w : View N) → Kept holds k s → Sound k (cells_of s.words) x s.homes (set s.views id w) → holds k (cells_of s.words) (map flat s.homes) (set s.views id w)
      → Kept holds k record { words = set s.words 0 x; homes = s.homes; views = set s.views id w }
  rewritten holds k s x id w kept sound lawful = record {
    some_word = subst (λ (z : ℕ). 0 < z) (sym (length-set s.words 0 x)) kept.some_word;
    stands = record {
      sound = subst (λ (z : List Word × ℕ). Sound k z.0 z.1 s.homes (set s.views id w)) (λ i. (sym (cells_kept s.words x) i, sym (out_set s.words x kept.some_word) i)) sound;
      lawful = subst (λ (z : List Word). holds k z (map flat s.homes) (set s.views id w)) (sym (cells_kept s.words x)) lawful;
    };
  }

  pub begins_split : (holds : Law N) (splits : View N → Type 0) → Begins holds splits → Bounds holds splits → (k : Layout) (slots id : ℕ) (me : Mine N) → Ready me.0 me.1 → splits me.0 → me.0.begun < me.0.ended + 4611686018427387904
      → Allows (Kept holds k) slots id me 0 (λ n. (n + 1) % 18446744073709551616) (began (step slots 0 1 0 none) me)
  begins_split holds splits begins bounds k slots id me ready may low s kept _ at _ = let sound = kept.stands.sound in let seen = seen_of holds k s id me.0 kept at ready.live in let out : ℕ = out_of s.words in let w : View N = begun me.0 in
      let beside = weigh_beside (λ (z : View N). z.begun) (λ (z : View N). z.ended) s.views id me.0 at (λ j u e ne. bounds k (cells_of s.words) out s.homes s.views id me.0 j u seen may e ne) in let sum = sound.balanced in
      let few : out + 1 < 18446744073709551616 = omega (arith, beside, sum, low) in let is = out_is s.words kept.some_word in
      let x : (get_or s.words 0 0 + 1) % 18446744073709551616 ≡ out + 1 = ap (λ (z : ℕ). (z + 1) % 18446744073709551616) is ∙ mod-eq_of_lt few in (
        w,
        keeps,
        tt,
        subst (λ (z : ℕ). Kept holds k record { words = set s.words 0 z; homes = s.homes; views = set s.views id w }) (sym x)
            (rewritten holds k s (out + 1) id w kept (turned k (cells_of s.words) out (out + 1) s.homes s.views id me.0 w sound at ready.live
            record { hands = λ b. refl; live = refl; layout = refl; balanced = omega arith; counted = let p = ready.settled in omega (arith, p); lonely = λ a. absurd (true≢false (sym a)); stepped = omega arith }
            (λ j u ne e a. let l = sound.lonely j u e a in absurd (true≢false (sym l.2 ∙ only k (cells_of s.words) out s.homes s.views id me.0 j u sound at ready.live l.0 ne e))))
            (begins k (cells_of s.words) out s.homes s.views id me.0 seen may ready.settled)),
        refl,
      )

  pub ends_join : (holds : Law N) (splits : View N → Type 0) (both : N → N → N) → Ends holds splits both → (k : Layout) (slots id : ℕ) (me : Mine N) (v w : View N) → me.0 ≡ joined both v w → v.live ≡ true → v.pending ≡ 0 → splits v
      → Allows (Kept holds k) slots id me 0 (λ n. (n + 18446744073709551615) % 18446744073709551616) (ended (step slots 0 1 0 none) me)
  ends_join holds splits both ends k slots id me v w is live idle may s kept _ at bound = let sound = kept.stands.sound in let u : View N = joined both v w in let at' : get_elem? s.views id ≡ some u = at ∙ ap some is in
      let seen = seen_of holds k s id u kept at' live in let out : ℕ = out_of s.words in let z : View N = landed u in let n = out_is s.words kept.some_word in
      let l = weigh_at (λ (y : View N). one_if y.live) s.views id u at' in let p = weigh_at (λ (y : View N). y.pending) s.views id u at' in let c = sound.counted in let o : one_if u.live ≡ 1 = ap one_if live in
      let some_out : 1 ≤ out = omega (arith, l, p, c, o) in let few : out < 18446744073709551616 = subst (λ (y : ℕ). y < 18446744073709551616) n bound in
      let shift : out + 18446744073709551615 ≡ (out - 1) + 18446744073709551616 = omega (arith, some_out) in
      let x : (get_or s.words 0 0 + 18446744073709551615) % 18446744073709551616 ≡ out - 1 = ap (λ (y : ℕ). (y + 18446744073709551615) % 18446744073709551616) n ∙ (ap (λ (y : ℕ). y % 18446744073709551616) shift
      ∙ (add-mod_right (out - 1) 18446744073709551616 ∙ mod-eq_of_lt (less_still out few))) in (
        z,
        keeps,
        tt,
        subst (λ (y : ℕ). Kept holds k record { words = set s.words 0 y; homes = s.homes; views = set s.views id z }) (sym x)
            (rewritten holds k s (out - 1) id z kept (turned k (cells_of s.words) out (out - 1) s.homes s.views id u z sound at' live
            record { hands = λ b. refl; live = refl; layout = refl; balanced = omega (arith, some_out); counted = omega (arith, some_out); lonely = λ a. absurd (true≢false (sym a)); stepped = omega arith }
            (λ j y ne e a. let q = (sound.lonely j y e a).0 in omega (arith, q)))
            (ends k (cells_of s.words) out s.homes s.views id v w seen may idle)),
        (λ i. (landed (sym is i), me.1)),
      )
