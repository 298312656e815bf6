-- An exchange of a cell's word keeps the board's rule, and tells its seat what it did.
use Rattle.std.proofs.Common.{◌≡◌, ◌≢◌, ℕ, ◌+◌, ◌-◌, ◌<◌, ◌≤◌, eqb, eq-eqb, ne_eqb, if◌then◌else◌, true, true≢false, nat_lt, ltb-true, List, length-set, map, set, get_or, Option, Some, None, refl, sym, ap, ◌∙◌, subst, arith, ⊎_elim}
use mathlib.Core.Option.{some, none, some-injective, some-ne-none}
use mathlib.Core.Logic.{dite}
use native.Mathlib.Decide.{ℕ_discrete}
use prog.Atomic.{either}
use lib.ListN.{get_elem?}
use Rattle.atomic_table.specs.Table.{State, Act, step, stepped, keeps, chain, carried_after, homes_after, Valid, Allows}
use Rattle.atomic_table.proofs.Lists.{at_set}
use Rattle.atomic_table.proofs.Lists.{exchanged as two_ways}
use Rattle.packet_board.specs.declared.word.Word.{Word}
use Rattle.packet_board.specs.declared.layout.Layout.{Layout}
use Rattle.packet_board.specs.declared.buffer.Buffer.{Buffer}
use Rattle.packet_board.specs.declared.view.View.{View}
use Rattle.packet_board.specs.Words.{one_if, names, times, in_words, unpacked, buffers_of, cell_count, IsBuffer}
use Rattle.packet_board.specs.Hands.{gives_of, takes_of, lose, gain, placed, flat, Slots, lookup, drop_out, take_in, keys, CanGive, given_by, Found}
use Rattle.packet_board.specs.Views.{looked, exchanged, in_hands}
use Rattle.packet_board.specs.Laws.{Homes, Sound, Law, Allowing, Looks, Exchanges, Learns, Picks}
use Rattle.packet_board.specs.Rule.{Kept, Ready, Mine, cells_of, out_of, Swapped, swapped, at_word}
use Rattle.packet_board.specs.Seats.{Exchanged}
use Rattle.packet_board.specs.Weights.{weigh_set, weigh_at, one_at_most, names_self, names_at_most, names_is, from_one, times_lose, times_gain}
use Rattle.packet_board.specs.Holding.{counted_key, none_not_some, same_value, takes_from, placed_else}
use Rattle.packet_board.proofs.Slots.{gone_held}
use Rattle.packet_board.proofs.Brings.{outs, still_ready}
use Rattle.packet_board.proofs.Cells.{cell_there, cells_set, out_kept}
use Rattle.packet_board.proofs.Packs.{unpacked_apart}
use Rattle.packet_board.proofs.Turns.{not_first, seen_of, was_at, looks_again}
use Rattle.packet_board.proofs.Flows.{flows, apart, length_placed, placed_here, map_placed, keys_after, held_after, giving, taking}

taken_room : (k : Layout) (t : Option ℕ) (found : Option Buffer) → Found k t found → (n : ℕ) → 1 ≤ names n t → n < buffers_of k
taken_room k None found sort n h = absurd (omega arith)
taken_room k (Some o) found sort n h = subst (λ (z : ℕ). z < buffers_of k) (same_value o n (names_is n (Some o) h)) sort.2

module _ {N : Type 0} where
  -- a number that a word names is in no hands, and is that of a buffer
  in_one_word : (k : Layout) (ws : List Word) (out : ℕ) (hs : Homes) (vs : List (View N)) (cell : ℕ) (w : Word) (n : ℕ) → Sound k ws out hs vs → get_elem? ws cell ≡ some w → w.buffer ≡ Some n → (in_words n ws ≡ 1) × (in_hands n vs ≡ 0) × (n < buffers_of k)
  in_one_word k ws out hs vs cell w n sound at is = let a = weigh_at (λ (z : Word). names n z.buffer) ws cell w at in let o : names n w.buffer ≡ 1 = ap (names n) is ∙ names_self n in let c = sound.custody n in let m = one_at_most (nat_lt n (buffers_of k)) in
      let x : ℕ = in_words n ws in let y : ℕ = in_hands n vs in let z : ℕ = one_if (nat_lt n (buffers_of k)) in let a' : names n w.buffer ≤ x = a in let c' : x + y ≡ z = c in let m' : z ≤ 1 = m in
      let full : 1 ≤ z = omega (arith, a', o, c') in (
        (omega (arith, a', o, c', m')),
        (omega (arith, a', o, c', m')),
        ltb-true n (buffers_of k) (from_one (nat_lt n (buffers_of k)) full),
      )

  -- what lies behind the number that is taken
  finding : (k : Layout) (ws : List Word) (out : ℕ) (hs : Homes) (vs : List (View N)) → Sound k ws out hs vs → (t : Option ℕ) → ((o : ℕ) → t ≡ Some o → (in_words o ws ≡ 1) × (in_hands o vs ≡ 0) × (o < buffers_of k))
      → (found : Option Buffer) × Found k t found × ((o : ℕ) → t ≡ Some o → get_elem? hs o ≡ some (some found))
  finding k ws out hs vs sound None there = (None, refl, λ o e. absurd (none_not_some o e))
  finding k ws out hs vs sound (Some o) there = let h = there o refl in let y = sound.home o h.0 in (Some y.0, (y.0, refl, h.2, y.2), λ m e. subst (λ (z : ℕ). get_elem? hs z ≡ some (some (Some y.0))) (same_value o m e) y.1)

  -- the state after an exchange
  moved : (k : Layout) (ws : List Word) (out : ℕ) (hs : Homes) (vs : List (View N)) (id : ℕ) (v : View N) (cell : ℕ) (old new : Word) (given : Option Buffer) (notes : N) → Sound k ws out hs vs → get_elem? vs id ≡ some v → v.live ≡ true
      → get_elem? ws cell ≡ some old → ((n : ℕ) → gives_of old.buffer new.buffer ≡ Some n → (1 ≤ times n v.hands) × ((y : Buffer) × (given ≡ Some y) × (n < buffers_of k) × IsBuffer k n y))
      → Sound k (set ws cell new) out (placed (takes_of old.buffer new.buffer) none (placed (gives_of old.buffer new.buffer) (some given) hs)) (set vs id (exchanged v cell old new notes))
  moved k ws out hs vs id v cell old new given notes sound at live here can =
      let g : Option ℕ = gives_of old.buffer new.buffer in let t : Option ℕ = takes_of old.buffer new.buffer in let w : View N = exchanged v cell old new notes in let ws' : List Word = set ws cell new in let vs' : List (View N) = set vs id w in
      let hands = λ (b : ℕ). let l = times_lose g b v.hands (λ n e. (can n e).0) in let r = times_gain t b (lose g v.hands) in let x : times b w.hands + names b g ≡ times b v.hands + names b t = omega (arith, l, r) in x in
      let words = λ (b : ℕ). let s = weigh_set (λ (z : Word). names b z.buffer) ws cell old new here in let f = flows old.buffer new.buffer b in let x : in_words b ws' + names b t ≡ in_words b ws + names b g = omega (arith, s, f) in x in
      let total = λ (b : ℕ). let s = weigh_set (λ (z : View N). times b z.hands) vs id v w at in let h = hands b in let p = words b in let x : in_words b ws' + in_hands b vs' ≡ in_words b ws + in_hands b vs = omega (arith, s, h, p) in x in
      let most = λ (b : ℕ). let c = sound.custody b in let m = one_at_most (nat_lt b (buffers_of k)) in let e : in_words b ws + in_hands b vs ≤ 1 = omega (arith, c, m) in e in record {
        wide = length-set ws cell new ∙ sound.wide;
        long = length_placed t none (placed g (some given) hs) ∙ (length_placed g (some given) hs ∙ sound.long);
        custody = λ b. total b ∙ sound.custody b;
        home = λ b h. let p = words b in let a = apart old.buffer new.buffer b in let m = most b in let not_taken : names b t ≡ 0 = omega (arith, h, p, a, m) in
            dite (ℕ_discrete (names b g) 0)
            (λ z. let o = sound.home b (omega (arith, h, p, not_taken, z)) in (o.0, placed_else t none (placed g (some given) hs) b not_taken ∙ (placed_else g (some given) hs b z ∙ o.1), o.2))
            (λ nz. let one : 1 ≤ names b g = omega arith in let y = (can b (names_is b g one)).1 in
            (y.0, placed_else t none (placed g (some given) hs) b not_taken ∙ (placed_here g (some given) hs b one (subst (λ (z : ℕ). b < z) (sym sound.long) y.2) ∙ ap (λ (z : Option Buffer). some (some z)) y.1), y.3));
        away = λ b room h. let p = words b in let a = apart old.buffer new.buffer b in
            dite (ℕ_discrete (names b t) 0)
            (λ z. let none_given : names b g ≡ 0 = omega (arith, h, p, z) in placed_else t none (placed g (some given) hs) b z ∙ (placed_else g (some given) hs b none_given ∙ sound.away b room (omega (arith, h, p, z, none_given))))
            (λ nz. let one : 1 ≤ names b t = omega arith in placed_here t none (placed g (some given) hs) b one (subst (λ (z : ℕ). b < z) (sym (length_placed g (some given) hs ∙ sound.long)) room));
        balanced = let s = weigh_set (λ (z : View N). z.ended) vs id v w at in let r = weigh_set (λ (z : View N). z.begun) vs id v w at in let c = sound.balanced in omega (arith, s, r, c);
        counted = let s = weigh_set (λ (z : View N). one_if z.live) vs id v w at in let r = weigh_set (λ (z : View N). z.pending) vs id v w at in let c = sound.counted in omega (arith, s, r, c);
        of_layout = λ j u e l. ⊎_elim (λ p. subst (λ (z : View N). z.layout ≡ k) p.1 (sound.of_layout id v at live)) (λ p. sound.of_layout j u p.1 l) (at_set vs id j w u e);
        idle = λ j u e l. ⊎_elim (λ p. absurd (true≢false (sym live ∙ (ap (λ (z : View N). z.live) p.1 ∙ l)))) (λ p. sound.idle j u p.1 l) (at_set vs id j w u e);
        lonely = λ j u e l. ⊎_elim (λ p. let a = sound.lonely id v at (ap (λ (z : View N). z.alone) p.1 ∙ l) in (a.0, ap (λ (z : View N). z.pending) (sym p.1) ∙ a.1, ap (λ (z : View N). z.live) (sym p.1) ∙ a.2)) (λ p. sound.lonely j u p.1 l) (at_set vs id j w u e);
        untouched = λ u e l z. absurd (not_first vs id v w u (λ y e' l' z'. (sound.untouched y e' l' z').one_seat) at (omega arith) e l z);
      }

  given_buffer : (v : View N) (c : Slots) (k : Layout) (g : Option ℕ) → Ready v c → v.layout ≡ k → CanGive g (lookup c) → (n : ℕ) → g ≡ Some n → (1 ≤ times n v.hands) × ((y : Buffer) × (given_by g (lookup c) ≡ Some y) × (n < buffers_of k) × IsBuffer k n y)
  given_buffer v c k None ready lay can n e = absurd (none_not_some n e)
  given_buffer v c k (Some m) ready lay can n e = let is = same_value m n e in let once = counted_key c m (Some can.0) can.1 in let tied = ready.tied m in let mine : 1 ≤ times m v.hands = omega (arith, once, tied) in
      let y : Buffer = can.0 in let room = subst (λ (l : Layout). m < buffers_of l) lay (ready.numbered m mine) in let fits = subst (λ (l : Layout). IsBuffer l m y) lay (ready.bounded m y can.1) in
      (subst (λ (z : ℕ). 1 ≤ times z v.hands) is mine, (y, ap flat can.1, subst (λ (z : ℕ). z < buffers_of k) is room, subst (λ (z : ℕ). IsBuffer k z y) is fits))

  -- what holds of the seat and the table after the number found
  After : (holds : Law N) (k : Layout) (slots id i a b : ℕ) (me : Mine N) (chooses : View N → Option Buffer → N → Type 0) (tells : View N → Word → Type 0) (s : State (Option Buffer) (View N)) → ℕ → Type 0
  After holds k slots id i a b me chooses tells s z = (w : View N) × (act : Act (Option Buffer)) × Valid s.homes me.1 act × Kept holds k (stepped s i z id me.1 w act)
      × at_word holds (swapped (λ v cell old new found notes. chooses v found notes) tells) (step slots i a b none) me (get_or s.words i 0) (w, carried_after me.1 act)

  module _ (holds : Law N) (allows : Allowing N) (exchanges : Exchanges holds allows) (looks : Looks holds) (k : Layout) (slots id i a b : ℕ) (me : Mine N) (chooses : View N → Option Buffer → N → Type 0) (tells : View N → Word → Type 0)
      (pos : 0 < i) (room : i - 1 < cell_count k) (ready : Ready me.0 me.1) (can : CanGive (gives_of (unpacked a).buffer (unpacked b).buffer) (lookup me.1))
      (picks : Picks holds allows chooses k id me.0 (i - 1) (unpacked a) (unpacked b) (given_by (gives_of (unpacked a).buffer (unpacked b).buffer) (lookup me.1)))
      (learns : Learns holds k id me.0 (i - 1) (unpacked a) tells) where
    misses : (s : State (Option Buffer) (View N)) → Kept holds k s → get_elem? s.views id ≡ some me.0 → get_or s.words i 0 ≢ a → After holds k slots id i a b me chooses tells s (get_or s.words i 0)
    unfolding After
    misses s kept at ne = let r : ℕ = get_or s.words i 0 in let sound = kept.stands.sound in let wide = sound.wide in let here = cell_there s.words i pos (subst (λ (z : ℕ). i - 1 < z) (sym wide) room) in (
      looked me.0 (i - 1) (unpacked r),
      keeps,
      tt,
      looks_again holds looks k id i me.0 s kept at ready.live here,
      (
        ((λ e. absurd (ne e)), λ _. (refl, learns (cells_of s.words) (out_of s.words) s.homes s.views (unpacked r) (seen_of holds k s id me.0 kept at ready.live) here (unpacked_apart r a ne))),
        was_at holds k s id me.0 (i - 1) (unpacked r) sound (seen_of holds k s id me.0 kept at ready.live) here,
      ),
    )

    hits : (s : State (Option Buffer) (View N)) → Kept holds k s → get_elem? s.views id ≡ some me.0 → get_or s.words i 0 ≡ a → After holds k slots id i a b me chooses tells s b
    unfolding After
    hits s kept at hit = let old : Word = unpacked a in let new : Word = unpacked b in let g : Option ℕ = gives_of old.buffer new.buffer in let t : Option ℕ = takes_of old.buffer new.buffer in
        let ws : List Word = cells_of s.words in let out : ℕ = out_of s.words in let hs : Homes = s.homes in let vs : List (View N) = s.views in let v : View N = me.0 in let c : Slots = me.1 in let cell : ℕ = i - 1 in
        let sound = kept.stands.sound in let wide = sound.wide in let lay = sound.of_layout id v at ready.live in
        let there = cell_there s.words i pos (subst (λ (z : ℕ). cell < z) (sym wide) room) in let here : get_elem? ws cell ≡ some old = there ∙ ap (λ (z : ℕ). some (unpacked z)) hit in
        let taken = λ (o : ℕ) (e : t ≡ Some o). in_one_word k ws out hs vs cell old o sound here (takes_from old.buffer new.buffer o e) in
        let f = finding k ws out hs vs sound t taken in let found : Option Buffer = f.0 in let given : Option Buffer = given_by g (lookup c) in
        let giver = given_buffer v c k g ready lay can in let ga = giving g hs c (outs k ws out hs vs id v c sound at ready) can in
        let hs' : Homes = homes_after hs c ga.act in let c' : Slots = carried_after c ga.act in
        let ta = taking t found hs' c' (λ o e. let none_given : names o g ≡ 0 = (let p = apart old.buffer new.buffer o in let q : names o t ≡ 1 = ap (names o) e ∙ names_self o in omega (arith, p, q)) in
        ap (λ (z : Homes). get_elem? z o) ga.homes ∙ (placed_else g (some given) hs o none_given ∙ f.2 o e)) in
        let p = picks ws out hs vs found record { seen = seen_of holds k s id v kept at ready.live; at_cell = here; given = λ n e. (giver n e).0; sort = f.1; taken = f.2 } in
        let w : View N = exchanged v cell old new p.0 in
        let homes : homes_after hs' c' ta.act ≡ placed t none (placed g (some given) hs) = ta.homes ∙ ap (λ (z : Homes). placed t none z) ga.homes in
        let flats : map flat (placed t none (placed g (some given) hs)) ≡ placed t None (placed g given (map flat hs)) = map_placed flat t none (placed g (some given) hs) ∙ ap (λ (z : List (Option Buffer)). placed t None z) (map_placed flat g (some given) hs) in
        let law = exchanges k ws out hs vs id v cell old new given found p.0 record { seen = seen_of holds k s id v kept at ready.live; at_cell = here; given = λ n e. (giver n e).0; sort = f.1; taken = f.2 } p.1 in
        let after = moved k ws out hs vs id v cell old new given p.0 sound at ready.live here giver in (
          w,
          chain ga.act ta.act,
          (ga.valid, ta.valid),
          record {
            some_word = subst (λ (z : ℕ). 0 < z) (sym (length-set s.words i b)) kept.some_word;
            stands = record {
              sound = subst (λ (z : List Word × ℕ × Homes). Sound k z.0 z.1 z.2 (set vs id w)) (λ j. (sym (cells_set s.words i b pos) j, sym (out_kept s.words i b pos) j, sym homes j)) after;
              lawful = subst (λ (z : List Word × List (Option Buffer)). holds k z.0 z.1 (set vs id w)) (λ j. (sym (cells_set s.words i b pos) j, sym (ap (map flat) homes ∙ flats) j)) law;
            };
          },
          (
            (
              (λ _. record {
                found = found;
                notes = p.0;
                sort = subst (λ (l : Layout). Found l t found) (sym lay) f.1;
                fresh = λ o e. let m = weigh_at (λ (z : View N). times o z.hands) vs id v at in let z = (taken o e).1 in let y : ℕ = in_hands o vs in let m' : times o v.hands ≤ y = m in let z' : y ≡ 0 = z in omega (arith, m', z');
                picked = p.2;
                after = λ j. (w, (ta.carried ∙ ap (λ (z : Slots). take_in t found z) ga.carried) j);
              }),
              λ ne. absurd (ne hit),
            ),
            was_at holds k s id v cell (unpacked (get_or s.words i 0)) sound (seen_of holds k s id v kept at ready.live) there,
          ),
        )

    pub swaps : Allows (Kept holds k) slots id me i (λ n. either (eqb n a) b n) (at_word holds (swapped (λ v cell old new found notes. chooses v found notes) tells) (step slots i a b none) me)
    unfolding After
    swaps s kept _ at _ = two_ways (get_or s.words i 0) a b (After holds k slots id i a b me chooses tells s) (λ e. hits s kept at e) (λ ne. misses s kept at ne)

  dropped_bounded : (v : View N) (c : Slots) (g : Option ℕ) → Ready v c → ((n : ℕ) → g ≡ Some n → times n (keys c) ≡ 1) → (n : ℕ) (y : Buffer) → lookup (drop_out g c) n ≡ some (Some y) → IsBuffer v.layout n y
  dropped_bounded v c None ready once n y e = ready.bounded n y e
  dropped_bounded v c (Some m) ready once n y e = let h = gone_held c m (once m refl) in let f = sym (ap (λ z. z n) h) ∙ e in
      dite (ℕ_discrete m n) (λ is. absurd (some-ne-none (Some y) (sym (subst (λ t. (if t then none else lookup c n) ≡ some (Some y)) (eq-eqb m n is) f)))) (λ ne. ready.bounded n y (subst (λ t. (if t then none else lookup c n) ≡ some (Some y)) (ne_eqb m n ne) f))

  after_bounded : (v : View N) (c : Slots) (g t : Option ℕ) (found : Option Buffer) → Ready v c → ((n : ℕ) → g ≡ Some n → times n (keys c) ≡ 1) → Found v.layout t found → (n : ℕ) (y : Buffer) → lookup (take_in t found (drop_out g c)) n ≡ some (Some y) → IsBuffer v.layout n y
  after_bounded v c g None found ready once sort n y e = dropped_bounded v c g ready once n y e
  after_bounded v c g (Some o) found ready once sort n y e = dite (ℕ_discrete o n)
      (λ is. let f : found ≡ Some y = some-injective found (Some y) (subst (λ t. (if t then some found else lookup (drop_out g c) n) ≡ some (Some y)) (eq-eqb o n is) e) in
      subst (λ (z : ℕ). IsBuffer v.layout z y) is (subst (λ (z : Buffer). IsBuffer v.layout o z) (same_value sort.0 y (sym sort.1 ∙ f)) sort.3))
      (λ ne. dropped_bounded v c g ready once n y (subst (λ t. (if t then some found else lookup (drop_out g c) n) ≡ some (Some y)) (ne_eqb o n ne) e))

  -- what is given away is in the hands just once
  pub given_once : (v : View N) (c : Slots) (g : Option ℕ) → Ready v c → CanGive g (lookup c) → (n : ℕ) → g ≡ Some n → times n (keys c) ≡ 1
  given_once v c None ready can n e = absurd (none_not_some n e)
  given_once v c (Some m) ready can n e = let is = same_value m n e in let once = counted_key c m (Some can.0) can.1 in let tied = ready.tied m in let single = ready.single m in
      subst (λ (z : ℕ). times z (keys c) ≡ 1) is (let x : ℕ = times m (keys c) in let y : ℕ = times m v.hands in let o : 1 ≤ x = once in let p : y ≡ x = tied in let q : y ≤ 1 = single in omega (arith, o, p, q))

  -- the seat is ready for its next step
  pub ready_after : (v : View N) (c : Slots) (cell : ℕ) (old new : Word) (found : Option Buffer) (notes : N) → Ready v c → CanGive (gives_of old.buffer new.buffer) (lookup c) → Found v.layout (takes_of old.buffer new.buffer) found
      → ((o : ℕ) → takes_of old.buffer new.buffer ≡ Some o → times o v.hands ≡ 0) → Ready (exchanged v cell old new notes) (take_in (takes_of old.buffer new.buffer) found (drop_out (gives_of old.buffer new.buffer) c))
  ready_after v c cell old new found notes ready can sort fresh = let g : Option ℕ = gives_of old.buffer new.buffer in let t : Option ℕ = takes_of old.buffer new.buffer in let once = given_once v c g ready can in
      let mine = λ (n : ℕ) (e : g ≡ Some n). let o = once n e in let p = ready.tied n in let r : 1 ≤ times n v.hands = omega (arith, o, p) in r in
      let hands = λ (n : ℕ). let l = times_lose g n v.hands mine in let r = times_gain t n (lose g v.hands) in let x : times n (gain t (lose g v.hands)) + names n g ≡ times n v.hands + names n t = omega (arith, l, r) in x in record {
        live = ready.live;
        settled = ready.settled;
        tied = λ n. let h = hands n in let l = times_lose g n (keys c) (λ m e. let o = once m e in omega (arith, o)) in let r = times_gain t n (lose g (keys c)) in let p = ready.tied n in let q = ap (times n) (keys_after g t found c) in omega (arith, h, l, r, p, q);
        single = λ n. let h = hands n in let s = ready.single n in let m = names_at_most n t in
            dite (ℕ_discrete (names n t) 0) (λ z. omega (arith, h, s, z)) (λ nz. let z = fresh n (names_is n t (omega arith)) in omega (arith, h, m, z));
        numbered = λ n h. let p = hands n in dite (ℕ_discrete (names n t) 0) (λ z. ready.numbered n (omega (arith, p, h, z))) (λ nz. taken_room v.layout t found sort n (omega arith));
        bounded = after_bounded v c g t found ready once sort;
      }

  -- and so it is whatever the exchange found
  pub ready_swapped : (chooses : View N → Option Buffer → N → Type 0) (tells : View N → Word → Type 0) (slots i a b r : ℕ) (m m' : Mine N) → Ready m.0 m.1 → CanGive (gives_of (unpacked a).buffer (unpacked b).buffer) (lookup m.1)
      → swapped (λ v cell old new found notes. chooses v found notes) tells (step slots i a b none) m r m' → Ready m'.0 m'.1
  ready_swapped chooses tells slots i a b r m m' ready can told = dite (ℕ_discrete r a)
      (λ e. let d = told.0 e in subst (λ (z : Mine N). Ready z.0 z.1) (sym d.after) (ready_after m.0 m.1 (i - 1) (unpacked a) (unpacked b) d.found d.notes ready can d.sort d.fresh))
      (λ ne. subst (λ (z : Mine N). Ready z.0 z.1) (sym (told.1 ne).0) (still_ready m.0 (looked m.0 (i - 1) (unpacked r)) m.1 ready refl ready.settled refl refl))

  -- what a caller is told of an exchange that found the old word
  pub told_done : (chooses : View N → Option Buffer → N → Type 0) (k : Layout) (cell : ℕ) (old new : Word) (m m' : Mine N) → m.0.layout ≡ k → Ready m.0 m.1 → CanGive (gives_of old.buffer new.buffer) (lookup m.1)
      → Swapped (λ v c o n found notes. chooses v found notes) cell old new m m' → Exchanged chooses k m.0 m'.0 (lookup m.1) (lookup m'.1) cell old new
  told_done chooses k cell old new m m' lay ready can d = record {
    found = d.found;
    notes = d.notes;
    sort = subst (λ (l : Layout). Found l (takes_of old.buffer new.buffer) d.found) lay d.sort;
    chosen = d.picked;
    view_after = ap (λ (z : Mine N). z.0) d.after;
    held_after = ap (λ (z : Mine N). lookup z.1) d.after ∙ held_after (gives_of old.buffer new.buffer) (takes_of old.buffer new.buffer) d.found m.1 (given_once m.0 m.1 (gives_of old.buffer new.buffer) ready can);
  }
