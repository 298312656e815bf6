-- A load that brings a slot to the front, and what a seat is ready for after its front slot changed.
use Rattle.std.proofs.Common.{◌≡◌, ℕ, ◌+◌, ◌<◌, ◌≤◌, true, eq-eqb, ne_eqb, if◌then◌else◌, List, [], ◌∷◌, ◌++◌, set, set-set, get_or, Option, Some, None, sym, ap, ◌∙◌, subst, arith}
use Rattle.std.proofs.lemmas.List.{set-get_or}
use mathlib.Core.Option.{some, none, some-injective, some-ne-none}
use mathlib.Core.Logic.{dite}
use native.Mathlib.Decide.{ℕ_discrete}
use lib.ListN.{get_elem?}
use Rattle.atomic_table.specs.Table.{State, Act, step, takes, chain, homes_after, Allows, rest}
use Rattle.atomic_table.proofs.Lists.{set_here, set_again}
use Rattle.packet_board.specs.declared.word.Word.{Word}
use Rattle.packet_board.specs.declared.layout.Layout.{Layout}
use Rattle.packet_board.specs.declared.buffer.Buffer.{Buffer}
use Rattle.packet_board.specs.declared.view.View.{View}
use Rattle.packet_board.specs.Words.{times, buffers_of, cell_count, IsBuffer}
use Rattle.packet_board.specs.Hands.{Slots, lookup, removed, keys}
use Rattle.packet_board.specs.Laws.{Homes, Sound, Law}
use Rattle.packet_board.specs.Rule.{Kept, Ready, Mine, cells_of, out_of, brought}
use Rattle.packet_board.specs.Weights.{below, times_without}
use Rattle.packet_board.specs.Holding.{counted_key}
use Rattle.packet_board.specs.Custody.{in_no_word}
use Rattle.packet_board.proofs.Slots.{other_slot, keys_removed, cut, Out, rise, Given, rises}

-- the act that gives a slot back from wherever it stands among the seat's
pub lifted : (hs : Homes) (c : Slots) (n : ℕ) (y : Option Buffer) → Out hs c → lookup c n ≡ some y → (a : Act (Option Buffer)) × Given hs c a n y (removed n c)
lifted hs c n y out look = let t = cut c n y look in
    (rise t.0, subst (λ (z : Slots). Given hs c (rise t.0) n y z) (sym t.3) (subst (λ (z : Slots). Given hs z (rise t.0) n y (t.0 ++ t.1)) (sym t.2) (rises t.0 t.1 n y hs (subst (Out hs) t.2 out))))

-- the number of a buffer is that of a word of the table
pub inside : (l k : Layout) (n words : ℕ) → n < buffers_of l → l ≡ k → words ≡ cell_count k + 1 → n < words
inside l k n words h e w = let h' : n < buffers_of k = subst (λ (z : Layout). n < buffers_of z) e h in omega (arith, h', w)

module _ {N : Type 0} where
  pub outs : (k : Layout) (ws : List Word) (out : ℕ) (hs : Homes) (vs : List (View N)) (id : ℕ) (v : View N) (c : Slots) → Sound k ws out hs vs → get_elem? vs id ≡ some v → Ready v c → Out hs c
  outs k ws out hs vs id v c sound at ready n h = let tied = ready.tied n in let single = ready.single n in let mine : 1 ≤ times n v.hands = omega (arith, tied, h) in
      let there = subst (λ (l : Layout). n < buffers_of l) (sound.of_layout id v at ready.live) (ready.numbered n mine) in
      ((omega (arith, tied, single)), sound.away n there (in_no_word k ws out hs vs id v n sound at mine))

  pub same_state : (holds : Law N) (k : Layout) (s : State (Option Buffer) (View N)) (ws : List ℕ) (hs : Homes) (vs : List (View N)) → ws ≡ s.words → hs ≡ s.homes → vs ≡ s.views → Kept holds k s → Kept holds k record { words = ws; homes = hs; views = vs }
  same_state holds k s ws hs vs a b c kept = subst (Kept holds k) (λ i. record { words = sym a i; homes = sym b i; views = sym c i }) kept

  pub brings : (holds : Law N) (k : Layout) (slots id n : ℕ) (me : Mine N) → Ready me.0 me.1 → (y : Option Buffer) → lookup me.1 n ≡ some y → Allows (Kept holds k) slots id me n (λ r. r) (brought (step slots n 0 0 none) me)
  brings holds k slots id n me ready y look s kept _ at _ = let sound = kept.stands.sound in let out = outs k (cells_of s.words) (out_of s.words) s.homes s.views id me.0 me.1 sound at ready in
      let t = lifted s.homes me.1 n y out look in let g = t.1 in let there = (out n (counted_key me.1 n y look)).1 in let room = below s.homes n none there in (
        me.0,
        chain t.0 (takes n y),
        (g.valid, subst (λ (z : Homes). get_elem? z n ≡ some (some y)) (sym g.homes) (set_here s.homes n (some y) room)),
        same_state holds k s (set s.words n (get_or s.words n 0)) (set (homes_after s.homes me.1 t.0) n none) (set s.views id me.0) (set-get_or s.words n 0)
            (ap (λ (z : Homes). set z n none) g.homes ∙ (set-set s.homes n (some y) none ∙ set_again s.homes n none there)) (set_again s.views id me.0 at) kept,
        (y, look, λ i. (me.0, (n, y) ∷ g.carried i)),
      )

  pub ready_front : (v : View N) (c : Slots) (n : ℕ) (y z : Option Buffer) → Ready v c → lookup c n ≡ some y → ((x : Buffer) → z ≡ Some x → IsBuffer v.layout n x) → Ready v ((n, z) ∷ removed n c)
  ready_front v c n y z ready look bound = let once = counted_key c n y look in record {
    live = ready.live;
    settled = ready.settled;
    tied = λ m. let w = times_without n m (keys c) once in let e = ap (times m) (keys_removed n c) in let t = ready.tied m in omega (arith, w, e, t);
    single = ready.single;
    numbered = ready.numbered;
    bounded = λ m x e. dite (ℕ_discrete n m)
        (λ is. subst (λ (j : ℕ). IsBuffer v.layout j x) is (bound x (some-injective z (Some x) (subst (λ t. (if t then some z else lookup (removed n c) m) ≡ some (Some x)) (eq-eqb n m is) e))))
        (λ ne. ready.bounded m x (sym (other_slot c n m ne) ∙ subst (λ t. (if t then some z else lookup (removed n c) m) ≡ some (Some x)) (ne_eqb n m ne) e));
  }

  -- a write of the front slot
  pub wrote : (m m' m'' : Mine N) (n : ℕ) (y z : Option Buffer) → m' ≡ (m.0, (n, y) ∷ removed n m.1) → m'' ≡ (m'.0, (n, z) ∷ rest m'.1) → m'' ≡ (m.0, (n, z) ∷ removed n m.1)
  wrote m m' m'' n y z e f = f ∙ (λ i. ((e i).0, (n, z) ∷ rest (e i).1))

front_of : Slots → Option Buffer
front_of [] = None
front_of (x ∷ xs) = x.1

-- what the front slot held
pub was_front : (c d : Slots) (n : ℕ) (y r : Option Buffer) → c ≡ (n, y) ∷ d → c ≡ (n, r) ∷ rest c → y ≡ r
unfolding front_of
was_front c d n y r e f = ap front_of (sym e ∙ f)

module _ {N : Type 0} where
  -- another view with the same hands
  pub still_ready : (v w : View N) (c : Slots) → Ready v c → w.live ≡ v.live → w.pending ≡ 0 → w.hands ≡ v.hands → w.layout ≡ v.layout → Ready w c
  still_ready v w c r live idle hands layout = record {
    live = live ∙ r.live;
    settled = idle;
    tied = λ n. ap (times n) hands ∙ r.tied n;
    single = λ n. subst (λ (h : List ℕ). times n h ≤ 1) (sym hands) (r.single n);
    numbered = λ n h. subst (λ (l : Layout). n < buffers_of l) (sym layout) (r.numbered n (subst (λ (z : List ℕ). 1 ≤ times n z) hands h));
    bounded = λ n y e. subst (λ (l : Layout). IsBuffer l n y) (sym layout) (r.bounded n y e);
  }

  -- a view with nothing in its hands
  pub fresh_ready : (w : View N) → w.live ≡ true → w.pending ≡ 0 → w.hands ≡ [] → Ready w []
  fresh_ready w live idle hands = record {
    live = live;
    settled = idle;
    tied = λ n. ap (times n) hands;
    single = λ n. let e : times n w.hands ≡ 0 = ap (times n) hands in omega (arith, e);
    numbered = λ n h. let e : times n w.hands ≡ 0 = ap (times n) hands in absurd (omega (arith, h, e));
    bounded = λ n y e. absurd (some-ne-none (Some y) (sym e));
  }
