-- What a seat saw in a call: how it lasts, and what it says of the board where no other seat is out.
use Rattle.std.proofs.Common.{◌≡◌, ◌≢◌, ℕ, true, suc, ◌+◌, ◌<◌, ◌≤◌, eq-eqb, ne_eqb, if◌then◌else◌, List, ◌∷◌, refl, sym, ap, ◌∙◌, subst, arith}
use mathlib.Core.Option.{some}
use mathlib.Core.Logic.{dite}
use native.Mathlib.Decide.{ℕ_discrete}
use lib.ListN.{get_elem?}
use Rattle.packet_board.specs.declared.word.Word.{Word}
use Rattle.packet_board.specs.declared.layout.Layout.{Layout}
use Rattle.packet_board.specs.declared.view.Met.{Met}
use Rattle.packet_board.specs.declared.view.View.{View}
use Rattle.packet_board.specs.Words.{empty, full}
use Rattle.packet_board.specs.Views.{meeting, looked, exchanged}
use Rattle.packet_board.specs.Laws.{Law}
use Rattle.packet_board.specs.Custody.{only}
use Rattle.packet_pool.specs.Cells.{newest}
use Rattle.packet_pool.specs.Laws.{Fresh, after_take}
use Rattle.packet_pool.specs.Packets.{IsSeen, OnlyLooked, AllEmpty, Takes, HasNow, AreEmpty}

pub newest_other : (ms : List Met) (m : Met) (cell : ℕ) → m.cell ≢ cell → newest cell (m ∷ ms) ≡ newest cell ms
newest_other ms m cell ne = subst (λ t. (if t then some m else newest cell ms) ≡ newest cell ms) (sym (ne_eqb m.cell cell ne)) refl

pub newest_here : (ms : List Met) (m : Met) (cell : ℕ) → m.cell ≡ cell → newest cell (m ∷ ms) ≡ some m
newest_here ms m cell e = subst (λ t. (if t then some m else newest cell ms) ≡ some m) (sym (eq-eqb m.cell cell e)) refl

module _ {N : Type 0} where
  pub looked_none : (v : View N) → OnlyLooked v v
  looked_none v = record { steps = omega arith; notes = refl; layout = refl; hands = refl; live = refl; pending = refl; begun = refl; ended = refl; alone = refl }

  pub looked_more : (v w : View N) (cell : ℕ) (word : Word) → OnlyLooked v w → OnlyLooked v (looked w cell word)
  looked_more v w cell word o = record { steps = let s = o.steps in omega (arith, s); notes = o.notes; layout = o.layout; hands = o.hands; live = o.live; pending = o.pending; begun = o.begun; ended = o.ended; alone = o.alone }

  -- a view whose last step met or left a word in a cell
  pub record Stepped (w u : View N) (cell : ℕ) (word : Word) : Type 0 where
    pub met : u.met ≡ meeting cell word (w.steps + 1) ∷ w.met
    pub past : u.past ≡ meeting cell word (w.steps + 1) ∷ w.past

  pub by_look : (w : View N) (cell : ℕ) (word : Word) → Stepped w (looked w cell word) cell word
  by_look w cell word = record { met = refl; past = refl }

  pub by_exchange : (w : View N) (cell : ℕ) (old new : Word) (notes : N) → Stepped w (exchanged w cell old new notes) cell new
  by_exchange w cell old new notes = record { met = refl; past = refl }

  pub seen_still : (from : ℕ) (w u : View N) (cell other : ℕ) (word : Word) (P : Word → Type 0) → Stepped w u cell word → cell ≢ other → IsSeen from w other P → IsSeen from u other P
  seen_still from w u cell other word P s ne seen = (
    seen.0,
    ap (newest other) s.met ∙ (newest_other w.met (meeting cell word (w.steps + 1)) other ne ∙ seen.1),
    seen.2,
    (suc seen.3.0, ap (λ (z : List Met). get_elem? z (suc seen.3.0)) s.past ∙ seen.3.1),
    seen.4,
  )

  pub seen_here : (from : ℕ) (w u : View N) (cell : ℕ) (word : Word) (P : Word → Type 0) → Stepped w u cell word → from ≤ w.steps → P word → IsSeen from u cell P
  seen_here from w u cell word P s late is = (
    meeting cell word (w.steps + 1),
    ap (newest cell) s.met ∙ newest_here w.met (meeting cell word (w.steps + 1)) cell refl,
    (omega (arith, late)),
    (0, ap (λ (z : List Met). get_elem? z 0) s.past),
    is,
  )

  pub seen_as : (from : ℕ) (w : View N) (cell : ℕ) (P Q : Word → Type 0) → ((word : Word) → P word → Q word) → IsSeen from w cell P → IsSeen from w cell Q
  seen_as from w cell P Q f seen = (seen.0, seen.1, seen.2, seen.3, f seen.0.word seen.4)

  -- one more cell was seen, in the last step
  pub all_more : (P : Word → Type 0) (from : ℕ) (w u : View N) (first n : ℕ) (word : Word) → Stepped w u n word → ((cell : ℕ) → first ≤ cell → cell < n → IsSeen from w cell P) → from ≤ w.steps → P word
      → (cell : ℕ) → first ≤ cell → cell < n + 1 → IsSeen from u cell P
  all_more P from w u first n word s all late is cell low high = dite (ℕ_discrete n cell)
      (λ e. subst (λ (z : ℕ). IsSeen from u z P) e (seen_here from w u n word P s late is)) (λ ne. seen_still from w u n cell word P s ne (all cell low (omega (arith, high, ne))))

  pub empty_none : (from : ℕ) (v : View N) (first : ℕ) → AllEmpty from v first first
  empty_none from v first cell low high = absurd (omega arith)

  -- one more cell was seen empty
  pub empty_more : (from : ℕ) (w : View N) (first n : ℕ) → AllEmpty from w first n → from ≤ w.steps → AllEmpty from (looked w n empty) first (n + 1)
  empty_more from w first n all late = all_more (λ word. word ≡ empty) from w (looked w n empty) first n empty (by_look w n empty) all late refl

  -- where no other seat is out, what was seen is so
  pub is_now : (holds : Law N) → Fresh holds → (k : Layout) (id from : ℕ) (v : View N) (cell : ℕ) (P : Word → Type 0) → v.alone ≡ true → IsSeen from v cell P → HasNow holds k id v cell P
  is_now holds fresh k id from v cell P alone seen ws out hs vs at = let none_out = (at.sound.lonely id v at.seat alone).0 in
      (seen.0.word, fresh k ws _ vs id v cell seen.0 at.lawful at.seat at.live (λ j w ne there. only k ws out hs vs id v j w at.sound at.seat at.live none_out ne there) seen.1, seen.4)

  pub none_left : (holds : Law N) → Fresh holds → (k : Layout) (id first end : ℕ) (v w : View N) → v.alone ≡ true → OnlyLooked v w → AllEmpty v.steps w first end → AreEmpty holds k id w first end
  none_left holds fresh k id first end v w alone o all cell low high = is_now holds fresh k id v.steps w cell (λ word. word ≡ empty) (o.alone ∙ alone) (all cell low high)

  pub none_before : (holds : Law N) → Fresh holds → (k : Layout) (id first n : ℕ) (with_taken : ℕ → N → N) (v w : View N) → v.alone ≡ true → Takes with_taken first n v w → AreEmpty holds k id w first n
  none_before holds fresh k id first n with_taken v w alone t cell low high = let notes = after_take with_taken v.layout n v.notes in let u = exchanged t.last n (full n) empty notes in
      subst (λ (z : View N). HasNow holds k id z cell (λ word. word ≡ empty)) (sym t.after) (is_now holds fresh k id v.steps u cell (λ word. word ≡ empty) (t.looked.alone ∙ alone)
      (seen_still v.steps t.last u n cell empty (λ word. word ≡ empty) (by_exchange t.last n (full n) empty notes) (λ e. omega arith) (t.missed cell low high)))
