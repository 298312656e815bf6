-- The search for the packet of the least order, one cell further.
use Rattle.std.proofs.Common.{◌≡◌, ℕ, true, inl, inr, ◌+◌, ◌<◌, ◌≤◌, ◌^◌, ⊎_elim, Option, Some, None, IfSome, refl, sym, ap, ◌∙◌, subst, arith}
use Rattle.std.specs.Prelude.{◌⊎◌}
use mathlib.Core.Logic.{dite}
use native.Mathlib.Decide.{ℕ_discrete}
use Rattle.packet_board.specs.declared.word.Word.{Word}
use Rattle.packet_board.specs.declared.layout.Layout.{Layout}
use Rattle.packet_board.specs.declared.view.View.{View}
use Rattle.packet_board.specs.Words.{buffers_of, empty}
use Rattle.packet_board.specs.Views.{looked}
use Rattle.packet_board.specs.Laws.{Law}
use Rattle.packet_pool.specs.declared.claiming.Waiting.{Waiting}
use Rattle.packet_pool.specs.Cells.{IsReadyCell, IsReadyWord, ready_word}
use Rattle.packet_pool.specs.Laws.{Fresh}
use Rattle.packet_pool.specs.Packets.{IsSeen}
use Rattle.packet_pool.specs.Waiting.{IsBehind, AreBehind}
use Rattle.packet_pool.specs.Least.{IsAfter, IsWaiting}
use Rattle.packet_pool.proofs.Seen.{Stepped, seen_still, seen_here, seen_as, by_look, is_now}

abbrev pub further : ℕ → Word → ℕ → Waiting
further cell word n = record { cell = cell; order = word.tag; number = n }

-- a ready cell's word without a buffer is empty
pub bare_is_empty : (k : Layout) (word : Word) → IsReadyWord k word → word.buffer ≡ None → word ≡ empty
bare_is_empty k word is none_there = ⊎_elim (λ e. e) (λ h. let e : None ≡ Some h.0 = sym none_there ∙ h.1 in absurd (cc)) is

-- and one with a buffer has a small one
pub buffer_is_small : (k : Layout) (word : Word) (n : ℕ) → IsReadyWord k word → word.buffer ≡ Some n → n < k.small
buffer_is_small k word n is has = ⊎_elim (λ e. let f : None ≡ Some n = sym (ap (λ (z : Word). z.buffer) e) ∙ has in absurd (cc)) (λ h. let e : Some h.0 ≡ Some n = sym h.1 ∙ has in let same : h.0 ≡ n = cc in subst (λ (z : ℕ). z < k.small) same h.2) is

module _ {N : Type 0} (k : Layout) (from : ℕ) (w : View N) (cell : ℕ) (word : Word) where
  pub after_more : (least result : Option Waiting) (first : ℕ) → from ≤ w.steps → ((other : ℕ) (seen : Word) → IsAfter least other seen → IsAfter result other seen) → IsAfter result cell word
      → ((other : ℕ) → first ≤ other → other < cell → IsSeen from w other (IsAfter least other)) → (other : ℕ) → first ≤ other → other < cell + 1 → IsSeen from (looked w cell word) other (IsAfter result other)
  after_more least result first late former mine all other low high = let u : View N = looked w cell word in dite (ℕ_discrete cell other)
      (λ e. subst (λ (z : ℕ). IsSeen from u z (IsAfter result z)) e (seen_here from w u cell word (IsAfter result cell) (by_look w cell word) late mine))
      (λ ne. seen_as from u other (IsAfter least other) (IsAfter result other) (former other) (seen_still from w u cell other word (IsAfter least other) (by_look w cell word) ne (all other low (omega (arith, high, ne)))))

  waits_still : (x : Waiting) → IsWaiting k from w cell x → IsWaiting k from (looked w cell word) (cell + 1) x
  waits_still x is = record {
    low = is.low;
    high = let h = is.high in omega (arith, h);
    small = is.small;
    fits = is.fits;
    seen = seen_still from w (looked w cell word) cell x.cell word (λ z. z ≡ ready_word x.order x.number) (by_look w cell word) (λ e. let h = is.high in omega (arith, h, e)) is.seen;
  }

  waits_here : (n : ℕ) → from ≤ w.steps → buffers_of k ≤ cell → IsReadyWord k word → word.tag < 2 ^ 52 → word.buffer ≡ Some n → IsWaiting k from (looked w cell word) (cell + 1) (further cell word n)
  waits_here n late low is fits has = record {
    low = low;
    high = omega arith;
    small = buffer_is_small k word n is has;
    fits = fits;
    seen = seen_here from w (looked w cell word) cell word (λ z. z ≡ ready_word word.tag n) (by_look w cell word) late (λ i. record { tag = word.tag; buffer = has i });
  }

  still_some : (least : Option Waiting) → IfSome least (IsWaiting k from w cell) → IfSome least (IsWaiting k from (looked w cell word) (cell + 1))
  still_some None is = is
  still_some (Some x) is = waits_still x is

  pub waits_more : (least result : Option Waiting) → from ≤ w.steps → buffers_of k ≤ cell → IsReadyWord k word → word.tag < 2 ^ 52 → IfSome least (IsWaiting k from w cell)
      → (result ≡ least) ⊎ ((n : ℕ) × (word.buffer ≡ Some n) × (result ≡ Some (further cell word n))) → IfSome result (IsWaiting k from (looked w cell word) (cell + 1))
  waits_more least result late low is fits found one_of = ⊎_elim (λ e. subst (λ (z : Option Waiting). IfSome z (IsWaiting k from (looked w cell word) (cell + 1))) (sym e) (still_some least found))
      (λ h. subst (λ (z : Option Waiting). IfSome z (IsWaiting k from (looked w cell word) (cell + 1))) (sym h.2) (waits_here h.0 late low is fits h.1)) one_of

-- a packet that was seen lies before the cell that comes next
pub before_next : {N : Type 0} (k : Layout) (from : ℕ) (w : View N) (cell : ℕ) (least : Option Waiting) → IfSome least (IsWaiting k from w cell) → IfSome least (λ x. x.cell < cell)
before_next k from w cell None is = is
before_next k from w cell (Some x) is = is.high

-- where no other seat is out, what was seen to come behind the packet that was taken does so now
pub behind_now : {N : Type 0} (holds : Law N) → Fresh holds → (k : Layout) (id from : ℕ) (w u : View N) (cell order : ℕ) → Stepped w u cell empty → u.alone ≡ true → from ≤ w.steps
    → ((other : ℕ) → IsReadyCell k other → IsSeen from w other (IsBehind order cell other)) → AreBehind holds k id u order
behind_now holds fresh k id from w u cell order s alone late all other is = let P : Word → Type 0 = λ word. (word ≡ empty) ⊎ (order ≤ word.tag) in is_now holds fresh k id from u other P alone (dite (ℕ_discrete cell other)
    (λ e. subst (λ (z : ℕ). IsSeen from u z P) e (seen_here from w u cell empty P s late (inl refl)))
    (λ ne. seen_still from w u cell other empty P s ne (seen_as from w other (IsBehind order cell other) P (λ word h. ⊎_elim (λ e. inl e) (λ r. inr (⊎_elim (λ l. omega (arith, l)) (λ l. let e = l.0 in omega (arith, e)) r)) h) (all other is))))
