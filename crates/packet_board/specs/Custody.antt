-- Lemmas on a state that a board may be in: where a number in the hands is not, and who is out where nobody is said to be.
use Rattle.std.proofs.Common.{◌≡◌, ◌≢◌, ℕ, ◌+◌, ◌≤◌, Bool, true, false, nat_lt, List, refl, ap, arith}
use mathlib.Core.Option.{some}
use lib.ListN.{get_elem?}
use Rattle.packet_board.specs.declared.word.Word.{Word}
use Rattle.packet_board.specs.declared.layout.Layout.{Layout}
use Rattle.packet_board.specs.declared.view.View.{View}
use Rattle.packet_board.specs.Words.{one_if, times, in_words, buffers_of}
use Rattle.packet_board.specs.Views.{in_hands}
use Rattle.packet_board.specs.Laws.{Homes, Sound}
use Rattle.packet_board.specs.Weights.{weigh_at, weigh_two, one_at_most}

dead : (t : Bool) → one_if t ≡ 0 → t ≡ false
dead true e = absurd (omega arith)
dead false e = refl

module _ {N : Type 0} where
  -- a number in a seat's hands is in no word
  pub in_no_word : (k : Layout) (ws : List Word) (out : ℕ) (hs : Homes) (vs : List (View N)) (id : ℕ) (v : View N) (n : ℕ) → Sound k ws out hs vs → get_elem? vs id ≡ some v → 1 ≤ times n v.hands → in_words n ws ≡ 0
  in_no_word k ws out hs vs id v n sound at h = let a = weigh_at (λ (w : View N). times n w.hands) vs id v at in let c = sound.custody n in let m = one_at_most (nat_lt n (buffers_of k)) in
      let x : ℕ = in_words n ws in let y : ℕ = in_hands n vs in let a' : times n v.hands ≤ y = a in let z : ℕ = one_if (nat_lt n (buffers_of k)) in let c' : x + y ≡ z = c in omega (arith, a', c', m, h)

  -- where no seat is out, no other view is live
  pub only : (k : Layout) (ws : List Word) (out : ℕ) (hs : Homes) (vs : List (View N)) (id : ℕ) (v : View N) (j : ℕ) (w : View N) → Sound k ws out hs vs → get_elem? vs id ≡ some v → v.live ≡ true → out ≡ 0 → j ≢ id → get_elem? vs j ≡ some w → w.live ≡ false
  only k ws out hs vs id v j w sound at live none_out ne there = let two = weigh_two (λ (z : View N). one_if z.live) vs id j v w at there ne in let c = sound.counted in let l : one_if v.live ≡ 1 = ap one_if live in
      dead w.live (omega (arith, two, c, l, none_out))
