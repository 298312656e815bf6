-- What an exchange gives away and takes, in words, hands, slots and homes.
use Rattle.std.proofs.Common.{◌≡◌, ◌≢◌, ℕ, ◌+◌, ◌<◌, ◌≤◌, ◌==◌, eq-eqb, ne_eqb, if◌then◌else◌, List, ◌∷◌, length, length-set, map, set, Option, Some, None, refl, sym, ap, ◌∙◌, subst, arith}
use Rattle.std.proofs.lemmas.List.{map-set}
use mathlib.Core.Option.{some, none}
use mathlib.Core.Logic.{dite}
use native.Mathlib.Decide.{ℕ_discrete}
use lib.ListN.{get_elem?}
use Rattle.atomic_table.specs.Table.{Act, keeps, takes, carried_after, homes_after, Valid}
use Rattle.atomic_table.proofs.Lists.{set_here}
use Rattle.packet_board.specs.declared.buffer.Buffer.{Buffer}
use Rattle.packet_board.specs.Words.{one_if, names, times}
use Rattle.packet_board.specs.Hands.{gives_of, takes_of, lose, gain, placed, flat, Slots, Held, lookup, drop_out, take_in, keys, updated, given_away, taken_in, CanGive, given_by}
use Rattle.packet_board.specs.Laws.{Homes}
use Rattle.packet_board.specs.Weights.{one_other, same_one, one_at_most}
use Rattle.packet_board.specs.Holding.{same_takes, other_takes}
use Rattle.packet_board.proofs.Slots.{keys_removed, gone_held, Out}
use Rattle.packet_board.proofs.Brings.{lifted}

same_gives : (o n : ℕ) → o ≡ n → gives_of (Some o) (Some n) ≡ None
same_gives o n e = subst (λ t. (if t then None else Some n) ≡ None) (sym (eq-eqb o n e)) refl

other_gives : (o n : ℕ) → o ≢ n → gives_of (Some o) (Some n) ≡ Some n
other_gives o n ne = subst (λ t. (if t then None else Some n) ≡ Some n) (sym (ne_eqb o n ne)) refl

-- what leaves a word comes into the hands, and what leaves the hands comes into the word
pub flows : (a b : Option ℕ) (n : ℕ) → names n a + names n (gives_of a b) ≡ names n b + names n (takes_of a b)
flows None None n = refl
flows None (Some m) n = omega arith
flows (Some o) None n = omega arith
flows (Some o) (Some m) n = dite (ℕ_discrete o m)
    (λ e. let g = ap (names n) (same_gives o m e) in let t = ap (names n) (same_takes o m e) in let s : one_if (o == n) ≡ one_if (m == n) = ap (λ z. one_if (z == n)) e in omega (arith, g, t, s))
    (λ ne. let g = ap (names n) (other_gives o m ne) in let t = ap (names n) (other_takes o m ne) in omega (arith, g, t))

-- no number is given and taken at once
pub apart : (a b : Option ℕ) (n : ℕ) → names n (gives_of a b) + names n (takes_of a b) ≤ 1
apart None None n = omega arith
apart None (Some m) n = let h = one_at_most (m == n) in omega (arith, h)
apart (Some o) None n = let h = one_at_most (o == n) in omega (arith, h)
apart (Some o) (Some m) n = dite (ℕ_discrete o m)
    (λ e. let g = ap (names n) (same_gives o m e) in let t = ap (names n) (same_takes o m e) in omega (arith, g, t))
    (λ ne. let g = ap (names n) (other_gives o m ne) in let t = ap (names n) (other_takes o m ne) in let h = one_at_most (m == n) in
    dite (ℕ_discrete o n) (λ e. let z = one_other m n (λ p. ne (e ∙ sym p)) in let h' = one_at_most (o == n) in omega (arith, g, t, z, h')) (λ no'. let z = one_other o n no' in omega (arith, g, t, z, h)))

module _ {A : Type 0} where
  pub length_placed : (g : Option ℕ) (a : A) (l : List A) → length (placed g a l) ≡ length l
  length_placed None a l = refl
  length_placed (Some n) a l = length-set l n a

  pub placed_here : (g : Option ℕ) (a : A) (l : List A) (b : ℕ) → 1 ≤ names b g → b < length l → get_elem? (placed g a l) b ≡ some a
  placed_here None a l b h room = absurd (omega arith)
  placed_here (Some n) a l b h room = let e = same_one n b h in subst (λ (z : ℕ). get_elem? (set l n a) z ≡ some a) e (set_here l n a (subst (λ (z : ℕ). z < length l) (sym e) room))

pub map_placed : {A B : Type 0} (f : A → B) (g : Option ℕ) (a : A) (l : List A) → map f (placed g a l) ≡ placed g (f a) (map f l)
map_placed f None a l = refl
map_placed f (Some n) a l = map-set f l n a

pub keys_after : (g t : Option ℕ) (y : Option Buffer) (c : Slots) → keys (take_in t y (drop_out g c)) ≡ gain t (lose g (keys c))
keys_after None None y c = refl
keys_after None (Some o) y c = refl
keys_after (Some n) None y c = keys_removed n c
keys_after (Some n) (Some o) y c = ap (λ (z : List ℕ). o ∷ z) (keys_removed n c)

dropped_held : (g : Option ℕ) (c : Slots) → ((n : ℕ) → g ≡ Some n → times n (keys c) ≡ 1) → lookup (drop_out g c) ≡ given_away g (lookup c)
dropped_held None c once = refl
dropped_held (Some n) c once = gone_held c n (once n refl)

-- what a seat holds after an exchange
pub held_after : (g t : Option ℕ) (y : Option Buffer) (c : Slots) → ((n : ℕ) → g ≡ Some n → times n (keys c) ≡ 1) → lookup (take_in t y (drop_out g c)) ≡ taken_in t y (given_away g (lookup c))
held_after g None y c once = dropped_held g c once
held_after g (Some o) y c once = ap (λ (h : Held). updated o (some y) h) (dropped_held g c once)

-- the act that gives away
pub record Gives (hs : Homes) (c : Slots) (g : Option ℕ) : Type 0 where
  pub act : Act (Option Buffer)
  pub valid : Valid hs c act
  pub carried : carried_after c act ≡ drop_out g c
  pub homes : homes_after hs c act ≡ placed g (some (given_by g (lookup c))) hs

pub giving : (g : Option ℕ) (hs : Homes) (c : Slots) → Out hs c → CanGive g (lookup c) → Gives hs c g
giving None hs c out can = record { act = keeps; valid = tt; carried = refl; homes = refl }
giving (Some n) hs c out can = let l = lifted hs c n (Some can.0) out can.1 in let e : flat (lookup c n) ≡ Some can.0 = ap flat can.1 in
    record { act = l.0; valid = l.1.valid; carried = l.1.carried; homes = l.1.homes ∙ ap (λ (z : Option Buffer). set hs n (some z)) (sym e) }

-- the act that takes
pub record Takes (hs : Homes) (c : Slots) (t : Option ℕ) (found : Option Buffer) : Type 0 where
  pub act : Act (Option Buffer)
  pub valid : Valid hs c act
  pub carried : carried_after c act ≡ take_in t found c
  pub homes : homes_after hs c act ≡ placed t none hs

pub taking : (t : Option ℕ) (found : Option Buffer) (hs : Homes) (c : Slots) → ((o : ℕ) → t ≡ Some o → get_elem? hs o ≡ some (some found)) → Takes hs c t found
taking None found hs c at = record { act = keeps; valid = tt; carried = refl; homes = refl }
taking (Some o) found hs c at = record { act = takes o found; valid = at o refl; carried = refl; homes = refl }
