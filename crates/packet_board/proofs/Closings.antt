-- The end of a board: its words and slots, read one by one, and the last state.
use Rattle.std.proofs.Common.{◌≡◌, ◌≢◌, ℕ, zero, suc, ◌+◌, ◌<◌, Bool, true, false, nat_lt, lt-ltb, List, [], ◌∷◌, ◌++◌, length, map, take, set, get_or, Option, Some, refl, sym, ap, ◌∙◌, subst, arith, add-one}
use Rattle.std.proofs.lemmas.List.{map_push}
use mathlib.Core.Logic.{dite}
use native.Mathlib.Decide.{ℕ_discrete}
use mathlib.Core.Option.{some, some-injective, some-ne-none}
use lib.ListN.{get_elem?}
use Rattle.atomic_table.specs.Table.{Final, Seen}
use Rattle.packet_board.specs.declared.word.Word.{Word}
use Rattle.packet_board.specs.declared.layout.Layout.{Layout}
use Rattle.packet_board.specs.declared.buffer.Buffer.{Buffer}
use Rattle.packet_board.specs.declared.view.View.{View}
use Rattle.packet_board.specs.Words.{one_if, weigh, times, in_words, unpacked, buffers_of, cell_count, Fits, IsBuffer}
use Rattle.packet_board.specs.Hands.{flat, AreThere}
use Rattle.packet_board.specs.Views.{in_hands}
use Rattle.packet_board.specs.Laws.{Homes, Sound, Law}
use Rattle.packet_board.specs.Rule.{Kept, cells_of, out_of}
use Rattle.packet_board.specs.Seats.{Ended}
use Rattle.packet_board.specs.Weights.{below}
use Rattle.packet_board.specs.Holding.{same_value}
use Rattle.packet_board.specs.Custody.{only}
use Rattle.packet_board.proofs.Openings.{length_mapped}

module _ {A : Type 0} where
  take_next : (xs : List A) (i : ℕ) (x : A) → get_elem? xs i ≡ some x → take i xs ++ x ∷ [] ≡ take (suc i) xs
  take_next [] i x e = absurd (some-ne-none x (sym e))
  take_next (z ∷ zs) zero x e = ap (λ (y : A). y ∷ []) (sym (some-injective z x e))
  take_next (z ∷ zs) (suc i) x e = ap (λ (y : List A). z ∷ y) (take_next zs i x e)

  pub take_more_at : (xs : List A) (i : ℕ) (x : A) → get_elem? xs i ≡ some x → take i xs ++ x ∷ [] ≡ take (i + 1) xs
  take_more_at xs i x e = take_next xs i x e ∙ ap (λ (n : ℕ). take n xs) (sym (add-one i))

  pub take_whole : (xs : List A) (n : ℕ) → length xs ≡ n → take n xs ≡ xs
  take_whole [] zero e = refl
  take_whole [] (suc n) e = absurd (omega arith)
  take_whole (x ∷ xs) zero e = absurd (omega arith)
  take_whole (x ∷ xs) (suc n) e = ap (λ (z : List A). x ∷ z) (take_whole xs n (omega arith))

  pub same_items : (xs ys : List A) → length xs ≡ length ys → ((j : ℕ) (a : A) → get_elem? xs j ≡ some a → get_elem? ys j ≡ some a) → xs ≡ ys
  same_items [] [] e h = refl
  same_items [] (y ∷ ys) e h = absurd (omega arith)
  same_items (x ∷ xs) [] e h = absurd (omega arith)
  same_items (x ∷ xs) (y ∷ ys) e h = let first : y ≡ x = some-injective y x (h zero x refl) in λ i. sym first i ∷ same_items xs ys (omega arith) (λ j a p. h (suc j) a p) i

  pub all_zero : (f : A → ℕ) (xs : List A) → ((j : ℕ) (x : A) → get_elem? xs j ≡ some x → f x ≡ 0) → weigh f xs ≡ 0
  all_zero f [] h = refl
  all_zero f (x ∷ xs) h = let a = h zero x refl in let r = all_zero f xs (λ j y e. h (suc j) y e) in omega (arith, a, r)

  pub mapped_at : {B : Type 0} (f : A → B) (xs : List A) (j : ℕ) (x : A) → get_elem? xs j ≡ some x → get_elem? (map f xs) j ≡ some (f x)
  mapped_at f [] j x e = absurd (some-ne-none x (sym e))
  mapped_at f (y ∷ ys) zero x e = ap (λ (z : A). some (f z)) (some-injective y x e)
  mapped_at f (y ∷ ys) (suc j) x e = mapped_at f ys j x e

behind : (ns : List ℕ) (i r : ℕ) → get_elem? ns (suc i) ≡ some r → get_elem? (cells_of ns) i ≡ some (unpacked r)
behind [] i r e = absurd (some-ne-none r (sym e))
behind (n ∷ ns) i r e = mapped_at unpacked ns i r e

pub more_cells : (ns : List ℕ) (i r : ℕ) → get_elem? ns (i + 1) ≡ some r → take i (cells_of ns) ++ unpacked r ∷ [] ≡ take (i + 1) (cells_of ns)
more_cells ns i r e = take_more_at (cells_of ns) i (unpacked r) (behind ns i r (subst (λ (z : ℕ). get_elem? ns z ≡ some r) (add-one i) e))

pub cells_length : (ns : List ℕ) → 0 < length ns → length ns ≡ length (cells_of ns) + 1
cells_length [] h = absurd (omega arith)
cells_length (n ∷ ns) h = let e : length (map unpacked ns) ≡ length ns = length_mapped unpacked ns in omega (arith, e)

pub all_cells : (ns : List ℕ) (cells : ℕ) → length ns ≡ cells + 1 → take cells (cells_of ns) ≡ cells_of ns
all_cells ns cells e = let l = cells_length ns (omega (arith, e)) in take_whole (cells_of ns) cells (omega (arith, l, e))

pub more_buffers : (bs : List Buffer) (xs : List (Option Buffer)) (i : ℕ) (y : Buffer) → map Some bs ≡ take i xs → get_elem? xs i ≡ some (Some y) → map Some (bs ++ y ∷ []) ≡ take (i + 1) xs
more_buffers bs xs i y e at = map_push Some bs y ∙ (ap (λ (z : List (Option Buffer)). z ++ Some y ∷ []) e ∙ take_more_at xs i (Some y) at)

module _ {N : Type 0} where
  pub record Last (holds : Law N) (k : Layout) (id : ℕ) (v : View N) (ns : List ℕ) (xs : List (Option Buffer)) : Type 0 where
    pub words : length ns ≡ cell_count k + 1
    pub slots : length xs ≡ buffers_of k
    pub there : AreThere xs
    pub ended : (bs : List Buffer) → map Some bs ≡ xs → ((cell : ℕ) (w : Word) → get_elem? (cells_of ns) cell ≡ some w → Fits w) → Ended holds k id v (cells_of ns) bs

  none_in_hands : (k : Layout) (ws : List Word) (out : ℕ) (hs : Homes) (vs : List (View N)) (id : ℕ) (v : View N) → Sound k ws out hs vs → get_elem? vs id ≡ some v → v.live ≡ true → out ≡ 0 → ((b : ℕ) → times b v.hands ≡ 0) → (b : ℕ) → in_hands b vs ≡ 0
  none_in_hands k ws out hs vs id v sound at live zero_out empty b = all_zero (λ (w : View N). times b w.hands) vs (λ j w e. dite (ℕ_discrete j id)
      (λ p. let same : v ≡ w = some-injective v w (sym at ∙ (ap (λ (z : ℕ). get_elem? vs z) (sym p) ∙ e)) in ap (λ (z : View N). times b z.hands) (sym same) ∙ empty b)
      (λ ne. sound.idle j w e (only k ws out hs vs id v j w sound at live zero_out ne e) b))

  pub lasts : (holds : Law N) (k : Layout) (id : ℕ) (v : View N) (ns : List ℕ) (xs : List (Option Buffer)) → v.live ≡ true → v.alone ≡ true → ((b : ℕ) → times b v.hands ≡ 0) → Final (Seen (Kept holds k) id v) ns xs → Last holds k id v ns xs
  lasts holds k id v ns xs live alone empty final = let s = final.0 in let kept = final.1.0 in let at = final.1.1 in let sound = kept.stands.sound in let zero_out = (sound.lonely id v at alone).0 in
      let ws : List Word = cells_of s.words in let out : ℕ = out_of s.words in let hs : Homes = s.homes in let vs : List (View N) = s.views in let same : s.words ≡ ns = final.2 in
      let free = none_in_hands k ws out hs vs id v sound at live zero_out empty in let named = λ (b : ℕ). let c = sound.custody b in let f = free b in let x : ℕ = in_words b ws in let y : ℕ = in_hands b vs in let z : ℕ = one_if (nat_lt b (buffers_of k)) in
      let c' : x + y ≡ z = c in let f' : y ≡ 0 = f in let e : x ≡ z = omega (arith, c', f') in e in
      let long : length xs ≡ buffers_of k = sym final.3 ∙ sound.long in
      let home = λ (b : ℕ) (room : b < buffers_of k). sound.home b (named b ∙ ap one_if (lt-ltb b (buffers_of k) room)) in
      let full = λ (b : ℕ) (room : b < buffers_of k). let h = home b room in let e : get_elem? xs b ≡ some (Some h.0) = final.4 b (Some h.0) h.1 in e in
      let inside = λ (b : ℕ) (x : Option Buffer) (e : get_elem? xs b ≡ some x). let r : b < buffers_of k = subst (λ (z : ℕ). b < z) long (below xs b x e) in r in
      let all : map flat hs ≡ xs = same_items (map flat hs) xs (length_mapped flat hs ∙ final.3) (λ j a e. let room : j < buffers_of k = subst (λ (z : ℕ). j < z) (length_mapped flat hs ∙ sound.long) (below (map flat hs) j a e) in
      let h = home j room in let is : Some h.0 ≡ a = some-injective (Some h.0) a (sym (mapped_at flat hs j (some (Some h.0)) h.1) ∙ e) in full j room ∙ ap some is) in record {
        words = ap length (sym same) ∙ (cells_length s.words kept.some_word ∙ ap (λ (z : ℕ). z + 1) sound.wide);
        slots = long;
        there = λ j x e. let room = inside j x e in let h = home j room in (h.0, some-injective x (Some h.0) (sym e ∙ full j room));
        ended = λ bs is fit. subst (λ (z : List ℕ). Ended holds k id v (cells_of z) bs) same record {
          homes = hs;
          views = vs;
          last = record { sound = subst (λ (z : ℕ). Sound k ws z hs vs) zero_out sound; lawful = kept.stands.lawful; seat = at; live = live };
          at_home = all ∙ sym is;
          others = λ j w ne e. only k ws out hs vs id v j w sound at live zero_out ne e;
          wide = sound.wide;
          long = sym (length_mapped Some bs) ∙ (ap length is ∙ long);
          fit = subst (λ (z : List ℕ). (cell : ℕ) (w : Word) → get_elem? (cells_of z) cell ≡ some w → Fits w) (sym same) fit;
          custody = named;
          bounds = λ j y e. let f : get_elem? xs j ≡ some (Some y) = ap (λ (z : List (Option Buffer)). get_elem? z j) (sym is) ∙ mapped_at Some bs j y e in let room = inside j (Some y) f in let h = home j room in
              subst (IsBuffer k j) (same_value h.0 y (some-injective (Some h.0) (Some y) (sym (full j room) ∙ f))) h.2;
          lawful = subst (λ (z : List (Option Buffer)). holds k ws z vs) (all ∙ sym is) kept.stands.lawful;
        };
      }

pub filled_other : (fs : List Bool) (i k : ℕ) → k ≢ i → get_or (set fs i false) k false ≡ get_or fs k false
filled_other [] i k ne = refl
filled_other (f ∷ fs) zero zero ne = absurd (ne refl)
filled_other (f ∷ fs) zero (suc k) ne = refl
filled_other (f ∷ fs) (suc i) zero ne = refl
filled_other (f ∷ fs) (suc i) (suc k) ne = filled_other fs i k (λ e. ne (ap suc e))

pub filled_here : (fs : List Bool) (i : ℕ) → get_or (set fs i false) i false ≡ false
filled_here [] i = refl
filled_here (f ∷ fs) zero = refl
filled_here (f ∷ fs) (suc i) = filled_here fs i
