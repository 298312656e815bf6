-- A new board: its words, its buffers, and its rule.
use Rattle.std.proofs.Common.{◌≡◌, ◌≢◌, ℕ, zero, suc, ◌+◌, ◌<◌, ◌≤◌, true≢false, nat_lt, lt-ltb, le-ltb, ltb-true, List, [], ◌∷◌, ◌++◌, length, length-append, map, Option, Some, refl, sym, ap, ◌∙◌, subst, arith, add-one, lt_of_not-le}
use Rattle.std.proofs.lemmas.List.{map_push}
use mathlib.Core.Option.{some, some-injective, some-ne-none}
use mathlib.Core.Logic.{dite}
use native.Mathlib.Decide.{ℕ_discrete, dec_le}
use lib.ListN.{get_elem?}
use Rattle.atomic_table.specs.Table.{opening}
use Rattle.packet_board.specs.declared.word.Word.{Word}
use Rattle.packet_board.specs.declared.layout.Layout.{Layout}
use Rattle.packet_board.specs.declared.buffer.Buffer.{Buffer}
use Rattle.packet_board.specs.declared.view.View.{View}
use Rattle.packet_board.specs.Words.{one_if, names, in_words, first_word, first_words, first_cells, Fits, packed, unpacked, buffers_of, cell_count, bytes_of, IsNew, AreNew}
use Rattle.packet_board.specs.Hands.{flat}
use Rattle.packet_board.specs.Views.{opening_view}
use Rattle.packet_board.specs.Laws.{Homes, Sound, Law, Opens}
use Rattle.packet_board.specs.Rule.{Kept}
use Rattle.packet_board.specs.Weights.{at_below, weigh_more, one_same, one_other, from_one}
use Rattle.packet_board.specs.Opening.{length_first, free_word, other_word}
use Rattle.packet_board.proofs.Packs.{unpacked_packed}

module _ {A : Type 0} where
  pub at_push : (xs : List A) (a b : A) (j : ℕ) → get_elem? (xs ++ a ∷ []) j ≡ some b → j ≢ length xs → get_elem? xs j ≡ some b
  at_push [] a b zero e h = absurd (h refl)
  at_push [] a b (suc j) e h = absurd (some-ne-none b (sym e))
  at_push (x ∷ xs) a b zero e h = e
  at_push (x ∷ xs) a b (suc j) e h = at_push xs a b j e (λ p. h (ap suc p))

  pub at_pushed : (xs : List A) (a b : A) (j : ℕ) → get_elem? (xs ++ a ∷ []) j ≡ some b → j ≡ length xs → a ≡ b
  at_pushed [] a b zero e h = some-injective a b e
  at_pushed [] a b (suc j) e h = absurd (omega arith)
  at_pushed (x ∷ xs) a b zero e h = absurd (omega arith)
  at_pushed (x ∷ xs) a b (suc j) e h = at_pushed xs a b j e (omega arith)

  pub map_some_at : (xs : List A) (j : ℕ) (a : A) → get_elem? xs j ≡ some a → get_elem? (map some xs) j ≡ some (some a)
  map_some_at [] j a e = absurd (some-ne-none a (sym e))
  map_some_at (x ∷ xs) zero a e = ap some e
  map_some_at (x ∷ xs) (suc j) a e = map_some_at xs j a e

  pub length_mapped : {B : Type 0} (f : A → B) (xs : List A) → length (map f xs) ≡ length xs
  length_mapped f [] = refl
  length_mapped f (x ∷ xs) = ap suc (length_mapped f xs)

first_fits : (k : Layout) (i : ℕ) → buffers_of k ≤ 4095 → Fits (first_word k i)
first_fits k i few = dite (dec_le (buffers_of k) i) (λ h. subst Fits (sym (other_word k i h)) ((omega arith), tt))
    (λ h. let room : i < buffers_of k = lt_of_not-le h in subst Fits (sym (free_word k i room)) ((omega arith), omega (arith, few, room)))

-- what a table's words are for it
pub first_read : (k : Layout) (n : ℕ) → buffers_of k ≤ 4095 → map unpacked (map packed (first_words k n)) ≡ first_words k n
first_read k zero few = refl
first_read k (suc n) few = ap (map unpacked) (map_push packed (first_words k n) (first_word k n)) ∙ (map_push unpacked (map packed (first_words k n)) (packed (first_word k n))
    ∙ (λ i. first_read k n few i ++ unpacked_packed (first_word k n) (first_fits k n few) i ∷ []))

pub more_first : (k : Layout) (n : ℕ) → (0 ∷ map packed (first_words k n)) ++ packed (first_word k n) ∷ [] ≡ 0 ∷ map packed (first_words k (n + 1))
more_first k n = ap (λ (z : List ℕ). 0 ∷ z) (sym (map_push packed (first_words k n) (first_word k n)) ∙ ap (λ (z : ℕ). map packed (first_words k z)) (sym (add-one n)))

named_other : (k : Layout) (i b : ℕ) → i ≢ b → names b (first_word k i).buffer ≡ 0
named_other k i b ne = dite (dec_le (buffers_of k) i) (λ h. ap (λ (w : Word). names b w.buffer) (other_word k i h)) (λ h. ap (λ (w : Word). names b w.buffer) (free_word k i (lt_of_not-le h)) ∙ one_other i b ne)

named_own : (k : Layout) (b : ℕ) → names b (first_word k b).buffer ≡ one_if (nat_lt b (buffers_of k))
named_own k b = dite (dec_le (buffers_of k) b) (λ h. ap (λ (w : Word). names b w.buffer) (other_word k b h) ∙ sym (ap one_if (le-ltb b (buffers_of k) h)))
    (λ h. let room : b < buffers_of k = lt_of_not-le h in ap (λ (w : Word). names b w.buffer) (free_word k b room) ∙ (one_same b b refl ∙ sym (ap one_if (lt-ltb b (buffers_of k) room))))

not_yet : (k : Layout) (n b : ℕ) → n ≤ b → in_words b (first_words k n) ≡ 0
not_yet k zero b h = refl
not_yet k (suc n) b h = let r = not_yet k n b (omega arith) in let m = weigh_more (λ (w : Word). names b w.buffer) (first_words k n) (first_word k n) in let o = named_other k n b (λ e. omega arith) in
    let x : ℕ = in_words b (first_words k n) in let r' : x ≡ 0 = r in m ∙ (omega (arith, r', o))

named_once : (k : Layout) (n b : ℕ) → b < n → in_words b (first_words k n) ≡ one_if (nat_lt b (buffers_of k))
named_once k zero b h = absurd (omega arith)
named_once k (suc n) b h = let m = weigh_more (λ (w : Word). names b w.buffer) (first_words k n) (first_word k n) in let x : ℕ = in_words b (first_words k n) in dite (ℕ_discrete n b)
    (λ e. let r : x ≡ 0 = not_yet k n b (subst (λ (z : ℕ). n ≤ z) e (omega arith)) in let o : names b (first_word k n).buffer ≡ one_if (nat_lt b (buffers_of k)) = subst (λ (z : ℕ). names b (first_word k z).buffer ≡ one_if (nat_lt b (buffers_of k))) (sym e) (named_own k b) in
    m ∙ (omega (arith, r, o)))
    (λ ne. let r : x ≡ one_if (nat_lt b (buffers_of k)) = named_once k n b (omega arith) in let o = named_other k n b ne in m ∙ (omega (arith, r, o)))

pub first_named : (k : Layout) (b : ℕ) → in_words b (first_cells k) ≡ one_if (nat_lt b (buffers_of k))
first_named k b = let room : buffers_of k ≤ cell_count k = omega arith in dite (dec_le (cell_count k) b)
    (λ h. not_yet k (cell_count k) b h ∙ sym (ap one_if (le-ltb b (buffers_of k) (omega (arith, h))))) (λ h. named_once k (cell_count k) b (lt_of_not-le h))

pub more_new : (k : Layout) (n : ℕ) (xs : List (Option Buffer)) (y : Buffer) → AreNew k n xs → IsNew k n y → AreNew k (n + 1) (xs ++ Some y ∷ [])
more_new k n xs y new is = (
  length-append xs (Some y ∷ []) ∙ (let e = new.0 in omega (arith, e)),
  λ j x e. dite (ℕ_discrete j (length xs)) (λ h. (y, sym (at_pushed xs (Some y) x j e h), subst (λ (z : ℕ). IsNew k z y) (sym (h ∙ new.0)) is)) (λ ne. new.1 j x (at_push xs (Some y) x j e ne)),
)

flat_some : (xs : List (Option Buffer)) → map flat (map some xs) ≡ xs
flat_some [] = refl
flat_some (x ∷ xs) = ap (λ (z : List (Option Buffer)). x ∷ z) (flat_some xs)

there : (xs : List (Option Buffer)) (i : ℕ) → i < length xs → (x : Option Buffer) × (get_elem? xs i ≡ some x)
there = at_below

module _ {N : Type 0} where
  one_view : (v u : View N) (j : ℕ) → get_elem? (v ∷ []) j ≡ some u → v ≡ u
  one_view v u zero e = some-injective v u e
  one_view v u (suc j) e = absurd (some-ne-none u (sym e))

  pub opens_board : (holds : Law N) (fits : Layout → Type 0) (first : Layout → N) → Opens holds fits first → (k : Layout) (ns : List ℕ) (xs : List (Option Buffer)) → fits k → buffers_of k ≤ 4095 → ns ≡ 0 ∷ map packed (first_cells k) → AreNew k (buffers_of k) xs
      → Kept holds k (opening ns xs (opening_view k (first k)))
  opens_board holds fits first opens k ns xs may few is new = let ws : List Word = first_cells k in let v : View N = opening_view k (first k) in let hs : Homes = map some xs in
      subst (λ (z : List ℕ). Kept holds k (opening z xs v)) (sym is) record {
        some_word = omega arith;
        stands = record {
          sound = subst (λ (z : List Word). Sound k z 0 hs (v ∷ [])) (sym (first_read k (cell_count k) few)) record {
            wide = length_first k (cell_count k);
            long = length_mapped some xs ∙ new.0;
            custody = λ b. let e = first_named k b in let x : ℕ = in_words b ws in let e' : x ≡ one_if (nat_lt b (buffers_of k)) = e in omega (arith, e');
            home = λ b h. let e = first_named k b in let room = ltb-true b (buffers_of k) (from_one (nat_lt b (buffers_of k)) (omega (arith, e, h))) in let y = there xs b (subst (λ (z : ℕ). b < z) (sym new.0) room) in let n = new.1 b y.0 y.1 in
                (n.0, map_some_at xs b y.0 y.1 ∙ ap (λ (z : Option Buffer). some (some z)) n.1, n.2.within);
            away = λ b room h. let e = first_named k b in let t : one_if (nat_lt b (buffers_of k)) ≡ 1 = ap one_if (lt-ltb b (buffers_of k) room) in absurd (omega (arith, e, h, t));
            balanced = refl;
            counted = refl;
            of_layout = λ j u e l. subst (λ (z : View N). z.layout ≡ k) (one_view v u j e) refl;
            idle = λ j u e l. absurd (true≢false (ap (λ (z : View N). z.live) (one_view v u j e) ∙ l));
            lonely = λ j u e l. absurd (true≢false (sym (ap (λ (z : View N). z.alone) (one_view v u j e) ∙ l)));
            untouched = λ u e l z. record { one_seat = refl; first = refl; new = subst (AreNew k (buffers_of k)) (sym (flat_some xs)) new };
          };
          lawful = subst (λ (z : List Word × List (Option Buffer)). holds k z.0 z.1 (v ∷ [])) (λ i. (sym (first_read k (cell_count k) few) i, sym (flat_some xs) i)) (opens k xs may new);
        };
      }

pub new_buffer : (k : Layout) (n : ℕ) (y : Buffer) → length y.bytes ≡ bytes_of k n → y.len ≡ 0 → y.from ≡ 1 → IsNew k n y
new_buffer k n y bytes len from = record { within = record { bytes = bytes; data_fits = omega (arith, len); from_1 = omega (arith, from); to_254 = omega (arith, from) }; no_data = len; from_is = from }

one_longer : (x y : ℕ) → x ≡ y → suc x ≡ y + 1
one_longer x y e = omega (arith, e)

pub opening_length : (k : Layout) (ns : List ℕ) → ns ≡ 0 ∷ map packed (first_cells k) → length ns ≡ cell_count k + 1
opening_length k ns e = let a : length (map packed (first_cells k)) ≡ cell_count k = length_mapped packed (first_cells k) ∙ length_first k (cell_count k) in ap length e ∙ one_longer (length (map packed (first_cells k))) (cell_count k) a
