-- Numbers in a seat's hands, and the words of free cells.
use Rattle.std.proofs.Common.{◌≡◌, ◌≢◌, ℕ, ◌<◌, ◌≤◌, ⊎_elim, Option, Some, None, sym, ap, ◌∙◌, arith, List}
use mathlib.Core.Option.{some, none, some-injective}
use mathlib.Core.Option as maybe
use lib.ListN.{get_elem?}
use Rattle.packet_board.specs.declared.word.Word.{Word}
use Rattle.packet_board.specs.declared.layout.Layout.{Layout}
use Rattle.packet_board.specs.declared.buffer.Buffer.{Buffer}
use Rattle.packet_board.specs.declared.view.View.{View}
use Rattle.packet_board.specs.Words.{buffers_of, times, names, in_words, empty, full}
use Rattle.packet_board.specs.Hands.{Held, updated, IsStowed, lookup}
use Rattle.packet_board.specs.Laws.{Law, Seen, Homes}
use Rattle.packet_board.specs.Rule.{Ready}
use Rattle.packet_board.specs.Weights.{weigh_at, names_self}
use Rattle.packet_board.specs.Holding.{counted_key, same_value, updated_here, updated_twice}
use Rattle.packet_board.specs.Custody.{in_no_word}
use Rattle.packet_pool.specs.Laws.{Cells}

pub out_one : (n : ℕ) (h i : Held) → i ≡ updated n (some None) h → i n ≡ some None
out_one n h i e = ap (λ (f : Held). f n) e ∙ updated_here n (some None) h

pub stowed_in : (n : ℕ) (h i : Held) (y : Buffer) → i ≡ updated n (some (Some y)) h → IsStowed i n
stowed_in n h i y e = (y, ap (λ (f : Held). f n) e ∙ updated_here n (some (Some y)) h)

pub holds_content : (n : ℕ) (h i : Held) (y : Buffer) → i ≡ updated n (some (Some y)) h → i n ≡ some (Some y)
holds_content n h i y e = ap (λ (f : Held). f n) e ∙ updated_here n (some (Some y)) h

pub found_stowed : (n : ℕ) (h i : Held) (found : Option Buffer) (y : Buffer) → i ≡ updated n (some found) h → found ≡ Some y → IsStowed i n
found_stowed n h i found y e is = stowed_in n h i y (e ∙ ap (λ (z : Option Buffer). updated n (some z) h) is)

pub twice_updated : (n : ℕ) (a b : maybe.Option (Option Buffer)) (h i j : Held) → i ≡ updated n a h → j ≡ updated n b i → j ≡ updated n b h
twice_updated n a b h i j e f = f ∙ (ap (λ (z : Held). updated n b z) e ∙ updated_twice n b a h)

pub same_content : (n : ℕ) (h i : Held) (y x : Buffer) → i ≡ updated n (some (Some y)) h → i n ≡ some (Some x) → y ≡ x
same_content n h i y x e is = same_value y x (some-injective (Some y) (Some x) (sym (ap (λ (f : Held). f n) e ∙ updated_here n (some (Some y)) h) ∙ is))

module _ {N : Type 0} where
  -- a number that a seat holds is in its view's hands
  pub in_hands_of : (v : View N) (c : List (ℕ × Option Buffer)) (n : ℕ) (y : Option Buffer) → Ready v c → lookup c n ≡ some y → 1 ≤ times n v.hands
  in_hands_of v c n y ready is = let once = counted_key c n y is in let tied = ready.tied n in omega (arith, once, tied)

  -- so its free cell is empty
  pub free_is_empty : (holds : Law N) (may_post : Buffer → Type 0) → Cells holds may_post → (k : Layout) (id : ℕ) (v : View N) (n : ℕ) → n < buffers_of k → 1 ≤ times n v.hands
      → (ws : List Word) (out : ℕ) (hs : Homes) (vs : List (View N)) (word : Word) → Seen holds k ws out hs vs id v → get_elem? ws n ≡ some word → word ≢ empty → ⊥
  free_is_empty holds may_post cells k id v n room mine ws out hs vs word seen at ne = ⊎_elim (λ e. ne e)
      (λ e. let none_there = in_no_word k ws out hs vs id v n seen.sound seen.seat mine in let once = weigh_at (λ (z : Word). names n z.buffer) ws n word at in
      let self : names n word.buffer ≡ 1 = ap (λ (z : Word). names n z.buffer) e ∙ names_self n in let x : ℕ = in_words n ws in let once' : names n word.buffer ≤ x = once in absurd (omega (arith, none_there, once', self)))
      ((cells k ws _ vs seen.lawful).free n word room at)

  -- a free cell without its own buffer is empty
  pub met_empty : (holds : Law N) (may_post : Buffer → Type 0) → Cells holds may_post → (k : Layout) (id : ℕ) (v : View N) (n : ℕ) → n < buffers_of k
      → (ws : List Word) (out : ℕ) (hs : Homes) (vs : List (View N)) (word : Word) → Seen holds k ws out hs vs id v → get_elem? ws n ≡ some word → word ≢ full n → word ≡ empty
  met_empty holds may_post cells k id v n room ws out hs vs word seen at ne = ⊎_elim (λ e. e) (λ e. absurd (ne e)) ((cells k ws _ vs seen.lawful).free n word room at)
