-- What a law has to allow and to keep for a pool.
use Rattle.std.specs.Prelude.{◌≡◌, ◌≢◌, ℕ, ◌<◌, nat_lt, if◌then◌else◌, Bool, true, false, ◌||◌, List, [], ◌∷◌, ◌++◌, Option, Some, None}
use mathlib.Core.Option.{some}
use lib.ListN.{get_elem?}
use Rattle.packet_board.specs.declared.word.Word.{Word}
use Rattle.packet_board.specs.declared.layout.Layout.{Layout}
use Rattle.packet_board.specs.declared.buffer.Buffer.{Buffer}
use Rattle.packet_board.specs.declared.view.Met.{Met}
use Rattle.packet_board.specs.declared.view.View.{View}
use Rattle.packet_board.specs.Words.{buffers_of, empty, full}
use Rattle.packet_board.specs.Laws.{Law, Allowing}
use Rattle.packet_pool.specs.declared.item.Item.{Item}
use Rattle.packet_pool.specs.Cells.{IsReadyCell, ready_word, item, IsFreeWord, IsReadyWord, IsNext, newest}

-- a long buffer that is taken stands in no notes
abbrev pub after_take : {N : Type 0} → (ℕ → N → N) → Layout → ℕ → N → N
after_take with_taken k n notes = if nat_lt n k.small then with_taken n notes else notes

-- what free and ready cells have
pub record PoolCells (may_post : Buffer → Type 0) (k : Layout) (ws : List Word) (bs : List (Option Buffer)) : Type 0 where
  pub free : (n : ℕ) (w : Word) → n < buffers_of k → get_elem? ws n ≡ some w → IsFreeWord n w
  pub ready : (cell : ℕ) (w : Word) → IsReadyCell k cell → get_elem? ws cell ≡ some w → IsReadyWord k w
  -- a packet in a ready cell is one that may be posted
  pub postable : (cell n : ℕ) (w : Word) (y : Buffer) → IsReadyCell k cell → get_elem? ws cell ≡ some w → w.buffer ≡ Some n → get_elem? bs n ≡ some (Some y) → may_post y

module _ {N : Type 0} where
  -- what the notes after a take, a post and a claim tell
  pub record Notes (right : N → Bool) (taken : N → List ℕ) (posted claimed : N → List Item) (with_taken : ℕ → N → N) (with_posted with_claimed : Item → N → N) : Type 0 where
    pub take_right : (n : ℕ) (notes : N) → right (with_taken n notes) ≡ right notes
    pub take_taken : (n : ℕ) (notes : N) → taken (with_taken n notes) ≡ n ∷ taken notes
    pub take_posted : (n : ℕ) (notes : N) → posted (with_taken n notes) ≡ posted notes
    pub take_claimed : (n : ℕ) (notes : N) → claimed (with_taken n notes) ≡ claimed notes
    pub post_right : (x : Item) (notes : N) → right (with_posted x notes) ≡ right notes
    pub post_taken : (x : Item) (notes : N) → taken (with_posted x notes) ≡ taken notes
    pub post_posted : (x : Item) (notes : N) → posted (with_posted x notes) ≡ x ∷ posted notes
    pub post_claimed : (x : Item) (notes : N) → claimed (with_posted x notes) ≡ claimed notes
    pub claim_right : (x : Item) (notes : N) → right (with_claimed x notes) ≡ right notes
    pub claim_taken : (x : Item) (notes : N) → taken (with_claimed x notes) ≡ taken notes
    pub claim_posted : (x : Item) (notes : N) → posted (with_claimed x notes) ≡ posted notes
    pub claim_claimed : (x : Item) (notes : N) → claimed (with_claimed x notes) ≡ x ∷ claimed notes

  -- the notes of the first seat, which has the right to post, of one that was split off, and of two that were joined
  pub record Seats (right : N → Bool) (taken : N → List ℕ) (posted claimed : N → List Item) (first : Layout → N) (blank : N) (both : N → N → N) : Type 0 where
    pub first_right : (k : Layout) → right (first k) ≡ true
    pub first_taken : (k : Layout) → taken (first k) ≡ []
    pub first_posted : (k : Layout) → posted (first k) ≡ []
    pub first_claimed : (k : Layout) → claimed (first k) ≡ []
    pub blank_right : right blank ≡ false
    pub blank_taken : taken blank ≡ []
    pub blank_posted : posted blank ≡ []
    pub blank_claimed : claimed blank ≡ []
    pub both_right : (a b : N) → right (both a b) ≡ (right a || right b)
    pub both_taken : (a b : N) → taken (both a b) ≡ taken a ++ taken b
    pub both_posted : (a b : N) → posted (both a b) ≡ posted a ++ posted b
    pub both_claimed : (a b : N) → claimed (both a b) ≡ claimed a ++ claimed b

  -- a free cell may lose its buffer
  abbrev pub Takes : Allowing N → (ℕ → N → N) → Type 0
  Takes allows with_taken = (v : View N) (n : ℕ) (y : Buffer) → n < buffers_of v.layout → allows v n (full n) empty None (Some y) (after_take with_taken v.layout n v.notes)

  -- it may get its buffer back
  abbrev pub Gives : Allowing N → (N → ℕ → Type 0) → Type 0
  Gives allows is_loose = (v : View N) (n : ℕ) (y : Buffer) → n < buffers_of v.layout → is_loose v.notes n → allows v n empty (full n) (Some y) None v.notes

  -- what a seat has to show that posts the small buffer of a number, with that content, under an order
  pub record MayPost (right : N → Bool) (posted : N → List Item) (may_post : Buffer → Type 0) (is_loose : N → ℕ → Type 0) (notes : N) (n : ℕ) (y : Buffer) (order : ℕ) : Type 0 where
    pub right_to : right notes ≡ true
    pub next : IsNext order (posted notes)
    pub packet : may_post y
    pub loose : is_loose notes n

  -- an empty ready cell may get such a packet
  abbrev pub Posts : Allowing N → (N → Bool) → (N → List Item) → (Item → N → N) → (Buffer → Type 0) → (N → ℕ → Type 0) → Type 0
  Posts allows right posted with_posted may_post is_loose = (v : View N) (cell n : ℕ) (y : Buffer) (order : ℕ) → IsReadyCell v.layout cell → n < v.layout.small → MayPost right posted may_post is_loose v.notes n y order
      → allows v cell empty (ready_word order n) (Some y) None (with_posted (item order cell y) v.notes)

  -- a ready cell may lose its packet
  abbrev pub Claims : Allowing N → (Item → N → N) → Type 0
  Claims allows with_claimed = (v : View N) (cell n : ℕ) (y : Buffer) (order : ℕ) → IsReadyCell v.layout cell → n < v.layout.small
      → allows v cell (ready_word order n) empty None (Some y) (with_claimed (item order cell y) v.notes)

  abbrev pub Cells : Law N → (Buffer → Type 0) → Type 0
  Cells holds may_post = (k : Layout) (ws : List Word) (bs : List (Option Buffer)) (vs : List (View N)) → holds k ws bs vs → PoolCells may_post k ws bs

  -- no other view is live
  abbrev pub IsOnly : ℕ → List (View N) → Type 0
  IsOnly id vs = (j : ℕ) (w : View N) → j ≢ id → get_elem? vs j ≡ some w → w.live ≡ false

  -- where one seat alone is out, each word that it met or left last is its cell's word
  abbrev pub Fresh : Law N → Type 0
  Fresh holds = (k : Layout) (ws : List Word) (bs : List (Option Buffer)) (vs : List (View N)) (id : ℕ) (v : View N) (cell : ℕ) (m : Met)
      → holds k ws bs vs → get_elem? vs id ≡ some v → v.live ≡ true → IsOnly id vs → newest cell v.met ≡ some m → get_elem? ws cell ≡ some m.word
