-- The plain law of a pool: free cells, ready cells, the right to post, and that what was posted waits or was claimed.
use Rattle.std.specs.Prelude.{◌≡◌, ◌≢◌, ℕ, zero, suc, ◌+◌, ◌<◌, true, false, ◌||◌, List, [], ◌∷◌, ◌++◌, Option, Some, None}
use mathlib.Core.Option.{none, some}
use mathlib.Core.Option as maybe
use lib.ListN.{get_elem?}
use Rattle.packet_board.specs.declared.word.Word.{Word}
use Rattle.packet_board.specs.declared.layout.Layout.{Layout}
use Rattle.packet_board.specs.declared.buffer.Buffer.{Buffer}
use Rattle.packet_board.specs.declared.view.Met.{Met}
use Rattle.packet_board.specs.declared.view.View.{View}
use Rattle.packet_board.specs.Words.{weigh, buffers_of, cell_count, first_word, empty, full}
use Rattle.packet_pool.specs.declared.item.Item.{Item}
use Rattle.packet_pool.specs.declared.plain.PlainNotes.{PlainNotes}
use Rattle.packet_pool.specs.Cells.{ready_count, ready_cell, IsReadyCell, ready_word, item, Rises, IsNext, newest}
use Rattle.packet_pool.specs.Laws.{after_take, IsOnly, PoolCells}

abbrev pub PlainView : Type 0
PlainView = View PlainNotes

abbrev pub Views : Type 0
Views = List PlainView

abbrev pub first_notes : PlainNotes
first_notes = record { right = true; taken = []; posted = []; claimed = [] }

abbrev pub blank_notes : PlainNotes
blank_notes = record { right = false; taken = []; posted = []; claimed = [] }

-- a join moves the right into the seat that takes the other one in
abbrev pub plain_both : PlainNotes → PlainNotes → PlainNotes
plain_both a b = record { right = a.right || b.right; taken = a.taken ++ b.taken; posted = a.posted ++ b.posted; claimed = a.claimed ++ b.claimed }

abbrev pub plain_with_taken : ℕ → PlainNotes → PlainNotes
plain_with_taken n notes = record notes { taken = n ∷ notes.taken }

abbrev pub plain_with_posted : Item → PlainNotes → PlainNotes
plain_with_posted x notes = record notes { posted = x ∷ notes.posted }

abbrev pub plain_with_claimed : Item → PlainNotes → PlainNotes
plain_with_claimed x notes = record notes { claimed = x ∷ notes.claimed }

abbrev pub every_packet : Buffer → Type 0
every_packet y = Unit {0}

abbrev pub always_loose : PlainNotes → ℕ → Type 0
always_loose notes n = Unit {0}

-- a view without the right: it posted nothing, its balance is 0, and it is in the middle of nothing
pub record IsPlain (v : PlainView) : Type 0 where
  pub no_right : v.notes.right ≡ false
  pub none_posted : v.notes.posted ≡ []
  pub balanced : v.begun ≡ v.ended
  pub settled : v.pending ≡ 0

-- exactly one view has the right, all posted items stand in it, and their orders rise
pub record Posting (vs : Views) : Type 0 where
  pub id : ℕ
  pub poster : PlainView
  pub seat : get_elem? vs id ≡ some poster
  pub right : poster.notes.right ≡ true
  pub rises : Rises poster.notes.posted
  pub others : (j : ℕ) (w : PlainView) → j ≢ id → get_elem? vs j ≡ some w → IsPlain w

-- How much the item in a ready cell weighs, if one stands there. A weight is any function of an item; what holds of every weight holds in number
abbrev pub weight_found : (Item → ℕ) → ℕ → ℕ → maybe.Option (Option Buffer) → ℕ
weight_found f order cell none = 0
weight_found f order cell (some None) = 0
weight_found f order cell (some (Some y)) = f (item order cell y)

abbrev pub weight_named : (Item → ℕ) → List (Option Buffer) → ℕ → ℕ → Option ℕ → ℕ
weight_named f bs order cell None = 0
weight_named f bs order cell (Some n) = weight_found f order cell (get_elem? bs n)

abbrev pub weight_in : (Item → ℕ) → List (Option Buffer) → ℕ → maybe.Option Word → ℕ
weight_in f bs cell none = 0
weight_in f bs cell (some w) = weight_named f bs w.tag cell w.buffer

abbrev pub weight_at : (Item → ℕ) → List Word → List (Option Buffer) → ℕ → ℕ
weight_at f ws bs cell = weight_in f bs cell (get_elem? ws cell)

abbrev pub up_to : ℕ → (ℕ → ℕ) → ℕ
up_to zero g = 0
up_to (suc n) g = up_to n g + g n

-- what waits in the ready cells, and what all views posted and claimed
abbrev pub waiting : (Item → ℕ) → Layout → List Word → List (Option Buffer) → ℕ
waiting f k ws bs = up_to (ready_count k) (λ i. weight_at f ws bs (ready_cell k i))

abbrev pub posted_by : (Item → ℕ) → PlainView → ℕ
posted_by f v = weigh f v.notes.posted

abbrev pub claimed_by : (Item → ℕ) → PlainView → ℕ
claimed_by f v = weigh f v.notes.claimed

abbrev pub PlainFresh : List Word → Views → Type 0
PlainFresh ws vs = (id : ℕ) (v : PlainView) (cell : ℕ) (m : Met) → get_elem? vs id ≡ some v → v.live ≡ true → IsOnly id vs → newest cell v.met ≡ some m → get_elem? ws cell ≡ some m.word

-- a view that has the right and made no step is the only one, and every word is that of a new board
abbrev pub PlainUntouched : Layout → List Word → Views → Type 0
PlainUntouched k ws vs = (id : ℕ) (v : PlainView) → get_elem? vs id ≡ some v → v.notes.right ≡ true → v.steps ≡ 0 → IsOnly id vs × ((cell : ℕ) → cell < cell_count k → get_elem? ws cell ≡ some (first_word k cell))

pub record PlainHolds (k : Layout) (ws : List Word) (bs : List (Option Buffer)) (vs : Views) : Type 0 where
  pub posting : Posting vs
  pub cells : PoolCells every_packet k ws bs
  -- each posted item waits in its ready cell or was claimed, in all as often as it was posted
  pub counted : (f : Item → ℕ) → weigh (posted_by f) vs ≡ waiting f k ws bs + weigh (claimed_by f) vs
  pub fresh : PlainFresh ws vs
  pub untouched : PlainUntouched k ws vs

-- the four kinds of exchange
pub data Kind : Type 0 where
  taking : Kind
  giving : Kind
  posting : (n order : ℕ) → Buffer → Kind
  claiming : (n order : ℕ) → Buffer → Kind

pub record IsTaking (v : PlainView) (cell : ℕ) (old new : Word) (notes : PlainNotes) : Type 0 where
  pub free : cell < buffers_of v.layout
  pub before : old ≡ full cell
  pub after : new ≡ empty
  pub notes_after : notes ≡ after_take plain_with_taken v.layout cell v.notes

pub record IsGiving (v : PlainView) (cell : ℕ) (old new : Word) (notes : PlainNotes) : Type 0 where
  pub free : cell < buffers_of v.layout
  pub before : old ≡ empty
  pub after : new ≡ full cell
  pub notes_after : notes ≡ v.notes

pub record IsPosting (v : PlainView) (cell : ℕ) (old new : Word) (given : Option Buffer) (notes : PlainNotes) (n order : ℕ) (y : Buffer) : Type 0 where
  pub ready : IsReadyCell v.layout cell
  pub small : n < v.layout.small
  pub may : v.notes.right ≡ true
  pub next : IsNext order v.notes.posted
  pub before : old ≡ empty
  pub after : new ≡ ready_word order n
  pub packet : given ≡ Some y
  pub notes_after : notes ≡ plain_with_posted (item order cell y) v.notes

pub record IsClaiming (v : PlainView) (cell : ℕ) (old new : Word) (found : Option Buffer) (notes : PlainNotes) (n order : ℕ) (y : Buffer) : Type 0 where
  pub ready : IsReadyCell v.layout cell
  pub small : n < v.layout.small
  pub before : old ≡ ready_word order n
  pub after : new ≡ empty
  pub packet : found ≡ Some y
  pub notes_after : notes ≡ plain_with_claimed (item order cell y) v.notes

abbrev pub IsKind : PlainView → ℕ → Word → Word → Option Buffer → Option Buffer → PlainNotes → Kind → Type 0
IsKind v cell old new given found notes taking = IsTaking v cell old new notes
IsKind v cell old new given found notes giving = IsGiving v cell old new notes
IsKind v cell old new given found notes (posting n order y) = IsPosting v cell old new given notes n order y
IsKind v cell old new given found notes (claiming n order y) = IsClaiming v cell old new found notes n order y

abbrev pub plain_allows : PlainView → ℕ → Word → Word → Option Buffer → Option Buffer → PlainNotes → Type 0
plain_allows v cell old new given found notes = (kind : Kind) × IsKind v cell old new given found notes kind

abbrev pub may_split : PlainView → Type 0
may_split v = v.notes.right ≡ true
