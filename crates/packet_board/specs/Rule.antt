-- The board as the rule of a table: word 0 is the number of seats out, and the word behind it is the first cell's. And what each step of the table tells its seat.
use Rattle.std.specs.Prelude.{◌≡◌, ◌≢◌, ℕ, ◌-◌, ◌<◌, ◌≤◌, true, List, [], ◌∷◌, map, length, Option, Some}
use mathlib.Core.Option.{some}
use Rattle.atomic_table.specs.Table.{State, Me, Step}
use Rattle.packet_board.specs.declared.word.Word.{Word}
use Rattle.packet_board.specs.declared.layout.Layout.{Layout}
use Rattle.packet_board.specs.declared.buffer.Buffer.{Buffer}
use Rattle.packet_board.specs.declared.view.View.{View}
use Rattle.packet_board.specs.Words.{unpacked, buffers_of, times, IsBuffer}
use Rattle.packet_board.specs.Hands.{gives_of, takes_of, Found, Slots, lookup, removed, drop_out, take_in, keys}
use Rattle.packet_board.specs.Views.{looked, exchanged, begun, landed, told_out}
use Rattle.packet_board.specs.Laws.{Law, Allowing, Sound, WasOut, WasAt, Homes}
use Rattle.packet_board.specs.Laws as laws

abbrev pub out_of : List ℕ → ℕ
out_of [] = 0
out_of (n ∷ ns) = n

abbrev pub cells_of : List ℕ → List Word
cells_of [] = []
cells_of (n ∷ ns) = map unpacked ns

abbrev pub Mine : Type 0 → Type 0
Mine N = Me (Option Buffer) (View N)

abbrev pub Taking : Type 0
Taking = Step (Option Buffer)

module _ {N : Type 0} where
  pub record Kept (holds : Law N) (k : Layout) (s : State (Option Buffer) (View N)) : Type 0 where
    pub some_word : 0 < length s.words
    pub stands : laws.Stands holds k (cells_of s.words) (out_of s.words) s.homes s.views

  -- what holds of a seat between two calls: it is out, in the middle of nothing, and the table's seat has the slots of the numbers in its hands
  pub record Ready (v : View N) (c : Slots) : Type 0 where
    pub live : v.live ≡ true
    pub settled : v.pending ≡ 0
    pub tied : (n : ℕ) → times n v.hands ≡ times n (keys c)
    pub single : (n : ℕ) → times n v.hands ≤ 1
    pub numbered : (n : ℕ) → 1 ≤ times n v.hands → n < buffers_of v.layout
    pub bounded : (n : ℕ) (y : Buffer) → lookup c n ≡ some (Some y) → IsBuffer v.layout n y

  -- a load of a cell
  abbrev pub saw : (View N → Word → Type 0) → Taking → Mine N → ℕ → Mine N → Type 0
  saw tells st m r m' = (m' ≡ (looked m.0 (st.word - 1) (unpacked r), m.1)) × tells m.0 (unpacked r)

  -- an exchange that found the old word
  pub record Swapped (chosen : View N → ℕ → Word → Word → Option Buffer → N → Type 0) (cell : ℕ) (old new : Word) (m m' : Mine N) : Type 0 where
    pub found : Option Buffer
    pub notes : N
    pub sort : Found m.0.layout (takes_of old.buffer new.buffer) found
    pub fresh : (o : ℕ) → takes_of old.buffer new.buffer ≡ Some o → times o m.0.hands ≡ 0
    pub picked : chosen m.0 cell old new found notes
    pub after : m' ≡ (exchanged m.0 cell old new notes, take_in (takes_of old.buffer new.buffer) found (drop_out (gives_of old.buffer new.buffer) m.1))

  abbrev pub swapped : (View N → ℕ → Word → Word → Option Buffer → N → Type 0) → (View N → Word → Type 0) → Taking → Mine N → ℕ → Mine N → Type 0
  swapped chosen tells st m r m' = (r ≡ st.first → Swapped chosen (st.word - 1) (unpacked st.first) (unpacked st.second) m m') × (r ≢ st.first → saw tells st m r m')

  -- such a step, and the cell held the word that was found
  abbrev pub at_word : Law N → (Taking → Mine N → ℕ → Mine N → Type 0) → Taking → Mine N → ℕ → Mine N → Type 0
  at_word holds told st m r m' = told st m r m' × WasAt holds (st.word - 1) (unpacked r) m.0

  -- a load of the word whose number is that of a slot in the hands, which brings the slot to the front
  abbrev pub brought : Taking → Mine N → ℕ → Mine N → Type 0
  brought st m r m' = (y : Option Buffer) × (lookup m.1 st.word ≡ some y) × (m' ≡ (m.0, (st.word, y) ∷ removed st.word m.1))

  -- one more seat is out, one less is, and how many are
  abbrev pub began : Taking → Mine N → ℕ → Mine N → Type 0
  began st m r m' = m' ≡ (begun m.0, m.1)

  abbrev pub ended : Taking → Mine N → ℕ → Mine N → Type 0
  ended st m r m' = m' ≡ (landed m.0, m.1)

  abbrev pub counted : Law N → Taking → Mine N → ℕ → Mine N → Type 0
  counted holds st m r m' = (m' ≡ (told_out r m.0, m.1)) × WasOut holds r m.0
