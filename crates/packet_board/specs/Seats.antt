-- What contracts say of a board and of its seats.
use Rattle.std.specs.Prelude.{◌≡◌, ◌≢◌, ℕ, nat_lt, false, List, map, length, Option, Some}
use mathlib.Core.Option.{some}
use lib.ListN.{get_elem?}
use Rattle.packet_board.specs.declared.word.Word.{Word}
use Rattle.packet_board.specs.declared.layout.Layout.{Layout}
use Rattle.packet_board.specs.declared.buffer.Buffer.{Buffer}
use Rattle.packet_board.specs.declared.view.View.{View}
use Rattle.packet_board.specs.declared.seat.Seat.{Seat}
use Rattle.packet_board.specs.declared.board.Board.{Board}
use Rattle.packet_board.specs.declared.law.BoardLaw.{Ghosts}
use Rattle.packet_board.specs.Words.{one_if, buffers_of, cell_count, in_words, Fits, IsBuffer}
use Rattle.packet_board.specs.Hands.{gives_of, takes_of, flat, Held, lookup, Found, given_away, taken_in}
use Rattle.packet_board.specs.Views.{exchanged}
use Rattle.packet_board.specs.Laws.{Law, Homes, Seen}

module _ {L N : Type 0} where
  abbrev pub layout_of : Board L N → Layout
  layout_of board = board.layout

module _ {L N : Type 0} {g : Ghosts L N} where
  -- what the seat knows, what it has in its hands, and its number among the views
  abbrev pub view : Seat L N g → View N
  view seat = seat.token.me.0

  abbrev pub held : Seat L N g → Held
  held seat = lookup seat.token.me.1

  abbrev pub number : Seat L N g → ℕ
  number seat = seat.token.id

  abbrev pub IsSeatOf : Board L N → Seat L N g → Type 0
  IsSeatOf board seat = (seat.token.table_id ≡ board.table.shared.table_id) × (seat.token.me.0.layout ≡ board.layout)

  -- it is still a seat of its board, with its number
  abbrev pub IsSameSeat : Seat L N g → Seat L N g → Type 0
  IsSameSeat old new = (new.token.table_id ≡ old.token.table_id) × (new.token.id ≡ old.token.id) × (new.token.me.0.layout ≡ old.token.me.0.layout)

module _ {N : Type 0} where
  -- An exchange that found the old word: what it found behind the number that it took, the notes that its caller chose, and what the seat knows and holds after
  pub record Exchanged (chooses : View N → Option Buffer → N → Type 0) (k : Layout) (v w : View N) (h i : Held) (cell : ℕ) (old new : Word) : Type 0 where
    pub found : Option Buffer
    pub notes : N
    pub sort : Found k (takes_of old.buffer new.buffer) found
    pub chosen : chooses v found notes
    pub view_after : w ≡ exchanged v cell old new notes
    pub held_after : i ≡ taken_in (takes_of old.buffer new.buffer) found (given_away (gives_of old.buffer new.buffer) h)

  -- What a closed board leaves: its last state, in which the seat that closed it is the only one
  pub record Ended (holds : Law N) (k : Layout) (id : ℕ) (v : View N) (words : List Word) (buffers : List Buffer) : Type 0 where
    pub homes : Homes
    pub views : List (View N)
    pub last : Seen holds k words 0 homes views id v
    pub at_home : map flat homes ≡ map Some buffers
    pub others : (j : ℕ) (w : View N) → j ≢ id → get_elem? views j ≡ some w → w.live ≡ false
    pub wide : length words ≡ cell_count k
    pub long : length buffers ≡ buffers_of k
    pub fit : (cell : ℕ) (w : Word) → get_elem? words cell ≡ some w → Fits w
    pub custody : (b : ℕ) → in_words b words ≡ one_if (nat_lt b (buffers_of k))
    pub bounds : (n : ℕ) (y : Buffer) → get_elem? buffers n ≡ some y → IsBuffer k n y
    pub lawful : holds k words (map Some buffers) views
