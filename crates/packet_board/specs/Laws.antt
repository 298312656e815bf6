-- What a board keeps under any law, and what a law has to keep: one statement for each kind of step.
use Rattle.std.specs.Prelude.{◌≡◌, ◌≢◌, ℕ, ◌+◌, ◌<◌, ◌≤◌, nat_lt, true, false, List, [], ◌∷◌, ◌++◌, map, length, slice_set, Option, Some, None}
use mathlib.Core.Option.{none, some}
use mathlib.Core.Option as maybe
use lib.ListN.{get_elem?}
use Rattle.packet_board.specs.declared.word.Word.{Word}
use Rattle.packet_board.specs.declared.layout.Layout.{Layout}
use Rattle.packet_board.specs.declared.buffer.Buffer.{Buffer}
use Rattle.packet_board.specs.declared.view.View.{View}
use Rattle.packet_board.specs.Words.{one_if, weigh, buffers_of, cell_count, first_cells, in_words, times, IsBuffer, AreNew}
use Rattle.packet_board.specs.Hands.{gives_of, takes_of, placed, flat, Found}
use Rattle.packet_board.specs.Views.{looked, exchanged, begun, settled, newcomer, opening_view, joined, spent, landed, told_out, in_hands}

-- the slots: a buffer, or none, where it is at home, and nothing where a seat has it
abbrev pub Homes : Type 0
Homes = List (maybe.Option (Option Buffer))

abbrev pub Law : Type 0 → Type 1
Law N = Layout → List Word → List (Option Buffer) → List (View N) → Type 0

abbrev pub Allowing : Type 0 → Type 1
Allowing N = View N → ℕ → Word → Word → Option Buffer → Option Buffer → N → Type 0

module _ {N : Type 0} where
  -- A board on which no step was made: one seat, in each cell its first word, and in each slot a new buffer
  pub record IsUntouched (k : Layout) (ws : List Word) (hs : Homes) (vs : List (View N)) : Type 0 where
    pub one_seat : length vs ≡ 1
    pub first : ws ≡ first_cells k
    pub new : AreNew k (buffers_of k) (map flat hs)

  -- Between any two steps of any seats: words, the number of seats out, slots, and all views. A view that a join has spent stays in the list, and is no longer live
  pub record Sound (k : Layout) (ws : List Word) (out : ℕ) (hs : Homes) (vs : List (View N)) : Type 0 where
    pub wide : length ws ≡ cell_count k
    pub long : length hs ≡ buffers_of k
    -- each number of a buffer stands exactly once among all words and all hands
    pub custody : (b : ℕ) → in_words b ws + in_hands b vs ≡ one_if (nat_lt b (buffers_of k))
    -- a buffer that a word names is in its slot
    pub home : (b : ℕ) → in_words b ws ≡ 1 → (y : Buffer) × (get_elem? hs b ≡ some (some (Some y))) × IsBuffer k b y
    -- the slot of a number in the hands is its seat's
    pub away : (b : ℕ) → b < buffers_of k → in_words b ws ≡ 0 → get_elem? hs b ≡ some none
    -- the number of seats out is the sum of all balances
    pub balanced : out + weigh (λ v. v.ended) vs ≡ weigh (λ v. v.begun) vs
    -- and that number and 1 is the number of views and of those that are in the middle of a split or a join
    pub counted : out + 1 ≡ weigh (λ v. one_if v.live) vs + weigh (λ v. v.pending) vs
    pub of_layout : (j : ℕ) (v : View N) → get_elem? vs j ≡ some v → v.live ≡ true → v.layout ≡ k
    pub idle : (j : ℕ) (v : View N) → get_elem? vs j ≡ some v → v.live ≡ false → (b : ℕ) → times b v.hands ≡ 0
    -- a view that is alone is the only one
    pub lonely : (j : ℕ) (v : View N) → get_elem? vs j ≡ some v → v.alone ≡ true → (out ≡ 0) × (v.pending ≡ 0) × (v.live ≡ true)
    -- while the first seat has made no step, nobody has
    pub untouched : (v : View N) → get_elem? vs 0 ≡ some v → v.live ≡ true → v.steps ≡ 0 → IsUntouched k ws hs vs

  module _ (holds : Law N) where
    -- a state that the board may be in
    pub record Stands (k : Layout) (ws : List Word) (out : ℕ) (hs : Homes) (vs : List (View N)) : Type 0 where
      pub sound : Sound k ws out hs vs
      pub lawful : holds k ws (map flat hs) vs

    -- the same, and the seat of that number is out and has that view
    pub record Seen (k : Layout) (ws : List Word) (out : ℕ) (hs : Homes) (vs : List (View N)) (id : ℕ) (v : View N) : Type 0 where
      pub sound : Sound k ws out hs vs
      pub lawful : holds k ws (map flat hs) vs
      pub seat : get_elem? vs id ≡ some v
      pub live : v.live ≡ true

    -- the board was in a state with that number of seats out, in which a seat had that view
    abbrev pub WasOut : ℕ → View N → Type 0
    WasOut out v = (ws : List Word) × (hs : Homes) × (vs : List (View N)) × (id : ℕ) × Seen v.layout ws out hs vs id v

    -- and with that word in that cell
    abbrev pub WasAt : ℕ → Word → View N → Type 0
    WasAt cell word v = (ws : List Word) × (out : ℕ) × (hs : Homes) × (vs : List (View N)) × (id : ℕ) × Seen v.layout ws out hs vs id v × (get_elem? ws cell ≡ some word)

    -- whatever the board is now, no step was made on it
    abbrev pub IsNewNow : Layout → ℕ → View N → Type 0
    IsNewNow k id v = (ws : List Word) (out : ℕ) (hs : Homes) (vs : List (View N)) → Seen k ws out hs vs id v → IsUntouched k ws hs vs

    -- a new board
    abbrev pub Opens : (Layout → Type 0) → (Layout → N) → Type 0
    Opens fits first = (k : Layout) (xs : List (Option Buffer)) → fits k → AreNew k (buffers_of k) xs → holds k (first_cells k) xs (opening_view k (first k) ∷ [])

    -- a load, and an exchange that finds another word
    abbrev pub Looks : Type 0
    Looks = (k : Layout) (ws : List Word) (out : ℕ) (hs : Homes) (vs : List (View N)) (id : ℕ) (v : View N) (cell : ℕ) (word : Word)
        → Seen k ws out hs vs id v → get_elem? ws cell ≡ some word → holds k ws (map flat hs) (slice_set vs id (looked v cell word))

    -- what a seat has at the step at which its exchange finds the old word
    pub record Meets (k : Layout) (ws : List Word) (out : ℕ) (hs : Homes) (vs : List (View N)) (id : ℕ) (v : View N) (cell : ℕ) (old new : Word) (found : Option Buffer) : Type 0 where
      pub seen : Seen k ws out hs vs id v
      pub at_cell : get_elem? ws cell ≡ some old
      pub given : (n : ℕ) → gives_of old.buffer new.buffer ≡ Some n → 1 ≤ times n v.hands
      pub sort : Found k (takes_of old.buffer new.buffer) found
      pub taken : (n : ℕ) → takes_of old.buffer new.buffer ≡ Some n → get_elem? hs n ≡ some (some found)

    -- an exchange that is allowed
    abbrev pub Exchanges : Allowing N → Type 0
    Exchanges allows = (k : Layout) (ws : List Word) (out : ℕ) (hs : Homes) (vs : List (View N)) (id : ℕ) (v : View N) (cell : ℕ) (old new : Word) (given found : Option Buffer) (notes : N)
        → Meets k ws out hs vs id v cell old new found → allows v cell old new given found notes
        → holds k (slice_set ws cell new) (placed (takes_of old.buffer new.buffer) None (placed (gives_of old.buffer new.buffer) given (map flat hs))) (slice_set vs id (exchanged v cell old new notes))

    -- a load of the number of seats out
    abbrev pub Counts : Type 0
    Counts = (k : Layout) (ws : List Word) (out : ℕ) (hs : Homes) (vs : List (View N)) (id : ℕ) (v : View N)
        → Seen k ws out hs vs id v → (out ≡ 0 → (j : ℕ) (w : View N) → j ≢ id → get_elem? vs j ≡ some w → w.live ≡ false)
        → holds k ws (map flat hs) (slice_set vs id (told_out out v))

    module _ (splits : View N → Type 0) where
      -- a split begins
      abbrev pub Begins : Type 0
      Begins = (k : Layout) (ws : List Word) (out : ℕ) (hs : Homes) (vs : List (View N)) (id : ℕ) (v : View N)
          → Seen k ws out hs vs id v → splits v → v.pending ≡ 0 → holds k ws (map flat hs) (slice_set vs id (begun v))

      -- the seat that a split makes
      abbrev pub Parts : N → Type 0
      Parts blank = (k : Layout) (ws : List Word) (out : ℕ) (hs : Homes) (vs : List (View N)) (id : ℕ) (v : View N)
          → Seen k ws out hs vs id (begun v) → splits v → v.pending ≡ 0 → holds k ws (map flat hs) (slice_set vs id (settled (begun v)) ++ newcomer blank (begun v) ∷ [])

      -- a join takes the other seat in
      abbrev pub Merges : (N → N → N) → N → Type 0
      Merges both blank = (k : Layout) (ws : List Word) (out : ℕ) (hs : Homes) (vs : List (View N)) (id : ℕ) (v : View N) (other : ℕ) (w : View N)
          → Seen k ws out hs vs id v → splits v → v.pending ≡ 0 → other ≢ id → get_elem? vs other ≡ some w → w.live ≡ true → ((b : ℕ) → times b w.hands ≡ 0) → w.pending ≡ 0
          → holds k ws (map flat hs) (slice_set (slice_set vs id (joined both v w)) other (spent blank))

      -- a join ends
      abbrev pub Ends : (N → N → N) → Type 0
      Ends both = (k : Layout) (ws : List Word) (out : ℕ) (hs : Homes) (vs : List (View N)) (id : ℕ) (v w : View N)
          → Seen k ws out hs vs id (joined both v w) → splits v → v.pending ≡ 0 → holds k ws (map flat hs) (slice_set vs id (landed (joined both v w)))

      -- no view beside one that may split has a balance above 0
      abbrev pub Bounds : Type 0
      Bounds = (k : Layout) (ws : List Word) (out : ℕ) (hs : Homes) (vs : List (View N)) (id : ℕ) (v : View N) (other : ℕ) (w : View N)
          → Seen k ws out hs vs id v → splits v → get_elem? vs other ≡ some w → other ≢ id → w.begun ≤ w.ended

  -- what a caller may learn from the law of a word that it meets in a cell, and of one that it meets in place of the old one
  abbrev pub Sees : Law N → Layout → ℕ → View N → ℕ → (View N → Word → Type 0) → Type 0
  Sees holds k id v cell tells = (ws : List Word) (out : ℕ) (hs : Homes) (vs : List (View N)) (word : Word) → Seen holds k ws out hs vs id v → get_elem? ws cell ≡ some word → tells v word

  abbrev pub Learns : Law N → Layout → ℕ → View N → ℕ → Word → (View N → Word → Type 0) → Type 0
  Learns holds k id v cell old tells = (ws : List Word) (out : ℕ) (hs : Homes) (vs : List (View N)) (word : Word) → Seen holds k ws out hs vs id v → get_elem? ws cell ≡ some word → word ≢ old → tells v word

  -- whatever the board is when the exchange finds the old word, there are notes that the law allows and the caller chooses
  abbrev pub Picks : Law N → Allowing N → (View N → Option Buffer → N → Type 0) → Layout → ℕ → View N → ℕ → Word → Word → Option Buffer → Type 0
  Picks holds allows chooses k id v cell old new given = (ws : List Word) (out : ℕ) (hs : Homes) (vs : List (View N)) (found : Option Buffer)
      → Meets holds k ws out hs vs id v cell old new found → (notes : N) × allows v cell old new given found notes × chooses v found notes
