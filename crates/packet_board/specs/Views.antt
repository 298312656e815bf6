-- The view of a seat, and what each step makes of it.
use Rattle.std.specs.Prelude.{ℕ, ◌+◌, ◌==◌, Bool, true, false, List, [], ◌∷◌, ◌++◌, replicate}
use Rattle.packet_board.specs.declared.word.Word.{Word}
use Rattle.packet_board.specs.declared.layout.Layout.{Layout}
use Rattle.packet_board.specs.declared.view.Met.{Met}
use Rattle.packet_board.specs.declared.view.View.{View}
use Rattle.packet_board.specs.Words.{weigh, times}
use Rattle.packet_board.specs.Hands.{gives_of, takes_of, lose, gain}

abbrev pub no_layout : Layout
no_layout = record { small = 0; long = 0; rows = replicate 5 0 }

abbrev pub meeting : ℕ → Word → ℕ → Met
meeting c w n = record { cell = c; word = w; step = n }

module _ {N : Type 0} where
  -- a load, and an exchange that finds another word
  abbrev pub looked : View N → ℕ → Word → View N
  looked v cell w = record v { steps = v.steps + 1; met = meeting cell w (v.steps + 1) ∷ v.met; past = meeting cell w (v.steps + 1) ∷ v.past }

  -- an exchange that puts the new word in place of the old one
  abbrev pub exchanged : View N → ℕ → Word → Word → N → View N
  exchanged v cell old new notes = record v {
    hands = gain (takes_of old.buffer new.buffer) (lose (gives_of old.buffer new.buffer) v.hands);
    steps = v.steps + 1;
    met = meeting cell new (v.steps + 1) ∷ v.met;
    past = meeting cell new (v.steps + 1) ∷ v.past;
    notes = notes;
  }

  -- the two steps of a split: one more seat is out, and then there is the new seat
  abbrev pub begun : View N → View N
  begun v = record v { steps = v.steps + 1; pending = 1; begun = v.begun + 1; alone = false }

  abbrev pub settled : View N → View N
  settled v = record v { pending = 0 }

  abbrev pub blank_view : Bool → Layout → N → View N
  blank_view live k notes = record { live = live; layout = k; hands = []; steps = 0; met = []; past = []; notes = notes; pending = 0; begun = 0; ended = 0; alone = false }

  abbrev pub newcomer : N → View N → View N
  newcomer blank v = blank_view true v.layout blank

  abbrev pub opening_view : Layout → N → View N
  opening_view k first = blank_view true k first

  -- the two steps of a join: the other seat is taken in, and then one seat less is out
  abbrev pub joined : (N → N → N) → View N → View N → View N
  joined both v w = record v { steps = v.steps + 1; met = []; past = v.past ++ w.past; notes = both v.notes w.notes; pending = 1; begun = v.begun + w.begun; ended = v.ended + w.ended; alone = false }

  abbrev pub spent : N → View N
  spent blank = blank_view false no_layout blank

  abbrev pub landed : View N → View N
  landed v = record v { steps = v.steps + 1; pending = 0; ended = v.ended + 1 }

  -- a load of the number of seats out
  abbrev pub told_out : ℕ → View N → View N
  told_out out v = record v { steps = v.steps + 1; alone = out == 0 }

  abbrev pub in_hands : ℕ → List (View N) → ℕ
  in_hands b vs = weigh (λ v. times b v.hands) vs
