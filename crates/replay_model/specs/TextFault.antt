-- The first fault of a text that is no script: the lines are looked at in their order, and each by an ordered table
-- of tests, then word by word.
use Rattle.std.specs.Prelude.{ℕ, ◌+◌, ◌-◌, List, [], ◌∷◌, length, filter, Bool, true, false, not, ◌&&◌, ◌||◌, ◌==◌, nat_le, nat_lt, if◌then◌else◌, Option, Some, None, codes, slice_index}
use Rattle.std.specs.Option.{option_map, option_or, is_some}
use Rattle.std.specs.List.{list_all, count_by}
use Rattle.std.specs.Char.{is_ascii_digit}
use Rattle.std.specs.Str.{bytes_eq}
use Rattle.std.specs.Str.Parse.{digits_value}
use Rattle.binder.specs.Names.{is_name}
use Rattle.replay_model.specs.Forms.{Place, The, Number, Name, Value, Numeral, Text, Form, forms}
use Rattle.replay_model.specs.Script.{is_blank, is_newline, is_skipped, words_of, lines_of_text, is_end}
use Rattle.replay_model.specs.FaultNumber.{number_of}
use Rattle.replay_model.specs.declared.event.Event.{Event}
use Rattle.replay_model.specs.declared.text_fault.TextFault.{TextFault}
use Rattle.replay_model.specs.declared.text_fault.TextFault.TheVariants as fault

-- a row for each test: the fault of what doesn't pass it
abbrev pub Checks : Type 0
Checks = List (TextFault × Bool)

-- the fault of the first row whose test fails
abbrev pub first_of : Checks → Option TextFault
first_of [] = None
first_of ((fault, passes) ∷ rows) = if passes then first_of rows else Some fault

-- one byte, or more that don't begin with a zero
abbrev pub begins_plainly : List ℕ → Bool
begins_plainly w = (length w == 1) || nat_lt 48 (slice_index w 0)

-- decimal digits without a leading zero, unless it is the only digit
abbrev pub is_numeral : List ℕ → Bool
is_numeral w = list_all is_ascii_digit w && begins_plainly w

-- the number that decimal digits write
abbrev pub value : List ℕ → ℕ
value w = digits_value 10 w

abbrev pub number_checks : (low high : ℕ) → List ℕ → Checks
number_checks low high w =
    (fault.Number, is_numeral w)
    ∷ (fault.Range, nat_le low (value w) && nat_le (value w) high)
    ∷ []

unfoldable pub number_fault : (low high : ℕ) → List ℕ → Option TextFault
number_fault low high w = first_of (number_checks low high w)

unfoldable pub name_fault : List ℕ → Option TextFault
name_fault w = first_of ((fault.Name, is_name w) ∷ [])

abbrev pub word_fault : Place → List ℕ → Option TextFault
word_fault (The text) w = None
word_fault (Number low high) w = number_fault low high w
word_fault Name w = name_fault w

-- the first fault of the words, from the left
abbrev pub words_fault : List Place → List (List ℕ) → Option TextFault
words_fault [] words = None
words_fault (p ∷ ps) [] = None
words_fault (p ∷ ps) (w ∷ ws) = option_or (word_fault p w) (words_fault ps ws)

-- a line without further words, or whose next word is this one
abbrev pub may_begin : List ℕ → List (List ℕ) → Bool
may_begin text [] = true
may_begin text (w ∷ ws) = bytes_eq text w

abbrev pub behind_first : List (List ℕ) → List (List ℕ)
behind_first [] = []
behind_first (w ∷ ws) = ws

-- the words agree with the form in its fixed words, as far as the line goes
abbrev pub agrees : List Place → List (List ℕ) → Bool
agrees [] words = true
agrees (The text ∷ places) words = may_begin text words && agrees places (behind_first words)
agrees (Number low high ∷ places) words = agrees places (behind_first words)
agrees (Name ∷ places) words = agrees places (behind_first words)

-- the words agree with a form that is built; and there are as many of them
abbrev pub is_playable : List (List ℕ) → Form → Bool
is_playable words f = is_some f.event && agrees f.places words

abbrev pub is_fitting : List (List ℕ) → Form → Bool
is_fitting words f = is_playable words f && (length f.places == length words)

-- the forms with which the words agree; those of them that are built; those of these that have as many words
abbrev pub agreeing : List (List ℕ) → List Form
agreeing words = filter (λ f. agrees f.places words) forms

abbrev pub playable : List (List ℕ) → List Form
playable words = filter (is_playable words) forms

abbrev pub fitting : List (List ℕ) → List Form
fitting words = filter (is_fitting words) forms

abbrev pub some : List Form → Bool
some [] = false
some (f ∷ fs) = true

-- the values that the words have at the places of a form
abbrev pub value_of : Place → List ℕ → Value
value_of (The text) w = Text w
value_of (Number low high) w = Numeral (value w)
value_of Name w = Text w

abbrev pub values_of : List Place → List (List ℕ) → List Value
values_of [] words = []
values_of (p ∷ ps) [] = []
values_of (p ∷ ps) (w ∷ ws) = value_of p w ∷ values_of ps ws

abbrev pub event_by : List Form → List (List ℕ) → Option Event
event_by [] words = None
event_by (f ∷ more) words = option_map (λ g. g (values_of f.places words)) f.event

-- the event of a line that has no fault
abbrev pub event_of : List (List ℕ) → Option Event
event_of words = event_by (fitting words) words

abbrev pub fault_by : List Form → List (List ℕ) → Option TextFault
fault_by [] words = None
fault_by (f ∷ more) words = words_fault f.places words

-- what the lines above a line say: whether one of them counts, and whether one is the end
pub record Above : Type 0 where
  pub begun : Bool
  pub ended : Bool

abbrev pub nothing_above : Above
nothing_above = record { begun = false; ended = false }

-- blanks and printable ASCII
abbrev pub is_byte_of_line : ℕ → Bool
is_byte_of_line b = is_blank b || (nat_le 33 b && nat_le b 126)

abbrev pub is_pool : List (List ℕ) → Bool
is_pool [] = false
is_pool (w ∷ ws) = bytes_eq (codes "pool") w

-- the tests of a line's form, by its words
abbrev pub form_checks : (begun : Bool) → List (List ℕ) → Checks
form_checks begun words =
    (fault.Word, some (agreeing words))
    ∷ (fault.NotYet, some (playable words))
    ∷ (fault.Late, not (is_pool words && begun))
    ∷ (fault.Shape, some (fitting words))
    ∷ []

-- the tests of a line as a whole: its bytes, its place behind the end, and then its form
abbrev pub line_checks : Above → List ℕ → List (List ℕ) → Checks
line_checks above line words =
    (fault.Byte, list_all is_byte_of_line line)
    ∷ (fault.Late, not above.ended)
    ∷ form_checks above.begun words

-- the first fault of a line of these words
abbrev pub fault_of_words : Above → List ℕ → List (List ℕ) → Option TextFault
fault_of_words above line words =
    option_or (first_of (line_checks above line words))
    (fault_by (fitting words) words)

-- a line that is skipped has no fault, and isn't counted
abbrev pub fault_of_line : Above → List ℕ → Option TextFault
fault_of_line above line = if is_skipped (words_of line) then None else fault_of_words above line (words_of line)

abbrev pub ends : Option Event → Bool
ends None = false
ends (Some e) = is_end e

abbrev pub with_words : Above → List (List ℕ) → Above
with_words above words = record {
  begun = true;
  ended = ends (event_of words) || above.ended;
}

-- what the lines above the next line say
abbrev pub below : Above → List ℕ → Above
below above line = if is_skipped (words_of line) then above else with_words above (words_of line)

-- a fault and the number of its line
pub record FaultAt : Type 0 where
  pub line : ℕ
  pub number : ℕ

abbrev pub fault_at : ℕ → TextFault → FaultAt
fault_at line fault = record { line = line; number = number_of fault }

-- the first fault of the lines behind so many lines. A text without `end` has its fault at its last line
abbrev pub first_fault_behind : ℕ → Above → List (List ℕ) → Option FaultAt
first_fault_behind count above [] = if above.ended then None else Some (fault_at count fault.NoEnd)
first_fault_behind count above (line ∷ more) =
    option_or (option_map (fault_at (count + 1)) (fault_of_line above line))
    (first_fault_behind (count + 1) (below above line) more)

-- the first fault of a text; one without a fault is a script
abbrev pub first_fault : List ℕ → Option FaultAt
first_fault text = first_fault_behind 0 nothing_above (lines_of_text text)

-- no byte stands behind the last newline
abbrev pub ends_with_newline : List ℕ → Bool
ends_with_newline text = (length text == 0) || (slice_index text (length text - 1) == 10)

-- how many lines a text has: each ends with a newline, which the last may lack
abbrev pub line_count : List ℕ → ℕ
line_count text = count_by is_newline text + (if ends_with_newline text then 0 else 1)
