-- What the words of a line, a line and a text are read as.
use Rattle.std.specs.Prelude.{◌≡◌, ℕ, List, Bool, true, false, Option, Some, None, Result, Ok, Err}
use Rattle.std.specs.Option.{option_or}
use Rattle.std.specs.List.{filter_map, list_all}
use Rattle.replay_model.specs.Script.{Script, is_skipped, words_of, lines_of_words}
use Rattle.replay_model.specs.TextFault.{Above, event_of, fault_by, fitting, first_of, form_checks, is_byte_of_line, line_checks, name_fault, number_fault, value, first_fault}
use Rattle.replay_model.specs.declared.event.Event.{Event}
use Rattle.replay_model.specs.declared.text_fault.TextFault.{TextFault}
use Rattle.script_text.specs.declared.fault.ScriptFault.{ScriptFault}
use Rattle.script_text.specs.declared.script.Script.{Script as Parsed}

-- the script that a value of the program stands for
abbrev pub script_of : Parsed → Script
script_of s = record { small = s.small; long = s.long; events = s.events }

-- the number that a word spells, or why it spells none in this range
abbrev pub ReadsNumber : (low high : ℕ) → List ℕ → Result ℕ TextFault → Type 0
ReadsNumber low high word (Ok n) = (number_fault low high word ≡ None) × (n ≡ value word)
ReadsNumber low high word (Err f) = number_fault low high word ≡ Some f

-- the name that a word is, or why it is none
abbrev pub ReadsName : List ℕ → Result (List ℕ) TextFault → Type 0
ReadsName word (Ok name) = (name_fault word ≡ None) × (name ≡ word)
ReadsName word (Err f) = name_fault word ≡ Some f

abbrev pub fault_of_form : (begun : Bool) → List (List ℕ) → Option TextFault
fault_of_form begun words = option_or (first_of (form_checks begun words)) (fault_by (fitting words) words)

-- the event that the words of a line spell, or their first fault
abbrev pub ReadsWords : (begun : Bool) → List (List ℕ) → Result Event TextFault → Type 0
ReadsWords begun words (Ok e) = (fault_of_form begun words ≡ None) × (event_of words ≡ Some e)
ReadsWords begun words (Err f) = fault_of_form begun words ≡ Some f

-- the events of a text without faults
abbrev pub events_of : List (List (List ℕ)) → List Event
events_of lines = filter_map event_of lines

abbrev pub fault_of_whole : Above → List ℕ → Option TextFault
fault_of_whole above line =
    option_or (first_of (line_checks above line (words_of line))) (fault_by (fitting (words_of line)) (words_of line))

-- the event that a line spells by its words, nothing where it is skipped, or its first fault, up to what the lines
-- above bring
abbrev pub ReadsLine : Above → List ℕ → Result (Option Event) TextFault → Type 0
ReadsLine above line (Ok None) = is_skipped (words_of line) ≡ true
ReadsLine above line (Ok (Some e)) =
    (is_skipped (words_of line) ≡ false)
    × (fault_of_whole above line ≡ None) × (event_of (words_of line) ≡ Some e)
ReadsLine above line (Err f) = (is_skipped (words_of line) ≡ false) × (fault_of_whole above line ≡ Some f)

-- a line of bytes that it may have spells this event, if it isn't behind the end
abbrev pub SpellsOpenly : List ℕ → Event → Type 0
SpellsOpenly line e =
    (above : Above) → list_all is_byte_of_line line ≡ true → above.ended ≡ false → ReadsLine above line (Ok (Some e))

-- a text without faults, and the events of its lines
pub record ReadsText (text : List ℕ) (events : List Event) : Type 0 where
  pub no_fault : first_fault text ≡ None
  pub events_are : events ≡ events_of (lines_of_words text)

-- the first fault of the text
abbrev pub IsRefusal : List ℕ → ScriptFault → Type 0
IsRefusal text e = first_fault text ≡ Some (record { line = e.line; number = e.number })
