-- The grammar of scripts.
use Rattle.std.specs.Prelude.{◌≡◌, ℕ, ◌≤◌, List, [], ◌∷◌, map, filter, length, Some, Bool, true, false, not, ◌==◌, ◌||◌, if◌then◌else◌, IsTrue, MatchBool}
use Rattle.std.specs.List.{slice_split, AllZip, Contains}
use Rattle.std.specs.Fmt.{decimal}
use Rattle.binder.specs.Names.{is_name}
use Rattle.replay_model.specs.Forms.{Place, The, Number, Name, Value, Numeral, Text, Form, forms}
use Rattle.replay_model.specs.declared.limits.TheConstants.{SMALL_BUFFERS, LONG_BUFFERS}
use Rattle.replay_model.specs.declared.event.Event.{Event}
use Rattle.replay_model.specs.declared.event.Event.TheVariants as event

-- small and long are the server's numbers of buffers
pub record Script : Type 0 where
  pub small : ℕ
  pub long : ℕ
  pub events : List Event

abbrev pub is_newline : ℕ → Bool
is_newline b = b == 10

abbrev pub is_blank : ℕ → Bool
is_blank b = (b == 32) || (b == 9)

-- a line without the carriage return, if there is one, that stands before its newline
abbrev pub without_return : List ℕ → List ℕ
without_return [] = []
without_return (b ∷ []) = if b == 13 then [] else b ∷ []
without_return (b ∷ c ∷ more) = b ∷ without_return (c ∷ more)

-- the parts between newlines as lines: only the last stands before no newline
abbrev pub lines_of_parts : List (List ℕ) → List (List ℕ)
lines_of_parts [] = []
lines_of_parts (x ∷ []) = x ∷ []
lines_of_parts (x ∷ y ∷ more) = without_return x ∷ lines_of_parts (y ∷ more)

-- the lines of a text, numbered from 1. The last is what stands behind the last newline: where nothing does, it is blank
abbrev pub lines_of_text : List ℕ → List (List ℕ)
lines_of_text text = lines_of_parts (slice_split is_newline text)

-- the words of a line, which stand between blanks
abbrev pub words_of : List ℕ → List (List ℕ)
words_of line = filter (λ (w : List ℕ). not (length w == 0)) (slice_split is_blank line)

-- a line without words is blank, and one whose first word begins with '#' is a comment; both are skipped
abbrev pub is_skipped : List (List ℕ) → Bool
is_skipped [] = true
is_skipped ([] ∷ more) = false
is_skipped ((b ∷ word) ∷ more) = b == 35

-- the words of each line that isn't skipped
abbrev pub lines_of_words : List ℕ → List (List (List ℕ))
lines_of_words text = filter (λ (ws : List (List ℕ)). not (is_skipped ws)) (map words_of (lines_of_text text))

-- n, from low to high, in decimal digits without a leading zero
pub record IsNumber (w : List ℕ) (low high n : ℕ) : Type 0 where
  pub digits : w ≡ decimal n
  pub at_least : low ≤ n
  pub at_most : n ≤ high

-- what a word says at its place
abbrev pub Says : Place → List ℕ → Value → Type 0
Says (Number low high) w (Numeral n) = IsNumber w low high n
Says Name w (Text t) = (w ≡ t) × IsTrue (is_name w)
Says (The text) w (Text t) = (w ≡ t) × (w ≡ text)
Says _ _ _ = ⊥

abbrev pub AllSay : List Place → List (List ℕ) → List Value → Type 0
AllSay [] [] [] = Unit {0}
AllSay (p ∷ ps) (w ∷ ws) (v ∷ vs) = Says p w v × AllSay ps ws vs
AllSay _ _ _ = ⊥

-- the words of a line spell an event: they are the words of a form that is built, and the event is the form's
pub record Spells (words : List (List ℕ)) (e : Event) : Type 0 where
  pub form : Form
  pub listed : Contains forms form
  pub values : List Value
  pub said : AllSay form.places words values
  pub event : List Value → Event
  pub built : form.event ≡ Some event
  pub gives : e ≡ event values

abbrev pub is_end : Event → Bool
is_end event.End = true
is_end _ = false

-- the last event is the end, and no other is
abbrev pub EndsOnce : List Event → Type 0
EndsOnce [] = ⊥
EndsOnce (e ∷ es) = MatchBool (is_end e) (es ≡ []) (EndsOnce es)

-- the text is a script
pub record IsScript (text : List ℕ) (s : Script) : Type 0 where
  pub spelled : AllZip Spells (lines_of_words text) s.events
  pub ended : EndsOnce s.events
  -- the numbers of buffers, where no line gives others
  pub small_is : s.small ≡ SMALL_BUFFERS
  pub long_is : s.long ≡ LONG_BUFFERS
