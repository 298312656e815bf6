-- The words of a line as they are taken from it, and the first words and call words that there are.
use Rattle.std.specs.Prelude.{◌≡◌, ◌≢◌, ◌<◌, ℕ, List, [], ◌∷◌, length, false, Option, Some, None, MatchOption, Result, Ok, Err, codes, slice_index}
use Rattle.std.specs.Borrow.{Bor}
use Rattle.replay_model.specs.Script.{is_blank, is_skipped, words_of}
use Rattle.replay_model.specs.declared.text_fault.TextFault.{TextFault}
use Rattle.replay_model.specs.declared.text_fault.TextFault.TheVariants as fault
use Rattle.script_text.specs.declared.word.CallWords.{CallWords}
use Rattle.script_text.specs.declared.word.ProcessWords.{ProcessWords}
use Rattle.script_text.specs.declared.word.TickWords.{TickWords}
use Rattle.script_text.specs.declared.verb.Verb.{Verb}
use Rattle.script_text.specs.declared.verb.Verb.TheVariants as verb
use Rattle.script_text.specs.declared.verb.CallVerb.{CallVerb}
use Rattle.script_text.specs.declared.verb.CallVerb.TheVariants as asked

abbrev pub text_of : Verb → List ℕ
text_of verb.Pool = codes "pool"
text_of verb.Second = codes "second"
text_of verb.Call = codes "call"
text_of verb.Bind = codes "bind"
text_of verb.Tick = codes "tick"
text_of verb.Deliver = codes "deliver"
text_of verb.Damage = codes "damage"
text_of verb.Work = codes "work"
text_of verb.Export = codes "export"
text_of verb.Withdraw = codes "withdraw"
text_of verb.Restart = codes "restart"
text_of verb.Skip = codes "skip"
text_of verb.Show = codes "show"
text_of verb.Holders = codes "holders"
text_of verb.Sweep = codes "sweep"
text_of verb.Journal = codes "journal"
text_of verb.End = codes "end"

-- the word that says this, or a word that says nothing
abbrev pub IsVerb : List ℕ → Option Verb → Type 0
IsVerb word verb = MatchOption verb ((v : Verb) → word ≢ text_of v) (λ v. word ≡ text_of v)

-- a line of these words, the first and those behind it, isn't skipped
abbrev pub CountsFrom : List ℕ → List ℕ → List (List ℕ) → Type 0
CountsFrom line first more = (words_of line ≡ first ∷ more) × (is_skipped (first ∷ more) ≡ false)

abbrev pub asked_text_of : CallVerb → List ℕ
asked_text_of asked.Null = codes "null"
asked_text_of asked.Add = codes "add"
asked_text_of asked.Bump = codes "bump"
asked_text_of asked.MaxArg = codes "maxarg"
asked_text_of asked.MaxResult = codes "maxresult"
asked_text_of asked.BigArg = codes "bigarg"
asked_text_of asked.BigResult = codes "bigresult"

abbrev pub BeginsWithNoBlank : List ℕ → Type 0
BeginsWithNoBlank line = 0 < length line → is_blank (slice_index line 0) ≡ false

-- so many words, or the fault Shape
abbrev pub HasNone : List (List ℕ) → Result (Unit {0}) TextFault → Type 0
HasNone words (Ok _) = words ≡ []
HasNone words (Err f) = (f ≡ fault.Shape) × (0 < length words)

abbrev pub HasOne : List (List ℕ) → Result (Bor (List ℕ)) TextFault → Type 0
HasOne words (Ok w) = words ≡ w.now ∷ []
HasOne words (Err f) = (f ≡ fault.Shape) × (length words ≢ 1)

abbrev pub HasTwo : List (List ℕ) → Result (Bor (List ℕ) × Bor (List ℕ)) TextFault → Type 0
HasTwo words (Ok r) = words ≡ r.0.now ∷ r.1.now ∷ []
HasTwo words (Err f) = (f ≡ fault.Shape) × (length words ≢ 2)

-- the words of a process, and one more
abbrev pub HasProcess : List (List ℕ) → Result ProcessWords TextFault → Type 0
HasProcess words (Ok r) = words ≡ r.machine.now ∷ r.process.now ∷ r.word.now ∷ []
HasProcess words (Err f) = (f ≡ fault.Shape) × (length words ≢ 3)

-- the words of a number of ticks, which may be left out
abbrev pub count_words : Option (Bor (List ℕ)) → List (List ℕ)
count_words None = []
count_words (Some w) = w.now ∷ []

abbrev pub HasTicks : List (List ℕ) → Result TickWords TextFault → Type 0
HasTicks words (Ok r) = words ≡ r.machine.now ∷ r.process.now ∷ count_words r.count
HasTicks words (Err f) = (f ≡ fault.Shape) × (length words ≢ 2) × (length words ≢ 3)

abbrev pub HasCall : List (List ℕ) → Result CallWords TextFault → Type 0
HasCall words (Ok r) = words ≡ r.machine.now ∷ r.process.now ∷ r.asked.now ∷ words_of r.rest.now
HasCall words (Err f) = (f ≡ fault.Shape) × (length words < 3)

-- the words of a line that calls with this call word
abbrev pub call_line : CallWords → List ℕ → List (List ℕ)
call_line r asked = codes "call" ∷ r.machine.now ∷ r.process.now ∷ asked ∷ words_of r.rest.now
