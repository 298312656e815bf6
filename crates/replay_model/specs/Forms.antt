-- The forms of a script's lines, as one table: a row for each form, with what each word of its lines must be. Behind
-- it, what numbers and names the events of these forms have.
use Rattle.std.specs.Prelude.{ℕ, ◌≤◌, List, [], ◌∷◌, ◌++◌, Option, Some, None, codes, IsTrue}
use Rattle.std.specs.List.{slice_index_or}
use Rattle.binder.specs.Names.{is_name}
use Rattle.replay_model.specs.declared.limits.TheConstants.{SERVER_MACHINE, FIRST_CLIENT, LAST_CLIENT, LAST_PROCESS, LAST_WORKER, LAST_BIT, LARGEST_COUNT, LARGEST_TEXT, LARGEST_NUMBER}
use Rattle.replay_model.specs.declared.event.CallWord.{CallWord}
use Rattle.replay_model.specs.declared.event.CallWord.TheVariants as word
use Rattle.replay_model.specs.declared.event.Event.{Event}
use Rattle.replay_model.specs.declared.event.Event.TheVariants as event

-- what the word at one place of a line must be: this very word, a number from low to high, or a name
pub data Place : Type 0 where
  The : (text : List ℕ) → Place
  Number : (low high : ℕ) → Place
  Name : Place

-- what the word at a place says
pub data Value : Type 0 where
  Numeral : (n : ℕ) → Value
  Text : (word : List ℕ) → Value

-- a form of lines: what each word must be, and the event that the words say, where the form is built
pub record Form : Type 0 where
  pub places : List Place
  pub event : Option (List Value → Event)

abbrev pub built : List Place → (List Value → Event) → Form
built places event = record { places = places; event = Some event }

abbrev pub not_yet : List Place → Form
not_yet places = record { places = places; event = None }

-- the number that the word at this place says; places are numbered from 0
abbrev pub number_said : Value → ℕ
number_said (Numeral n) = n
number_said (Text word) = 0

abbrev pub number_at : ℕ → List Value → ℕ
number_at place values = number_said (slice_index_or values place (Numeral 0))

-- the name that it says
abbrev pub name_said : Value → List ℕ
name_said (Numeral n) = []
name_said (Text word) = word

abbrev pub name_at : ℕ → List Value → List ℕ
name_at place values = name_said (slice_index_or values place (Numeral 0))

-- the kinds of numbers
abbrev pub client : Place
client = Number FIRST_CLIENT LAST_CLIENT

abbrev pub machine : Place
machine = Number SERVER_MACHINE LAST_CLIENT

abbrev pub process : Place
process = Number 1 LAST_PROCESS

abbrev pub worker : Place
worker = Number 1 LAST_WORKER

abbrev pub packet : Place
packet = Number 1 LARGEST_NUMBER

abbrev pub bit : Place
bit = Number 0 LAST_BIT

abbrev pub count : Place
count = Number 1 LARGEST_COUNT

abbrev pub time : Place
time = Number 1 LARGEST_NUMBER

abbrev pub any_number : Place
any_number = Number 0 LARGEST_NUMBER

-- the calls of a process: each begins with 'call M P' and goes on with a call word
abbrev pub call : List ℕ → List Place → List Place
call asked places = The (codes "call") ∷ client ∷ process ∷ The asked ∷ places

abbrev pub call_forms : List Form
call_forms =
    built (call (codes "null") []) (λ v. event.Call (number_at 1 v) (number_at 2 v) word.Null)
    ∷ built (call (codes "add") (any_number ∷ any_number ∷ []))
    (λ v. event.Call (number_at 1 v) (number_at 2 v) (word.Add (number_at 4 v) (number_at 5 v)))
    ∷ built (call (codes "bump") (any_number ∷ [])) (λ v. event.Call (number_at 1 v) (number_at 2 v) (word.Bump (number_at 4 v)))
    ∷ built (call (codes "maxarg") (Number 0 LARGEST_TEXT ∷ []))
    (λ v. event.Call (number_at 1 v) (number_at 2 v) (word.MaxArg (number_at 4 v)))
    ∷ built (call (codes "maxresult") (any_number ∷ []))
    (λ v. event.Call (number_at 1 v) (number_at 2 v) (word.MaxResult (number_at 4 v)))
    ∷ not_yet (call (codes "bigarg") (Number 0 368636 ∷ []))
    ∷ not_yet (call (codes "bigresult") (any_number ∷ []))
    ∷ []

abbrev pub other_forms : List Form
other_forms =
    not_yet (The (codes "pool") ∷ Number 2 3000 ∷ Number 0 1000 ∷ [])
    ∷ built (The (codes "second") ∷ time ∷ []) (λ v. event.Second (number_at 1 v))
    ∷ built (The (codes "bind") ∷ client ∷ process ∷ Name ∷ []) (λ v. event.Bind (number_at 1 v) (number_at 2 v) (name_at 3 v))
    ∷ built (The (codes "tick") ∷ client ∷ process ∷ []) (λ v. event.Tick (number_at 1 v) (number_at 2 v) 1)
    ∷ built (The (codes "tick") ∷ client ∷ process ∷ count ∷ [])
    (λ v. event.Tick (number_at 1 v) (number_at 2 v) (number_at 3 v))
    ∷ built (The (codes "deliver") ∷ packet ∷ []) (λ v. event.Deliver (number_at 1 v))
    ∷ built (The (codes "damage") ∷ packet ∷ bit ∷ []) (λ v. event.Damage (number_at 1 v) (number_at 2 v))
    ∷ built (The (codes "work") ∷ worker ∷ []) (λ v. event.Work (number_at 1 v))
    ∷ built (The (codes "export") ∷ Name ∷ []) (λ v. event.Export (name_at 1 v))
    ∷ built (The (codes "withdraw") ∷ Name ∷ []) (λ v. event.Withdraw (name_at 1 v))
    ∷ built (The (codes "restart") ∷ machine ∷ []) (λ v. event.Restart (number_at 1 v))
    ∷ built (The (codes "skip") ∷ client ∷ process ∷ time ∷ [])
    (λ v. event.Skip (number_at 1 v) (number_at 2 v) (number_at 3 v))
    ∷ built (The (codes "show") ∷ packet ∷ []) (λ v. event.Show (number_at 1 v))
    ∷ not_yet (The (codes "holders") ∷ machine ∷ [])
    ∷ not_yet (The (codes "sweep") ∷ [])
    ∷ built (The (codes "journal") ∷ []) (λ v. event.Journal)
    ∷ built (The (codes "end") ∷ []) (λ v. event.End)
    ∷ []

abbrev pub forms : List Form
forms = call_forms ++ other_forms

-- the largest number of 32 bits
abbrev pub largest_number : ℕ
largest_number = LARGEST_NUMBER

-- the numbers that a call asks with are those that a line can have
abbrev pub IsAskable : CallWord → Type 0
IsAskable word.Null = Unit {0}
IsAskable (word.Add a b) = (a ≤ largest_number) × (b ≤ largest_number)
IsAskable (word.Bump n) = n ≤ largest_number
IsAskable (word.MaxArg n) = n ≤ LARGEST_TEXT
IsAskable (word.MaxResult n) = n ≤ largest_number

-- a process of a client
abbrev pub IsProcess : (machine process : ℕ) → Type 0
IsProcess machine process = (FIRST_CLIENT ≤ machine) × (machine ≤ LAST_CLIENT) × (1 ≤ process) × (process ≤ LAST_PROCESS)

-- the numbers and names of an event are those that a line can have
abbrev pub InRange : Event → Type 0
InRange (event.Second second) = (1 ≤ second) × (second ≤ largest_number)
InRange (event.Call machine process asked) = IsProcess machine process × IsAskable asked
InRange (event.Bind machine process name) = IsProcess machine process × IsTrue (is_name name)
InRange (event.Tick machine process count) = IsProcess machine process × (1 ≤ count) × (count ≤ LARGEST_COUNT)
InRange (event.Export name) = IsTrue (is_name name)
InRange (event.Withdraw name) = IsTrue (is_name name)
InRange (event.Restart machine) = (SERVER_MACHINE ≤ machine) × (machine ≤ LAST_CLIENT)
InRange (event.Skip machine process count) = IsProcess machine process × (1 ≤ count) × (count ≤ largest_number)
InRange (event.Deliver packet) = (1 ≤ packet) × (packet ≤ largest_number)
InRange (event.Damage packet bit) = (1 ≤ packet) × (packet ≤ largest_number) × (bit ≤ LAST_BIT)
InRange (event.Show packet) = (1 ≤ packet) × (packet ≤ largest_number)
InRange (event.Work number) = (1 ≤ number) × (number ≤ LAST_WORKER)
InRange event.Journal = Unit {0}
InRange event.End = Unit {0}
