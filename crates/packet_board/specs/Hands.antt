-- What a seat has in its hands: the numbers, and for each of them what it keeps of that number's slot.
use Rattle.std.specs.Prelude.{◌≡◌, ℕ, ◌<◌, ◌==◌, if◌then◌else◌, List, [], ◌∷◌, map, slice_set, Option, Some, None}
use mathlib.Core.Option.{none, some}
use mathlib.Core.Option as maybe
use lib.ListN.{get_elem?}
use Rattle.packet_board.specs.declared.layout.Layout.{Layout}
use Rattle.packet_board.specs.declared.buffer.Buffer.{Buffer}
use Rattle.packet_board.specs.Words.{buffers_of, IsBuffer}

-- the number that an exchange of a word with the buffer on the left for one with that on the right puts out of the hands, and the one that it puts into them
abbrev pub gives_of : Option ℕ → Option ℕ → Option ℕ
gives_of None None = None
gives_of None (Some n) = Some n
gives_of (Some o) None = None
gives_of (Some o) (Some n) = if o == n then None else Some n

abbrev pub takes_of : Option ℕ → Option ℕ → Option ℕ
takes_of None None = None
takes_of None (Some n) = None
takes_of (Some o) None = Some o
takes_of (Some o) (Some n) = if o == n then None else Some o

abbrev pub without : ℕ → List ℕ → List ℕ
without n [] = []
without n (x ∷ xs) = if x == n then xs else x ∷ without n xs

abbrev pub lose : Option ℕ → List ℕ → List ℕ
lose None ns = ns
lose (Some n) ns = without n ns

abbrev pub gain : Option ℕ → List ℕ → List ℕ
gain None ns = ns
gain (Some n) ns = n ∷ ns

-- a list whose item at that number, if there is one, is another
abbrev pub placed : {A : Type 0} → Option ℕ → A → List A → List A
placed None a xs = xs
placed (Some n) a xs = slice_set xs n a

abbrev pub flat : {A : Type 0} → maybe.Option (Option A) → Option A
flat none = None
flat (some y) = y

-- Of each number: nothing if it is not in the hands; and else what its slot has, which is a buffer if it is stowed
abbrev pub Held : Type 0
Held = ℕ → maybe.Option (Option Buffer)

abbrev pub Slots : Type 0
Slots = List (ℕ × Option Buffer)

abbrev pub lookup : Slots → Held
lookup [] n = none
lookup (x ∷ xs) n = if x.0 == n then some x.1 else lookup xs n

abbrev pub removed : ℕ → Slots → Slots
removed n [] = []
removed n (x ∷ xs) = if x.0 == n then xs else x ∷ removed n xs

abbrev pub drop_out : Option ℕ → Slots → Slots
drop_out None c = c
drop_out (Some n) c = removed n c

abbrev pub take_in : Option ℕ → Option Buffer → Slots → Slots
take_in None y c = c
take_in (Some o) y c = (o, y) ∷ c

abbrev pub keys : Slots → List ℕ
keys c = map (λ x. x.0) c

-- the hands with other content at one number
abbrev pub updated : ℕ → maybe.Option (Option Buffer) → Held → Held
updated n y h = λ m. if n == m then y else h m

abbrev pub given_away : Option ℕ → Held → Held
given_away None h = h
given_away (Some n) h = updated n none h

abbrev pub taken_in : Option ℕ → Option Buffer → Held → Held
taken_in None y h = h
taken_in (Some o) y h = updated o (some y) h

abbrev pub nothing : Held
nothing = λ n. none

abbrev pub HoldsNothing : Held → Type 0
HoldsNothing h = h ≡ nothing

-- one number is in the hands, and its buffer is in its slot
abbrev pub HoldsOne : ℕ → Held → Type 0
HoldsOne n h = (y : Buffer) × (h ≡ updated n (some (Some y)) nothing)

-- the number is in the hands and its buffer is in its slot; it is in the hands and the buffer is out of its slot
abbrev pub IsStowed : Held → ℕ → Type 0
IsStowed h n = (y : Buffer) × (h n ≡ some (Some y))

abbrev pub IsUnstowed : Held → ℕ → Type 0
IsUnstowed h n = h n ≡ some None

-- what an exchange gives away is in the hands and stowed
abbrev pub CanGive : Option ℕ → Held → Type 0
CanGive None h = Unit {0}
CanGive (Some n) h = IsStowed h n

abbrev pub given_by : Option ℕ → Held → Option Buffer
given_by None h = None
given_by (Some n) h = flat (h n)

-- what an exchange may find behind the number that it takes
abbrev pub Found : Layout → Option ℕ → Option Buffer → Type 0
Found k None y = y ≡ None
Found k (Some o) y = (b : Buffer) × (y ≡ Some b) × (o < buffers_of k) × IsBuffer k o b

-- each slot has its buffer
abbrev pub AreThere : List (Option Buffer) → Type 0
AreThere xs = (n : ℕ) (x : Option Buffer) → get_elem? xs n ≡ some x → (y : Buffer) × (x ≡ Some y)
