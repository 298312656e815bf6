-- What reading gives: a value, or the first fault by its place and its cause.
use Rattle.std.specs.Prelude.{◌≡◌, Result, Ok, Err}
use Rattle.interface_tokens.specs.declared.place.Place.{Place}
use Rattle.interface_tokens.specs.declared.fault.Cause.{Cause}
use Rattle.interface_tokens.specs.declared.fault.Stop.{Stop}
use Rattle.interface_tokens.specs.declared.fault.Stop.TheVariants.{Memory, Fault}

abbrev pub Outcome : Type 0 → Type 0
Outcome X = Result X (Place × Cause)

infixl 10 ◌>>=◌
abbrev pub ◌>>=◌ : {X Y E : Type 0} → Result X E → (X → Result Y E) → Result Y E
(Ok x) >>= f = f x
(Err e) >>= f = Err e

-- this is the first fault, unless memory ran out
abbrev pub Fails : {Y : Type 0} → Stop → Outcome Y → Type 0
Fails Memory read = Unit {0}
Fails (Fault place cause) read = read ≡ Err (place, cause)

-- what a function returned, seen by view, is what reading gives, unless memory ran out
abbrev pub Gives : {X Y : Type 0} → (X → Y) → Result X Stop → Outcome Y → Type 0
Gives view (Ok x) read = read ≡ Ok (view x)
Gives view (Err stop) read = Fails stop read

abbrev pub stopped : (Place × Cause) → Stop
stopped fault = Fault fault.0 fault.1
