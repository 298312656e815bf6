-- What an interface text declares, and its first fault.
use Rattle.std.specs.Prelude.{ℕ, ◌≡◌, List, [], ◌∷◌, Result, Ok, Err, if◌then◌else◌}
use Rattle.interface_tokens.specs.Outcome.{Outcome, ◌>>=◌}
use Rattle.interface_text.specs.Interfaces.{DeclaredInterface}
use Rattle.interface_tokens.specs.Tokens.{Tokens, tokens_of}
use Rattle.interface_tokens.specs.Syntax.{is_word, is_sign, name_of}
use Rattle.interface_text.specs.Rules.{beginning, take_all, finish}
use Rattle.interface_text.specs.Faults.{told}
use Rattle.interface_tokens.specs.declared.fault.Stop.TheVariants.{Fault}
use Rattle.interface_text.specs.declared.fault.TextFault.{TextFault}
use Rattle.interface_tokens.specs.declared.place.Place.{Place}
use Rattle.interface_tokens.specs.declared.fault.Cause.{Cause}
use Rattle.interface_tokens.specs.declared.fault.Cause.TheVariants as cause
use Rattle.interface_tokens.specs.declared.token.Word.TheVariants as word
use Rattle.interface_tokens.specs.declared.token.Sign.TheVariants as sign
use Rattle.interface_tokens.specs.declared.token.Spot.{Spot}
use Rattle.interface_tokens.specs.declared.scanner.Ending.{Ending}
use Rattle.interface_tokens.specs.declared.scanner.Ending.TheVariants as ending

-- the fault of a text that ends where there should be a token
abbrev pub cause_of : Ending → Cause
cause_of ending.Text = cause.Expected
cause_of ending.Character = cause.Character
cause_of ending.OpenComment = cause.OpenComment

unfoldable pub first : Tokens → List Spot → Outcome (Spot × List Spot)
first tokens (spot ∷ spots) = Ok (spot, spots)
first tokens [] = Err (tokens.end, cause_of tokens.ending)

abbrev pub at_place : {X : Type 0} → Place → Result X Cause → Outcome X
at_place place (Ok x) = Ok x
at_place place (Err c) = Err (place, c)

-- the name of the interface, and the tokens behind `INTERFACE name ;`
unfoldable pub first_line : Tokens → Outcome (List ℕ × List Spot)
first_line tokens = do
  a ← first tokens tokens.spots
  if is_word a.0.token word.Interface then (do
    b ← first tokens a.1
    name ← at_place b.0.place (name_of b.0.token)
    c ← first tokens b.1
    if is_sign c.0.token sign.Semicolon then Ok (name, c.1) else Err (c.0.place, cause.Expected)) else Err (a.0.place, cause.Expected)

abbrev pub read_tokens : Tokens → Outcome DeclaredInterface
read_tokens tokens = do
  line ← first_line tokens
  r ← take_all (beginning line.0) line.1
  finish r tokens.ending tokens.end

-- what a text declares, or its first fault
unfoldable pub read_text : List ℕ → Outcome DeclaredInterface
read_text text = read_tokens (tokens_of text)

-- the text declares this interface
abbrev pub Declares : List ℕ → DeclaredInterface → Type 0
Declares text interface = read_text text ≡ Ok interface

-- the first fault of the text is of this cause, at this place
abbrev pub FirstFault : List ℕ → Place → Cause → Type 0
FirstFault text place c = read_text text ≡ Err (place, c)

-- a fault as it is told is the first of the text
abbrev pub IsFirstFault : List ℕ → TextFault → Type 0
IsFirstFault text fault = (place : Place) × (c : Cause) × FirstFault text place c × (fault ≡ told (Fault place c))
