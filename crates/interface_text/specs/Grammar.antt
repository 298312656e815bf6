-- The grammar, as productions, and which tokens derive from it. It knows nothing of names' meanings and limits.
use Rattle.std.specs.Prelude.{ℕ, ◌≡◌, List, [], ◌∷◌, ◌++◌, true, Some, Ok, slice_get, map}
use Rattle.interface_tokens.specs.Syntax.{is_word, is_sign, name_of, number_of}
use Rattle.interface_tokens.specs.declared.token.Word.{Word}
use Rattle.interface_tokens.specs.declared.token.Word.TheVariants as word
use Rattle.interface_tokens.specs.declared.token.Sign.{Sign}
use Rattle.interface_tokens.specs.declared.token.Sign.TheVariants as sign
use Rattle.interface_tokens.specs.declared.token.Token.{Token}
use Rattle.interface_tokens.specs.declared.token.Spot.{Spot}

-- what the grammar is made of: words, signs, names and numbers, and the parts that have productions
pub data Symbol : Type 0 where
  the_word : Word → Symbol
  the_sign : Sign → Symbol
  a_name : Symbol
  a_number : Symbol
  declarations : Symbol
  parameters : Symbol
  group : Symbol
  more_groups : Symbol
  way : Symbol
  in_or_out : Symbol
  more_names : Symbol
  answer : Symbol
  raises : Symbol
  a_type : Symbol
  array : Symbol
  field : Symbol
  more_fields : Symbol

-- { declaration } END name "."
abbrev pub behind_first_line : List Symbol
behind_first_line = declarations ∷ the_word word.End ∷ a_name ∷ the_sign sign.FullStop ∷ []

-- INTERFACE name ";" { declaration } END name "."
abbrev pub interface : List Symbol
interface = the_word word.Interface ∷ a_name ∷ the_sign sign.Semicolon ∷ behind_first_line

-- the productions of each part
abbrev pub productions : Symbol → List (List Symbol)
productions declarations =
    []
    ∷ (the_word word.Type ∷ a_name ∷ the_sign sign.Equals ∷ a_type ∷ the_sign sign.Semicolon ∷ declarations ∷ [])
    ∷ (the_word word.Exception ∷ a_name ∷ the_sign sign.Semicolon ∷ declarations ∷ [])
    ∷ (the_word word.Procedure ∷ a_name ∷ the_sign sign.Open ∷ parameters ∷ the_sign sign.Close ∷ answer ∷ raises ∷ the_sign sign.Semicolon ∷ declarations ∷ [])
    ∷ []
productions parameters = [] ∷ (group ∷ more_groups ∷ []) ∷ []
productions more_groups = [] ∷ (the_sign sign.Semicolon ∷ group ∷ more_groups ∷ []) ∷ []
productions group = (way ∷ a_name ∷ more_names ∷ the_sign sign.Colon ∷ a_type ∷ []) ∷ []
productions way = [] ∷ (the_word word.Var ∷ in_or_out ∷ []) ∷ []
productions in_or_out = [] ∷ (the_word word.In ∷ []) ∷ (the_word word.Out ∷ []) ∷ []
productions more_names = [] ∷ (the_sign sign.Comma ∷ a_name ∷ more_names ∷ []) ∷ []
productions answer = [] ∷ (the_sign sign.Colon ∷ a_type ∷ []) ∷ []
productions raises =
    [] ∷ (the_word word.Raises ∷ the_sign sign.OpenBrace ∷ a_name ∷ more_names ∷ the_sign sign.CloseBrace ∷ []) ∷ []
productions a_type =
    (the_word word.Boolean ∷ []) ∷ (the_word word.Byte ∷ []) ∷ (the_word word.Char ∷ []) ∷ (the_word word.Cardinal ∷ [])
    ∷ (the_word word.Integer ∷ []) ∷ (the_word word.Longcard ∷ []) ∷ (a_name ∷ [])
    ∷ (the_sign sign.Open ∷ a_name ∷ more_names ∷ the_sign sign.Close ∷ [])
    ∷ (the_word word.Array ∷ array ∷ [])
    ∷ (the_word word.Record ∷ field ∷ more_fields ∷ the_word word.End ∷ [])
    ∷ []
productions array =
    (a_number ∷ the_word word.Of ∷ a_type ∷ []) ∷ (the_word word.Of ∷ a_type ∷ the_word word.Upto ∷ a_number ∷ []) ∷ []
productions field = (a_name ∷ more_names ∷ the_sign sign.Colon ∷ a_type ∷ []) ∷ []
productions more_fields = [] ∷ (the_sign sign.Semicolon ∷ field ∷ more_fields ∷ []) ∷ []
productions (the_word w) = []
productions (the_sign s) = []
productions a_name = []
productions a_number = []

-- these symbols derive these tokens
pub data Derives : List Symbol → List Token → Type 0 where
  nothing : Derives [] []
  by_word : (w : Word) (t : Token) (symbols : List Symbol) (tokens : List Token)
      → is_word t w ≡ true → Derives symbols tokens → Derives (the_word w ∷ symbols) (t ∷ tokens)
  by_sign : (s : Sign) (t : Token) (symbols : List Symbol) (tokens : List Token)
      → is_sign t s ≡ true → Derives symbols tokens → Derives (the_sign s ∷ symbols) (t ∷ tokens)
  by_name : (n : List ℕ) (t : Token) (symbols : List Symbol) (tokens : List Token)
      → name_of t ≡ Ok n → Derives symbols tokens → Derives (a_name ∷ symbols) (t ∷ tokens)
  by_number : (n : ℕ) (t : Token) (symbols : List Symbol) (tokens : List Token)
      → number_of t ≡ Ok n → Derives symbols tokens → Derives (a_number ∷ symbols) (t ∷ tokens)
  by_production : (s : Symbol) (i : ℕ) (production symbols : List Symbol) (tokens : List Token)
      → slice_get (productions s) i ≡ Some production → Derives (production ++ symbols) tokens → Derives (s ∷ symbols) tokens

-- the tokens without their places
abbrev pub tokens_in : List Spot → List Token
tokens_in spots = map (λ spot. spot.token) spots
