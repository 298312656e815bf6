-- The tokens of a text. Bytes are read from the front, each by one row of the table below; a token is as long as it can be.
use Rattle.std.specs.Prelude.{ℕ, ◌+◌, ◌*◌, ◌-◌, ◌==◌, ◌||◌, Bool, min, List, [], ◌∷◌, ◌++◌, get_or, filter, find, Option, Some, None, codes, if◌then◌else◌}
use Rattle.std.specs.Char.{is_ascii_alphabetic, is_ascii_alphanumeric, is_ascii_digit}
use Rattle.interface_tokens.specs.Names.{is_name, is_same}
use Rattle.interface_tokens.specs.declared.place.Place.{Place}
use Rattle.interface_tokens.specs.declared.token.Word.{Word}
use Rattle.interface_tokens.specs.declared.token.Word.TheVariants as word
use Rattle.interface_tokens.specs.declared.token.Sign.{Sign}
use Rattle.interface_tokens.specs.declared.token.Sign.TheVariants as sign
use Rattle.interface_tokens.specs.declared.token.Token.{Token}
use Rattle.interface_tokens.specs.declared.token.Token.TheVariants.{Word as word_token, Sign as sign_token, Name, LongName, Number}
use Rattle.interface_tokens.specs.declared.token.Spot.{Spot}
use Rattle.interface_tokens.specs.declared.scanner.Mode.{Mode}
use Rattle.interface_tokens.specs.declared.scanner.Mode.TheVariants as mode
use Rattle.interface_tokens.specs.declared.scanner.Ending.{Ending}
use Rattle.interface_tokens.specs.declared.scanner.Ending.TheVariants as ending

-- the reserved words
abbrev pub spelling_of : Word → List ℕ
spelling_of word.Interface = codes "INTERFACE"
spelling_of word.End = codes "END"
spelling_of word.Type = codes "TYPE"
spelling_of word.Exception = codes "EXCEPTION"
spelling_of word.Procedure = codes "PROCEDURE"
spelling_of word.Var = codes "VAR"
spelling_of word.In = codes "IN"
spelling_of word.Out = codes "OUT"
spelling_of word.Raises = codes "RAISES"
spelling_of word.Boolean = codes "BOOLEAN"
spelling_of word.Byte = codes "BYTE"
spelling_of word.Char = codes "CHAR"
spelling_of word.Cardinal = codes "CARDINAL"
spelling_of word.Integer = codes "INTEGER"
spelling_of word.Longcard = codes "LONGCARD"
spelling_of word.Array = codes "ARRAY"
spelling_of word.Of = codes "OF"
spelling_of word.Upto = codes "UPTO"
spelling_of word.Record = codes "RECORD"

abbrev pub words : List Word
words = word.Interface ∷ word.End ∷ word.Type ∷ word.Exception ∷ word.Procedure ∷ word.Var ∷ word.In ∷ word.Out ∷ word.Raises
    ∷ word.Boolean ∷ word.Byte ∷ word.Char ∷ word.Cardinal ∷ word.Integer ∷ word.Longcard ∷ word.Array ∷ word.Of ∷ word.Upto ∷ word.Record ∷ []

-- the reserved words that begin with a byte
abbrev pub words_from : ℕ → List Word
words_from first = filter (λ w. get_or (spelling_of w) 0 0 == first) words

-- the first of some words that some bytes spell
abbrev pub first_spelled : List ℕ → List Word → Option Word
first_spelled bytes = find (λ w. is_same bytes (spelling_of w))

-- the word that some bytes are
unfoldable pub word_of : List ℕ → Option Word
word_of bytes = first_spelled bytes words

abbrev pub code_of : Sign → ℕ
code_of sign.Semicolon = 59
code_of sign.Colon = 58
code_of sign.Comma = 44
code_of sign.Open = 40
code_of sign.Close = 41
code_of sign.OpenBrace = 123
code_of sign.CloseBrace = 125
code_of sign.Equals = 61
code_of sign.FullStop = 46

abbrev pub signs : List Sign
signs = sign.Semicolon ∷ sign.Colon ∷ sign.Comma ∷ sign.Open ∷ sign.Close ∷ sign.OpenBrace ∷ sign.CloseBrace ∷ sign.Equals ∷ sign.FullStop ∷ []

-- the sign that a byte is
unfoldable pub sign_of : ℕ → Option Sign
sign_of byte = find (λ s. byte == code_of s) signs

abbrev pub word_or_name : List ℕ → Option Word → Token
word_or_name bytes (Some w) = word_token w
word_or_name bytes None = if is_name bytes then Name bytes else LongName

-- the token that letters and digits are
unfoldable pub letters_of : List ℕ → Token
letters_of bytes = word_or_name bytes (word_of bytes)

-- the greatest number that an array may have
abbrev pub max_length : ℕ
max_length = 92160

-- a number with one more digit behind it; all that are too large are one
abbrev pub with_digit : ℕ → ℕ → ℕ
with_digit number digit = min (number * 10 + (digit - 48)) (max_length + 1)

-- a space, a tab, a carriage return or a newline
abbrev pub is_blank : ℕ → Bool
is_blank byte = byte == 32 || (byte == 9 || (byte == 13 || byte == 10))

-- the place behind a byte
abbrev pub behind : Place → ℕ → Place
behind place byte = if byte == 10 then record { line = place.line + 1; column = 1 } else record { line = place.line; column = place.column + 1 }

-- how far a text has been read: the place of the next byte, the mode, the letters of the name or word under way, and the tokens so far
pub record Scan : Type 0 where
  pub here : Place
  pub mode : Mode
  pub letters : List ℕ
  pub spots : List Spot

abbrev pub with_token : Scan → Token → Place → Scan
with_token scan token place = record scan { spots = scan.spots ++ record { token = token; place = place } ∷ [] }

abbrev pub with_mode : Scan → Mode → Scan
with_mode scan m = record scan { mode = m }

abbrev pub begin_sign : Scan → ℕ → Option Sign → Scan
begin_sign scan byte (Some s) = with_token (with_mode scan mode.Between) (sign_token s) scan.here
begin_sign scan byte None = with_mode scan (if is_blank byte then mode.Between else mode.Stopped scan.here)

-- a byte that begins something, or is a sign or a blank
unfoldable pub begin : Scan → ℕ → Scan
begin scan byte =
    if is_ascii_alphabetic byte then record scan { mode = mode.Letters scan.here; letters = byte ∷ [] }
    else (if is_ascii_digit byte then with_mode scan (mode.Digits scan.here (with_digit 0 byte))
    else (if byte == 40 then with_mode scan (mode.Parenthesis scan.here)
    else begin_sign scan byte (sign_of byte)))

abbrev pub behind_star : Place → ℕ → Mode
behind_star place byte = if byte == 41 then mode.Between else (if byte == 42 then mode.Star place else mode.Comment place)

-- one byte in each mode
abbrev pub step : Scan → ℕ → Mode → Scan
step scan byte mode.Between = begin scan byte
step scan byte (mode.Parenthesis place) =
    if byte == 42 then with_mode scan (mode.Comment place) else begin (with_token scan (sign_token sign.Open) place) byte
step scan byte (mode.Comment place) = if byte == 42 then with_mode scan (mode.Star place) else scan
step scan byte (mode.Star place) = with_mode scan (behind_star place byte)
step scan byte (mode.Letters place) =
    if is_ascii_alphanumeric byte then record scan { letters = scan.letters ++ byte ∷ [] }
    else begin (with_token scan (letters_of scan.letters) place) byte
step scan byte (mode.Digits place number) =
    if is_ascii_digit byte then with_mode scan (mode.Digits place (with_digit number byte))
    else begin (with_token scan (Number number) place) byte
step scan byte (mode.Stopped place) = scan

unfoldable pub take : Scan → ℕ → Scan
take scan byte = let next = step scan byte scan.mode in record next { here = behind scan.here byte }

abbrev pub beginning : Scan
beginning = record { here = record { line = 1; column = 1 }; mode = mode.Between; letters = []; spots = [] }

-- the tokens of a text, how they end, and where
pub record Tokens : Type 0 where
  pub spots : List Spot
  pub ending : Ending
  pub end : Place

-- the end of the text in each mode
abbrev pub finish : Scan → Mode → Tokens
finish scan mode.Between = record { spots = scan.spots; ending = ending.Text; end = scan.here }
finish scan (mode.Parenthesis place) = record { spots = (with_token scan (sign_token sign.Open) place).spots; ending = ending.Text; end = scan.here }
finish scan (mode.Comment place) = record { spots = scan.spots; ending = ending.OpenComment; end = place }
finish scan (mode.Star place) = record { spots = scan.spots; ending = ending.OpenComment; end = place }
finish scan (mode.Letters place) = record { spots = (with_token scan (letters_of scan.letters) place).spots; ending = ending.Text; end = scan.here }
finish scan (mode.Digits place number) = record { spots = (with_token scan (Number number) place).spots; ending = ending.Text; end = scan.here }
finish scan (mode.Stopped place) = record { spots = scan.spots; ending = ending.Character; end = place }

-- bytes are taken from the front
abbrev pub read_from : Scan → List ℕ → Scan
read_from scan [] = scan
read_from scan (byte ∷ bytes) = read_from (take scan byte) bytes

abbrev pub read_all : List ℕ → Scan
read_all text = read_from beginning text

abbrev pub tokens_of : List ℕ → Tokens
tokens_of text = let scan = read_all text in finish scan scan.mode
