-- The syntax behind `INTERFACE name ;`: for each point of an interface the tokens that may stand there, and what each says. One row a token.
use Rattle.std.specs.Prelude.{ℕ, ◌==◌, ◌||◌, Bool, false, List, Option, Some, None, Result, Ok, Err, if◌then◌else◌}
use Rattle.interface_tokens.specs.Outcome.{◌>>=◌}
use Rattle.interface_tokens.specs.Tokens.{code_of}
use Rattle.interface_tokens.specs.declared.fault.Cause.{Cause}
use Rattle.interface_tokens.specs.declared.fault.Cause.TheVariants as cause
use Rattle.interface_tokens.specs.declared.token.Word.{Word}
use Rattle.interface_tokens.specs.declared.token.Word.TheVariants as word
use Rattle.interface_tokens.specs.declared.token.Sign.{Sign}
use Rattle.interface_tokens.specs.declared.token.Sign.TheVariants as sign
use Rattle.interface_tokens.specs.declared.token.Token.{Token}
use Rattle.interface_tokens.specs.declared.token.Token.TheVariants as token
use Rattle.interface_tokens.specs.declared.expect.Expect.{Expect}
use Rattle.interface_tokens.specs.declared.expect.Expect.TheVariants as expect
use Rattle.interface_tokens.specs.declared.expect.AtTop.{AtTop}
use Rattle.interface_tokens.specs.declared.expect.AtTop.TheVariants as at_top
use Rattle.interface_tokens.specs.declared.expect.AtProcedure.{AtProcedure}
use Rattle.interface_tokens.specs.declared.expect.AtProcedure.TheVariants as at_procedure
use Rattle.interface_tokens.specs.declared.expect.AtType.{AtType}
use Rattle.interface_tokens.specs.declared.expect.AtType.TheVariants as at_type
use Rattle.interface_tokens.specs.declared.expect.Basic.{Basic}
use Rattle.interface_tokens.specs.declared.expect.Basic.TheVariants as basic
use Rattle.interface_tokens.specs.declared.expect.Way.TheVariants as way_of
use Rattle.interface_tokens.specs.declared.expect.Act.{Act}
use Rattle.interface_tokens.specs.declared.expect.Act.TheVariants as act
use Rattle.interface_tokens.specs.declared.expect.Declare.TheVariants as declare
use Rattle.interface_tokens.specs.declared.expect.InProcedure.TheVariants as step
use Rattle.interface_tokens.specs.declared.expect.TypeStep.TheVariants as part
use Rattle.interface_tokens.specs.declared.expect.TypeEnd.TheVariants as close

-- the words by their places in the list of them
abbrev pub place_of : Word → ℕ
place_of word.Interface = 0
place_of word.End = 1
place_of word.Type = 2
place_of word.Exception = 3
place_of word.Procedure = 4
place_of word.Var = 5
place_of word.In = 6
place_of word.Out = 7
place_of word.Raises = 8
place_of word.Boolean = 9
place_of word.Byte = 10
place_of word.Char = 11
place_of word.Cardinal = 12
place_of word.Integer = 13
place_of word.Longcard = 14
place_of word.Array = 15
place_of word.Of = 16
place_of word.Upto = 17
place_of word.Record = 18

unfoldable pub is_word : Token → Word → Bool
is_word (token.Word found) w = place_of found == place_of w
is_word (token.Sign s) w = false
is_word (token.Name n) w = false
is_word token.LongName w = false
is_word (token.Number n) w = false

unfoldable pub is_sign : Token → Sign → Bool
is_sign (token.Sign found) s = code_of found == code_of s
is_sign (token.Word w) s = false
is_sign (token.Name n) s = false
is_sign token.LongName s = false
is_sign (token.Number n) s = false

-- where the grammar has a name, a name that is too long has a fault of its own
unfoldable pub name_of : Token → Result (List ℕ) Cause
name_of (token.Name n) = Ok n
name_of token.LongName = Err cause.LongName
name_of (token.Word w) = Err cause.Expected
name_of (token.Sign s) = Err cause.Expected
name_of (token.Number n) = Err cause.Expected

unfoldable pub number_of : Token → Result ℕ Cause
number_of (token.Number n) = Ok n
number_of (token.Word w) = Err cause.Expected
number_of (token.Sign s) = Err cause.Expected
number_of (token.Name n) = Err cause.Expected
number_of token.LongName = Err cause.Expected

abbrev pub top : AtTop → Act
top at = act.Go (expect.Top at)

abbrev pub procedure : AtProcedure → Act
procedure at = act.Go (expect.Procedure at)

abbrev pub in_type : AtType → Act
in_type at = act.Go (expect.Type at)

unfoldable pub only_word : Token → Word → Act → Result Act Cause
only_word t w a = if is_word t w then Ok a else Err cause.Expected

unfoldable pub only_sign : Token → Sign → Act → Result Act Cause
only_sign t s a = if is_sign t s then Ok a else Err cause.Expected

-- behind the last full stop every token is one too many
unfoldable pub after : Token → Cause
after token.LongName = cause.LongName
after (token.Word w) = cause.After
after (token.Sign s) = cause.After
after (token.Name n) = cause.After
after (token.Number n) = cause.After

-- { declaration } END
unfoldable pub declaration : Token → Result Act Cause
declaration t =
    if is_word t word.Type then Ok (top at_top.TypeName)
    else (if is_word t word.Exception then Ok (act.Declare declare.BeginException)
    else (if is_word t word.Procedure then Ok (act.Declare declare.BeginProcedure)
    else only_word t word.End (top at_top.EndName)))

-- TYPE name "=" type ";" | EXCEPTION name ";" | END name "."
unfoldable pub act_at_top : AtTop → Token → Result Act Cause
act_at_top at_top.Declaration t = declaration t
act_at_top at_top.TypeName t = name_of t >>= λ n. Ok (act.Declare (declare.Type n))
act_at_top at_top.Equals t = only_sign t sign.Equals (act.Declare declare.Equals)
act_at_top at_top.ExceptionName t = name_of t >>= λ n. Ok (act.Declare (declare.Exception n))
act_at_top at_top.Semicolon t = only_sign t sign.Semicolon (top at_top.Declaration)
act_at_top at_top.EndName t = name_of t >>= λ n. Ok (act.Declare (declare.EndInterface n))
act_at_top at_top.FullStop t = only_sign t sign.FullStop (top at_top.Nothing)
act_at_top at_top.Nothing t = Err (after t)

-- [ VAR [ IN | OUT ] ] name
unfoldable pub group : Token → Result Act Cause
group t =
    if is_word t word.Var then Ok (act.Procedure (step.Pass way_of.Var))
    else (name_of t >>= λ n. Ok (act.Procedure (step.FirstParameter n)))

unfoldable pub passing : Token → Result Act Cause
passing t =
    if is_word t word.In then Ok (act.Procedure (step.Pass way_of.In))
    else (if is_word t word.Out then Ok (act.Procedure (step.Pass way_of.Out))
    else (name_of t >>= λ n. Ok (act.Procedure (step.Parameter n))))

-- { "," name } ":" type
unfoldable pub more_parameters : Token → Result Act Cause
more_parameters t =
    if is_sign t sign.Comma then Ok (procedure at_procedure.Parameter)
    else only_sign t sign.Colon (act.Procedure step.TypeParameters)

-- { ";" group } ")"
unfoldable pub more_groups : Token → Result Act Cause
more_groups t =
    if is_sign t sign.Semicolon then Ok (procedure at_procedure.Group)
    else only_sign t sign.Close (procedure at_procedure.Answer)

-- [ RAISES .. ] ";"
unfoldable pub raises : Token → Result Act Cause
raises t =
    if is_word t word.Raises then Ok (procedure at_procedure.OpenRaises)
    else only_sign t sign.Semicolon (act.Procedure step.End)

-- { "," name } "}"
unfoldable pub more_raises : Token → Result Act Cause
more_raises t =
    if is_sign t sign.Comma then Ok (procedure at_procedure.Raise)
    else only_sign t sign.CloseBrace (procedure at_procedure.Semicolon)

-- PROCEDURE name "(" [ group { ";" group } ] ")" [ ":" type ] [ RAISES "{" name { "," name } "}" ] ";"
unfoldable pub act_in_procedure : AtProcedure → Token → Result Act Cause
act_in_procedure at_procedure.Name t = name_of t >>= λ n. Ok (act.Declare (declare.Procedure n))
act_in_procedure at_procedure.Open t = only_sign t sign.Open (procedure at_procedure.FirstGroup)
act_in_procedure at_procedure.FirstGroup t = if is_sign t sign.Close then Ok (procedure at_procedure.Answer) else group t
act_in_procedure at_procedure.Group t = group t
act_in_procedure at_procedure.Way t = passing t
act_in_procedure at_procedure.Parameter t = name_of t >>= λ n. Ok (act.Procedure (step.Parameter n))
act_in_procedure at_procedure.MoreParameters t = more_parameters t
act_in_procedure at_procedure.MoreGroups t = more_groups t
act_in_procedure at_procedure.Answer t = if is_sign t sign.Colon then Ok (act.Procedure step.TypeResult) else raises t
act_in_procedure at_procedure.Raises t = raises t
act_in_procedure at_procedure.OpenRaises t = only_sign t sign.OpenBrace (procedure at_procedure.Raise)
act_in_procedure at_procedure.Raise t = name_of t >>= λ n. Ok (act.Procedure (step.Raise n))
act_in_procedure at_procedure.MoreRaises t = more_raises t
act_in_procedure at_procedure.Semicolon t = only_sign t sign.Semicolon (act.Procedure step.End)

-- the words of basic types; CHAR is the same as BYTE
unfoldable pub basic_of : Token → Option Basic
basic_of t =
    if is_word t word.Boolean then Some basic.Boolean
    else (if is_word t word.Byte || is_word t word.Char then Some basic.Byte
    else (if is_word t word.Cardinal then Some basic.Cardinal
    else (if is_word t word.Integer then Some basic.Integer
    else (if is_word t word.Longcard then Some basic.Longcard
    else None))))

abbrev pub basic_or_name : Token → Option Basic → Result Act Cause
basic_or_name t (Some b) = Ok (act.End (close.Basic b))
basic_or_name t None = name_of t >>= λ n. Ok (act.End (close.Named n))

-- a basic type | name | "(" .. | ARRAY .. | RECORD ..
unfoldable pub begin_type : Token → Result Act Cause
begin_type t =
    if is_word t word.Array then Ok (act.Step part.BeginArray)
    else (if is_word t word.Record then Ok (act.Step part.BeginRecord)
    else (if is_sign t sign.Open then Ok (act.Step part.BeginValues)
    else basic_or_name t (basic_of t)))

-- { "," name } ")"
unfoldable pub more_values : Token → Result Act Cause
more_values t =
    if is_sign t sign.Comma then Ok (in_type at_type.Value)
    else only_sign t sign.Close (act.End close.Values)

-- { "," name } ":" type
unfoldable pub more_fields : Token → Result Act Cause
more_fields t =
    if is_sign t sign.Comma then Ok (in_type at_type.Field)
    else only_sign t sign.Colon (act.Step part.TypeFields)

-- { ";" field } END
unfoldable pub end_record : Token → Result Act Cause
end_record t =
    if is_sign t sign.Semicolon then Ok (act.Step part.NextFields)
    else only_word t word.End (act.End close.Record)

-- "(" name { "," name } ")" | ARRAY number OF type | ARRAY OF type UPTO number | RECORD field { ";" field } END
unfoldable pub act_in_type : AtType → Token → Result Act Cause
act_in_type at_type.Begin t = begin_type t
act_in_type at_type.Value t = name_of t >>= λ n. Ok (act.Step (part.Value n))
act_in_type at_type.MoreValues t = more_values t
act_in_type at_type.Length t =
    if is_word t word.Of then Ok (act.Step part.OpenArray) else (number_of t >>= λ n. Ok (act.Step (part.Length n)))
act_in_type at_type.Of t = only_word t word.Of (in_type at_type.Begin)
act_in_type at_type.Upto t = only_word t word.Upto (in_type at_type.Limit)
act_in_type at_type.Limit t = number_of t >>= λ n. Ok (act.End (close.Limit n))
act_in_type at_type.Field t = name_of t >>= λ n. Ok (act.Step (part.Field n))
act_in_type at_type.MoreFields t = more_fields t
act_in_type at_type.EndRecord t = end_record t

unfoldable pub act_of : Expect → Token → Result Act Cause
act_of (expect.Top at) t = act_at_top at t
act_of (expect.Procedure at) t = act_in_procedure at t
act_of (expect.Type at) t = act_in_type at t
