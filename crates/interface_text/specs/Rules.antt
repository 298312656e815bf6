-- Interfaces as they are read: what each token does behind `INTERFACE name ;`, with the rules of names and the limits. One row an act.
use Rattle.std.specs.Prelude.{ℕ, ◌+◌, Bool, nat_le, is_some, List, [], ◌∷◌, ◌++◌, length, replicate, Option, Some, None, Result, Ok, Err, if◌then◌else◌}
use Rattle.interface_tokens.specs.Names.{is_among, is_same}
use Rattle.interface_tokens.specs.Outcome.{Outcome, ◌>>=◌}
use Rattle.interface_text.specs.Kinds.{Kind}
use Rattle.interface_text.specs.Interfaces.{DeclaredProcedure, DeclaredInterface}
use Rattle.interface_text.specs.Meanings.{Sense, a_type, an_exception, a_procedure, look_up, exception_in}
use Rattle.interface_text.specs.Meanings as meanings
use Rattle.interface_text.specs.TypeRules.{Typing, Settling, whole, next, untyped, restarted, stopped, is_over, one_more}
use Rattle.interface_text.specs.TypeRules as types
use Rattle.interface_tokens.specs.Syntax.{act_of}
use Rattle.interface_tokens.specs.declared.place.Place.{Place}
use Rattle.interface_tokens.specs.declared.fault.Cause.{Cause}
use Rattle.interface_tokens.specs.declared.fault.Cause.TheVariants as cause
use Rattle.interface_tokens.specs.declared.token.Spot.{Spot}
use Rattle.interface_tokens.specs.declared.scanner.Ending.{Ending}
use Rattle.interface_tokens.specs.declared.scanner.Ending.TheVariants as ending
use Rattle.interface_tokens.specs.declared.expect.Expect.{Expect}
use Rattle.interface_tokens.specs.declared.expect.Expect.TheVariants as expect
use Rattle.interface_tokens.specs.declared.expect.AtTop.{AtTop}
use Rattle.interface_tokens.specs.declared.expect.AtTop.TheVariants as at_top
use Rattle.interface_tokens.specs.declared.expect.AtProcedure.{AtProcedure}
use Rattle.interface_tokens.specs.declared.expect.AtProcedure.TheVariants as at_procedure
use Rattle.interface_tokens.specs.declared.expect.AtType.{AtType}
use Rattle.interface_tokens.specs.declared.expect.AtType.TheVariants as at_type
use Rattle.interface_tokens.specs.declared.expect.Way.{Way}
use Rattle.interface_tokens.specs.declared.expect.Way.TheVariants as way_of
use Rattle.interface_tokens.specs.declared.expect.Act.{Act}
use Rattle.interface_tokens.specs.declared.expect.Act.TheVariants as act
use Rattle.interface_tokens.specs.declared.expect.Declare.{Declare}
use Rattle.interface_tokens.specs.declared.expect.Declare.TheVariants as declare
use Rattle.interface_tokens.specs.declared.expect.InProcedure.{InProcedure}
use Rattle.interface_tokens.specs.declared.expect.InProcedure.TheVariants as step
use Rattle.interface_text.specs.declared.reader.Within.{Within}
use Rattle.interface_text.specs.declared.reader.Within.TheVariants as within

abbrev pub max_exceptions : ℕ
max_exceptions = 256

abbrev pub max_procedures : ℕ
max_procedures = 256

-- a procedure so far: its line, its exceptions, the types of its arguments and of its reply, the names of its parameters, and how the last group
-- is passed and how many names it has
pub record Head : Type 0 where
  pub line : ℕ
  pub raises : List ℕ
  pub arguments : List Kind
  pub reply : List Kind
  pub parameters : List (List ℕ)
  pub way : Way
  pub fresh : ℕ

abbrev pub head_in : ℕ → Head
head_in line = record { line = line; raises = []; arguments = []; reply = []; parameters = []; way = way_of.Value; fresh = 0 }

abbrev pub passed : Head → Way → ℕ → Head
passed h w fresh = record h { way = w; fresh = fresh }

abbrev pub with_parameter : Head → List ℕ → Head
with_parameter h name = record h { parameters = h.parameters ++ name ∷ []; fresh = one_more h.fresh }

-- Each name of a group has its type. By value and VAR IN it is an argument, VAR OUT it is of the reply, VAR it is both.
abbrev pub typed : Head → Way → Kind → Head
typed h way_of.Value kind = record h { arguments = h.arguments ++ replicate h.fresh kind }
typed h way_of.In kind = record h { arguments = h.arguments ++ replicate h.fresh kind }
typed h way_of.Out kind = record h { reply = h.reply ++ replicate h.fresh kind }
typed h way_of.Var kind = record h { arguments = h.arguments ++ replicate h.fresh kind; reply = h.reply ++ replicate h.fresh kind }

abbrev pub procedure_of : Head → List ℕ → DeclaredProcedure
procedure_of h name = record { name = name; line = h.line; raises = h.raises; arguments = h.arguments; reply = h.reply }

-- an interface so far: what is expected, what the type under way is for, its name, the name under way, the names that are declared, the
-- exceptions and the number of the next one, the procedures, the procedure under way and the type under way
pub record Reading : Type 0 where
  pub expect : Expect
  pub within : Within
  pub name : List ℕ
  pub subject : List ℕ
  pub declared : List (List ℕ × Sense)
  pub exceptions : List (List ℕ)
  pub number : ℕ
  pub procedures : List DeclaredProcedure
  pub heading : Head
  pub types : Typing

abbrev pub beginning : List ℕ → Reading
beginning name = record {
  expect = expect.Top at_top.Declaration;
  within = within.Definition;
  name = name;
  subject = name;
  declared = [];
  exceptions = [];
  number = 0;
  procedures = [];
  heading = head_in 0;
  types = untyped;
}

abbrev pub is_declared : Reading → List ℕ → Bool
is_declared r name = is_some (look_up name r.declared)

abbrev pub refused : {X : Type 0} → Reading → Place → Cause → Outcome X
refused r place c = stopped r.types place c

abbrev pub at_the_top : Reading → AtTop → Reading
at_the_top r at = record r { expect = expect.Top at }

abbrev pub in_the_procedure : Reading → AtProcedure → Reading
in_the_procedure r at = record r { expect = expect.Procedure at }

unfoldable pub begin_exception : Reading → Place → Outcome Reading
begin_exception r place =
    if nat_le max_exceptions (length r.exceptions) then refused r place cause.TooMany
    else Ok (record r { number = length r.exceptions + 1; expect = expect.Top at_top.ExceptionName })

unfoldable pub begin_procedure : Reading → Place → Outcome Reading
begin_procedure r place =
    if nat_le max_procedures (length r.procedures) then refused r place cause.TooMany
    else Ok (record r { heading = record (r.heading) { line = place.line }; expect = expect.Procedure at_procedure.Name })

unfoldable pub declare_type : Reading → List ℕ → Place → Outcome Reading
declare_type r name place =
    if is_declared r name then refused r place cause.Duplicate else Ok (record r { subject = name; expect = expect.Top at_top.Equals })

unfoldable pub declare_exception : Reading → List ℕ → Place → Outcome Reading
declare_exception r name place =
    if is_declared r name then refused r place cause.Duplicate
    else Ok (record r {
      exceptions = r.exceptions ++ name ∷ [];
      declared = meanings.declare r.declared name (an_exception r.number);
      expect = expect.Top at_top.Semicolon;
    })

unfoldable pub declare_procedure : Reading → List ℕ → Place → Outcome Reading
declare_procedure r name place =
    if is_declared r name then refused r place cause.Duplicate
    else Ok (record r {
      declared = meanings.declare r.declared name a_procedure;
      subject = name;
      heading = head_in r.heading.line;
      types = restarted r.types;
      expect = expect.Procedure at_procedure.Open;
    })

unfoldable pub end_interface : Reading → List ℕ → Place → Outcome Reading
end_interface r name place =
    if is_same name r.name then Ok (at_the_top r at_top.FullStop) else refused r place cause.EndName

-- a type begins, with none round it
abbrev pub begin_type : Reading → Within → Reading
begin_type r w = record r { within = w; expect = expect.Type at_type.Begin; types = record (r.types) { forms = [] } }

-- what a token says that declares
unfoldable pub declare_of : Reading → Declare → Place → Outcome Reading
declare_of r declare.BeginException place = begin_exception r place
declare_of r declare.BeginProcedure place = begin_procedure r place
declare_of r (declare.Type name) place = declare_type r name place
declare_of r declare.Equals place = Ok (begin_type (record r { types = restarted r.types }) within.Definition)
declare_of r (declare.Exception name) place = declare_exception r name place
declare_of r (declare.Procedure name) place = declare_procedure r name place
declare_of r (declare.EndInterface name) place = end_interface r name place

-- the parameters of a procedure differ
unfoldable pub add_parameter : Reading → List ℕ → Place → Outcome Reading
add_parameter r name place =
    if is_among name r.heading.parameters then refused r place cause.Duplicate
    else Ok (record r { heading = with_parameter r.heading name; expect = expect.Procedure at_procedure.MoreParameters })

abbrev pub raised : Reading → Place → Option ℕ → Outcome Reading
raised r place (Some number) =
    Ok (record r { heading = record (r.heading) { raises = r.heading.raises ++ number ∷ [] }; expect = expect.Procedure at_procedure.MoreRaises })
raised r place None = refused r place cause.Unknown

unfoldable pub add_raise : Reading → List ℕ → Place → Outcome Reading
add_raise r name place = raised r place (exception_in (look_up name r.declared))

unfoldable pub end_procedure : Reading → Reading
end_procedure r = record r {
  procedures = r.procedures ++ procedure_of r.heading r.subject ∷ [];
  heading = head_in 0;
  expect = expect.Top at_top.Declaration;
}

abbrev pub behind : Way → AtProcedure
behind way_of.Var = at_procedure.Way
behind way_of.Value = at_procedure.Parameter
behind way_of.In = at_procedure.Parameter
behind way_of.Out = at_procedure.Parameter

abbrev pub with_heading : Reading → Head → Reading
with_heading r h = record r { heading = h }

-- what a token says in a procedure, outside its types; the result is passed as one name VAR OUT
unfoldable pub step_of : Reading → InProcedure → Place → Outcome Reading
step_of r (step.Pass w) place = Ok (record r { heading = passed r.heading w 0; expect = expect.Procedure (behind w) })
step_of r (step.FirstParameter name) place = add_parameter (with_heading r (passed r.heading way_of.Value 0)) name place
step_of r (step.Parameter name) place = add_parameter r name place
step_of r step.TypeParameters place = Ok (begin_type (record r { types = record (r.types) { times = r.heading.fresh } }) within.Parameters)
step_of r step.TypeResult place =
    Ok (begin_type (record r { heading = passed r.heading way_of.Out 1; types = record (r.types) { times = 1 } }) within.Answer)
step_of r (step.Raise name) place = add_raise r name place
step_of r step.End place = Ok (end_procedure r)

abbrev pub typed_in : Reading → Within → Kind → Reading
typed_in r within.Definition kind = record r {
  declared = meanings.declare r.declared r.subject (a_type (record { kind = kind; depth = r.types.deepest; parts = r.types.total }));
  expect = expect.Top at_top.Semicolon;
}
typed_in r within.Parameters kind =
    record r { heading = typed r.heading r.heading.way kind; expect = expect.Procedure at_procedure.MoreGroups }
typed_in r within.Answer kind = record r { heading = typed r.heading r.heading.way kind; expect = expect.Procedure at_procedure.Raises }

-- the outermost type is read; too many parts are a fault at its first token
unfoldable pub end_type : Reading → Kind → Outcome Reading
end_type r kind = if is_over r.types.total then Err (r.types.start, cause.TooMany) else Ok (typed_in r r.within kind)

abbrev pub settle_of : Reading → Settling → Outcome Reading
settle_of r (next e) = Ok (record r { expect = e })
settle_of r (whole kind) = end_type r kind

abbrev pub stepped : Reading → Outcome (Typing × AtType) → Outcome Reading
stepped r (Ok t) = Ok (record r { types = t.0; expect = expect.Type t.1 })
stepped r (Err f) = Err f

abbrev pub ended : Reading → Outcome (Typing × Settling) → Outcome Reading
ended r (Ok t) = settle_of (record r { types = t.0 }) t.1
ended r (Err f) = Err f

unfoldable pub do_act : Reading → Act → Place → Outcome Reading
do_act r (act.Go e) place = Ok (record r { expect = e })
do_act r (act.Declare d) place = declare_of r d place
do_act r (act.Procedure s) place = step_of r s place
do_act r (act.Step s) place = stepped r (types.step r.types s place)
do_act r (act.End e) place = ended r (types.end r.types r.declared e place)

abbrev pub act_or_fault : Reading → Place → Result Act Cause → Outcome Reading
act_or_fault r place (Ok a) = do_act r a place
act_or_fault r place (Err c) = refused r place c

-- one token
unfoldable pub take : Reading → Spot → Outcome Reading
take r spot = act_or_fault r spot.place (act_of r.expect spot.token)

abbrev pub take_all : Reading → List Spot → Outcome Reading
take_all r [] = Ok r
take_all r (spot ∷ spots) = take r spot >>= λ s. take_all s spots

abbrev pub interface_of : Reading → DeclaredInterface
interface_of r = record { name = r.name; exceptions = r.exceptions; procedures = r.procedures }

abbrev pub at_end : Reading → Expect → Place → Outcome DeclaredInterface
at_end r (expect.Top at_top.Nothing) place = Ok (interface_of r)
at_end r e place = refused r place cause.Expected

-- the end of the tokens
unfoldable pub finish : Reading → Ending → Place → Outcome DeclaredInterface
finish r ending.Character place = refused r place cause.Character
finish r ending.OpenComment place = refused r place cause.OpenComment
finish r ending.Text place = at_end r r.expect place
