-- What is still to come of a text, as symbols of the grammar: what is expected, and the types round the next one.
use Rattle.std.specs.Prelude.{List, [], ◌∷◌}
use Rattle.interface_text.specs.Grammar.{Symbol, the_word, the_sign, a_name, a_number, declarations, parameters, group, more_groups, in_or_out, more_names, answer, raises, a_type, array, more_fields}
use Rattle.interface_text.specs.Rules.{Reading}
use Rattle.interface_text.specs.TypeRules.{Form, array_form, open_form, fields_form}
use Rattle.interface_tokens.specs.declared.token.Word.TheVariants as word
use Rattle.interface_tokens.specs.declared.token.Sign.TheVariants as sign
use Rattle.interface_text.specs.declared.reader.Within.{Within}
use Rattle.interface_text.specs.declared.reader.Within.TheVariants as within
use Rattle.interface_tokens.specs.declared.expect.Expect.{Expect}
use Rattle.interface_tokens.specs.declared.expect.Expect.TheVariants as expect
use Rattle.interface_tokens.specs.declared.expect.AtTop.{AtTop}
use Rattle.interface_tokens.specs.declared.expect.AtTop.TheVariants as at_top
use Rattle.interface_tokens.specs.declared.expect.AtProcedure.{AtProcedure}
use Rattle.interface_tokens.specs.declared.expect.AtProcedure.TheVariants as at_procedure
use Rattle.interface_tokens.specs.declared.expect.AtType.{AtType}
use Rattle.interface_tokens.specs.declared.expect.AtType.TheVariants as at_type
use Rattle.interface_tokens.specs.declared.expect.Way.{Way}
use Rattle.interface_tokens.specs.declared.expect.Way.TheVariants as way_of
use Rattle.interface_tokens.specs.declared.expect.Act.{Act}
use Rattle.interface_tokens.specs.declared.expect.Act.TheVariants as act
use Rattle.interface_tokens.specs.declared.expect.Declare.{Declare}
use Rattle.interface_tokens.specs.declared.expect.Declare.TheVariants as declare
use Rattle.interface_tokens.specs.declared.expect.InProcedure.{InProcedure}
use Rattle.interface_tokens.specs.declared.expect.InProcedure.TheVariants as step
use Rattle.interface_tokens.specs.declared.expect.TypeStep.{TypeStep}
use Rattle.interface_tokens.specs.declared.expect.TypeStep.TheVariants as part
use Rattle.interface_tokens.specs.declared.expect.TypeEnd.{TypeEnd}
use Rattle.interface_tokens.specs.declared.expect.TypeEnd.TheVariants as close_of

abbrev pub the_end : List Symbol
the_end = declarations ∷ the_word word.End ∷ a_name ∷ the_sign sign.FullStop ∷ []

abbrev pub behind_definition : List Symbol
behind_definition = the_sign sign.Semicolon ∷ the_end

abbrev pub behind_raises : List Symbol
behind_raises = the_sign sign.Semicolon ∷ the_end

abbrev pub behind_answer : List Symbol
behind_answer = raises ∷ behind_raises

abbrev pub behind_parameters : List Symbol
behind_parameters = answer ∷ behind_answer

abbrev pub behind_group : List Symbol
behind_group = more_groups ∷ the_sign sign.Close ∷ behind_parameters

abbrev pub of_group : List Symbol
of_group = more_names ∷ the_sign sign.Colon ∷ a_type ∷ behind_group

abbrev pub of_raises : List Symbol
of_raises = more_names ∷ the_sign sign.CloseBrace ∷ behind_raises

abbrev pub of_procedure : List Symbol
of_procedure = the_sign sign.Open ∷ parameters ∷ the_sign sign.Close ∷ behind_parameters

-- what is to come behind the outermost type
abbrev pub behind_outermost : Within → List Symbol
behind_outermost within.Definition = behind_definition
behind_outermost within.Parameters = behind_group
behind_outermost within.Answer = behind_answer

-- what is to come behind a type that stands in these
abbrev pub behind_type : List Form → Within → List Symbol
behind_type [] w = behind_outermost w
behind_type (array_form n ∷ fs) w = behind_type fs w
behind_type (open_form e ∷ fs) w = the_word word.Upto ∷ a_number ∷ behind_type fs w
behind_type (fields_form g ∷ fs) w = more_fields ∷ the_word word.End ∷ behind_type fs w

-- and behind the innermost of these
abbrev pub behind_limit : List Form → Within → List Symbol
behind_limit (open_form e ∷ fs) w = behind_type fs w
behind_limit forms w = []

abbrev pub behind_record : List Form → Within → List Symbol
behind_record (fields_form g ∷ fs) w = behind_type fs w
behind_record forms w = []

abbrev pub of_values : List Form → Within → List Symbol
of_values fs w = more_names ∷ the_sign sign.Close ∷ behind_type fs w

abbrev pub of_fields : List Symbol → List Symbol
of_fields rest = more_names ∷ the_sign sign.Colon ∷ a_type ∷ rest

abbrev pub at_the_top : AtTop → List Symbol
at_the_top at_top.Declaration = the_end
at_the_top at_top.TypeName = a_name ∷ the_sign sign.Equals ∷ a_type ∷ behind_definition
at_the_top at_top.Equals = the_sign sign.Equals ∷ a_type ∷ behind_definition
at_the_top at_top.ExceptionName = a_name ∷ behind_definition
at_the_top at_top.Semicolon = behind_definition
at_the_top at_top.EndName = a_name ∷ the_sign sign.FullStop ∷ []
at_the_top at_top.FullStop = the_sign sign.FullStop ∷ []
at_the_top at_top.Nothing = []

abbrev pub in_the_procedure : AtProcedure → List Symbol
in_the_procedure at_procedure.Name = a_name ∷ of_procedure
in_the_procedure at_procedure.Open = of_procedure
in_the_procedure at_procedure.FirstGroup = parameters ∷ the_sign sign.Close ∷ behind_parameters
in_the_procedure at_procedure.Group = group ∷ behind_group
in_the_procedure at_procedure.Way = in_or_out ∷ a_name ∷ of_group
in_the_procedure at_procedure.Parameter = a_name ∷ of_group
in_the_procedure at_procedure.MoreParameters = of_group
in_the_procedure at_procedure.MoreGroups = behind_group
in_the_procedure at_procedure.Answer = behind_parameters
in_the_procedure at_procedure.Raises = behind_answer
in_the_procedure at_procedure.OpenRaises = the_sign sign.OpenBrace ∷ a_name ∷ of_raises
in_the_procedure at_procedure.Raise = a_name ∷ of_raises
in_the_procedure at_procedure.MoreRaises = of_raises
in_the_procedure at_procedure.Semicolon = behind_raises

abbrev pub in_the_type : AtType → List Form → Within → List Symbol
in_the_type at_type.Begin fs w = a_type ∷ behind_type fs w
in_the_type at_type.Value fs w = a_name ∷ of_values fs w
in_the_type at_type.MoreValues fs w = of_values fs w
in_the_type at_type.Length fs w = array ∷ behind_type fs w
in_the_type at_type.Of fs w = the_word word.Of ∷ a_type ∷ behind_type fs w
in_the_type at_type.Upto fs w = the_word word.Upto ∷ a_number ∷ behind_limit fs w
in_the_type at_type.Limit fs w = a_number ∷ behind_limit fs w
in_the_type at_type.Field fs w = a_name ∷ of_fields (behind_type fs w)
in_the_type at_type.MoreFields fs w = of_fields (behind_type fs w)
in_the_type at_type.EndRecord fs w = more_fields ∷ the_word word.End ∷ behind_record fs w

abbrev pub to_come : Expect → List Form → Within → List Symbol
to_come (expect.Top at) fs w = at_the_top at
to_come (expect.Procedure at) fs w = in_the_procedure at
to_come (expect.Type at) fs w = in_the_type at fs w

-- what is to come of an interface
abbrev pub residue : Reading → List Symbol
residue r = to_come r.expect r.types.forms r.within

abbrev pub behind_declare : Declare → List Symbol
behind_declare declare.BeginException = a_name ∷ behind_definition
behind_declare declare.BeginProcedure = a_name ∷ of_procedure
behind_declare (declare.Type n) = the_sign sign.Equals ∷ a_type ∷ behind_definition
behind_declare declare.Equals = a_type ∷ behind_definition
behind_declare (declare.Exception n) = behind_definition
behind_declare (declare.Procedure n) = of_procedure
behind_declare (declare.EndInterface n) = the_sign sign.FullStop ∷ []

abbrev pub behind_way : Way → List Symbol
behind_way way_of.Var = in_or_out ∷ a_name ∷ of_group
behind_way way_of.Value = a_name ∷ of_group
behind_way way_of.In = a_name ∷ of_group
behind_way way_of.Out = a_name ∷ of_group

abbrev pub behind_step : InProcedure → List Symbol
behind_step (step.Pass w) = behind_way w
behind_step (step.FirstParameter n) = of_group
behind_step (step.Parameter n) = of_group
behind_step step.TypeParameters = a_type ∷ behind_group
behind_step step.TypeResult = a_type ∷ behind_answer
behind_step (step.Raise n) = of_raises
behind_step step.End = the_end

abbrev pub behind_part : TypeStep → List Form → Within → List Symbol
behind_part part.BeginValues fs w = a_name ∷ of_values fs w
behind_part (part.Value n) fs w = of_values fs w
behind_part part.BeginArray fs w = array ∷ behind_type fs w
behind_part (part.Length n) fs w = the_word word.Of ∷ a_type ∷ behind_type fs w
behind_part part.OpenArray fs w = a_type ∷ the_word word.Upto ∷ a_number ∷ behind_type fs w
behind_part part.BeginRecord fs w = a_name ∷ of_fields (more_fields ∷ the_word word.End ∷ behind_type fs w)
behind_part (part.Field n) fs w = of_fields (behind_type fs w)
behind_part part.TypeFields fs w = a_type ∷ behind_type fs w
behind_part part.NextFields fs w = a_name ∷ of_fields (more_fields ∷ the_word word.End ∷ behind_record fs w)

abbrev pub behind_end : TypeEnd → List Form → Within → List Symbol
behind_end (close_of.Basic b) fs w = behind_type fs w
behind_end (close_of.Named n) fs w = behind_type fs w
behind_end close_of.Values fs w = behind_type fs w
behind_end (close_of.Limit n) fs w = behind_limit fs w
behind_end close_of.Record fs w = behind_record fs w

-- what is to come behind what a token says
abbrev pub behind_act : Act → List Form → Within → List Symbol
behind_act (act.Go e) fs w = to_come e fs w
behind_act (act.Declare d) fs w = behind_declare d
behind_act (act.Procedure s) fs w = behind_step s
behind_act (act.Step s) fs w = behind_part s fs w
behind_act (act.End e) fs w = behind_end e fs w
