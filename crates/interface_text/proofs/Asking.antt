-- What each act asks of what was read, and that each row of the syntax gives it.
use Rattle.std.proofs.Common.{◌≡◌, ◌≤◌, ◌<◌, ◌+◌, ℕ, Bool, true, false, cond, List, Option, Some, None, Result, Ok, Err, subst}
use Rattle.interface_tokens.specs.Outcome.{◌>>=◌}
use Rattle.interface_tokens.specs.Syntax as syntax
use Rattle.interface_tokens.specs.Syntax.{is_word, is_sign, name_of, number_of, only_word, only_sign, declaration, act_at_top, group as group_row, passing, more_parameters, more_groups as groups_row, raises as raises_row, more_raises, act_in_procedure, basic_of, basic_or_name, begin_type, more_values, more_fields as fields_row, end_record, act_in_type, act_of}
use Rattle.interface_text.specs.TypeRules.{Typing}
use Rattle.interface_text.specs.declared.reader.Within.{Within}
use Rattle.interface_text.specs.declared.reader.Within.TheVariants as within
use Rattle.interface_tokens.specs.declared.fault.Cause.{Cause}
use Rattle.interface_tokens.specs.declared.fault.Cause.TheVariants as cause
use Rattle.interface_tokens.specs.declared.token.Token.{Token}
use Rattle.interface_tokens.specs.declared.token.Word.TheVariants as word
use Rattle.interface_tokens.specs.declared.token.Sign.TheVariants as sign
use Rattle.interface_tokens.specs.declared.expect.Expect.{Expect}
use Rattle.interface_tokens.specs.declared.expect.Expect.TheVariants as expect
use Rattle.interface_tokens.specs.declared.expect.AtTop.{AtTop}
use Rattle.interface_tokens.specs.declared.expect.AtTop.TheVariants as at_top
use Rattle.interface_tokens.specs.declared.expect.AtProcedure.{AtProcedure}
use Rattle.interface_tokens.specs.declared.expect.AtProcedure.TheVariants as at_procedure
use Rattle.interface_tokens.specs.declared.expect.AtType.{AtType}
use Rattle.interface_tokens.specs.declared.expect.AtType.TheVariants as at_type
use Rattle.interface_tokens.specs.declared.expect.Basic.{Basic}
use Rattle.interface_tokens.specs.declared.expect.Way.TheVariants as way_of
use Rattle.interface_tokens.specs.declared.expect.Act.{Act}
use Rattle.interface_tokens.specs.declared.expect.Act.TheVariants as act
use Rattle.interface_tokens.specs.declared.expect.Declare.TheVariants as declare
use Rattle.interface_tokens.specs.declared.expect.InProcedure.TheVariants as step
use Rattle.interface_tokens.specs.declared.expect.TypeStep.TheVariants as part
use Rattle.interface_tokens.specs.declared.expect.TypeEnd.TheVariants as close
use Rattle.interface_text.proofs.Levels.{Ready, Asked, AskedEnd}

-- the procedure that a type is part of
abbrev pub under_way : Within → ℕ
under_way within.Definition = 0
under_way within.Parameters = 1
under_way within.Answer = 1

-- with the one that is read there are at most 256 procedures, and the type under way is within its limits
abbrev pub Open : Expect → ℕ → Within → Typing → Type 0
Open (expect.Top at) n w t = n ≤ 256
Open (expect.Procedure at) n w t = n < 256
Open (expect.Type at) n w t = (n + under_way w ≤ 256) × Ready at t

-- what each act asks
abbrev pub Needs : Act → ℕ → Within → Typing → Type 0
Needs (act.Go e) n w t = Open e n w t
Needs (act.Declare declare.BeginException) n w t = n ≤ 256
Needs (act.Declare declare.BeginProcedure) n w t = n ≤ 256
Needs (act.Declare (declare.Type name)) n w t = n ≤ 256
Needs (act.Declare declare.Equals) n w t = n ≤ 256
Needs (act.Declare (declare.Exception name)) n w t = n ≤ 256
Needs (act.Declare (declare.Procedure name)) n w t = n < 256
Needs (act.Declare (declare.EndInterface name)) n w t = n ≤ 256
Needs (act.Procedure s) n w t = n < 256
Needs (act.Step s) n w t = (n + under_way w ≤ 256) × Asked s t
Needs (act.End e) n w t = (n + under_way w ≤ 256) × AskedEnd e t

abbrev Row : Type 0
Row = Result Act Cause

abbrev ok : Act → Row
ok a = Ok a

-- a row gives what its act asks
module _ (n : ℕ) (w : Within) (ty : Typing) (t : Token) (a : Act) where
  abbrev pub Asks : Act → Type 0
  Asks b = Needs b n w ty

  one : (b : Act) → Asks b → ok b ≡ Ok a → Asks a
  one b p h = let e : b ≡ a = cc in subst Asks e p

  none : (c : Cause) → Err c ≡ ok a → Asks a
  none c h = absurd (no c h)
    where
      no : (d : Cause) → Err d ≡ ok a → ⊥
      no d e = cc

  either : (b : Bool) (x y : Row) → cond b x y ≡ Ok a → (x ≡ Ok a → Asks a) → (y ≡ Ok a → Asks a) → Asks a
  either true x y h p q = p h
  either false x y h p q = q h

  test : (b : Bool) (x : Act) (y : Row) → cond b (Ok x) y ≡ Ok a → Asks x → (y ≡ Ok a → Asks a) → Asks a
  test b x y h p q = either b (Ok x) y h (one x p) q

  only : (b : Bool) (x : Act) → cond b (Ok x) (Err cause.Expected) ≡ Ok a → Asks x → Asks a
  only b x h p = either b (Ok x) (Err cause.Expected) h (one x p) (none cause.Expected)

  the_word : (v : _) (x : Act) → only_word t v x ≡ Ok a → Asks x → Asks a
  unfolding only_word
  the_word v x h p = only (is_word t v) x h p

  the_sign : (s : _) (x : Act) → only_sign t s x ≡ Ok a → Asks x → Asks a
  unfolding only_sign
  the_sign s x h p = only (is_sign t s) x h p

  named : (r : Result (List ℕ) Cause) (f : List ℕ → Act) → (r >>= λ m. ok (f m)) ≡ Ok a → ((m : List ℕ) → Asks (f m)) → Asks a
  named (Ok m) f h p = one (f m) (p m) h
  named (Err c) f h p = none c h

  number : (r : Result ℕ Cause) (f : ℕ → Act) → (r >>= λ m. ok (f m)) ≡ Ok a → ((m : ℕ) → Asks (f m)) → Asks a
  number (Ok m) f h p = one (f m) (p m) h
  number (Err c) f h p = none c h

  top_asks : (at : AtTop) → act_at_top at t ≡ Ok a → n ≤ 256 → Asks a
  unfolding act_at_top declaration
  top_asks at_top.Declaration h o =
      test (is_word t word.Type) (syntax.top at_top.TypeName) _ h o (λ i.
      test (is_word t word.Exception) (act.Declare declare.BeginException) _ i o (λ j.
      test (is_word t word.Procedure) (act.Declare declare.BeginProcedure) _ j o (λ k.
      the_word word.End (syntax.top at_top.EndName) k o)))
  top_asks at_top.TypeName h o = named (name_of t) (λ m. act.Declare (declare.Type m)) h (λ m. o)
  top_asks at_top.Equals h o = the_sign sign.Equals (act.Declare declare.Equals) h o
  top_asks at_top.ExceptionName h o = named (name_of t) (λ m. act.Declare (declare.Exception m)) h (λ m. o)
  top_asks at_top.Semicolon h o = the_sign sign.Semicolon (syntax.top at_top.Declaration) h o
  top_asks at_top.EndName h o = named (name_of t) (λ m. act.Declare (declare.EndInterface m)) h (λ m. o)
  top_asks at_top.FullStop h o = the_sign sign.FullStop (syntax.top at_top.Nothing) h o
  top_asks at_top.Nothing h o = none _ h

  group_asks : group_row t ≡ Ok a → n < 256 → Asks a
  unfolding group_row
  group_asks h o =
      test (is_word t word.Var) (act.Procedure (step.Pass way_of.Var)) _ h o (λ i.
      named (name_of t) (λ m. act.Procedure (step.FirstParameter m)) i (λ m. o))

  raises_asks : raises_row t ≡ Ok a → n < 256 → Asks a
  unfolding raises_row
  raises_asks h o =
      test (is_word t word.Raises) (syntax.procedure at_procedure.OpenRaises) _ h o (λ i.
      the_sign sign.Semicolon (act.Procedure step.End) i o)

  procedure_asks : (at : AtProcedure) → act_in_procedure at t ≡ Ok a → n < 256 → Asks a
  unfolding act_in_procedure passing more_parameters groups_row more_raises
  procedure_asks at_procedure.Name h o = named (name_of t) (λ m. act.Declare (declare.Procedure m)) h (λ m. o)
  procedure_asks at_procedure.Open h o = the_sign sign.Open (syntax.procedure at_procedure.FirstGroup) h o
  procedure_asks at_procedure.FirstGroup h o =
      test (is_sign t sign.Close) (syntax.procedure at_procedure.Answer) _ h o (λ i. group_asks i o)
  procedure_asks at_procedure.Group h o = group_asks h o
  procedure_asks at_procedure.Way h o =
      test (is_word t word.In) (act.Procedure (step.Pass way_of.In)) _ h o (λ i.
      test (is_word t word.Out) (act.Procedure (step.Pass way_of.Out)) _ i o (λ j.
      named (name_of t) (λ m. act.Procedure (step.Parameter m)) j (λ m. o)))
  procedure_asks at_procedure.Parameter h o = named (name_of t) (λ m. act.Procedure (step.Parameter m)) h (λ m. o)
  procedure_asks at_procedure.MoreParameters h o =
      test (is_sign t sign.Comma) (syntax.procedure at_procedure.Parameter) _ h o (λ i.
      the_sign sign.Colon (act.Procedure step.TypeParameters) i o)
  procedure_asks at_procedure.MoreGroups h o =
      test (is_sign t sign.Semicolon) (syntax.procedure at_procedure.Group) _ h o (λ i.
      the_sign sign.Close (syntax.procedure at_procedure.Answer) i o)
  procedure_asks at_procedure.Answer h o = test (is_sign t sign.Colon) (act.Procedure step.TypeResult) _ h o (λ i. raises_asks i o)
  procedure_asks at_procedure.Raises h o = raises_asks h o
  procedure_asks at_procedure.OpenRaises h o = the_sign sign.OpenBrace (syntax.procedure at_procedure.Raise) h o
  procedure_asks at_procedure.Raise h o = named (name_of t) (λ m. act.Procedure (step.Raise m)) h (λ m. o)
  procedure_asks at_procedure.MoreRaises h o =
      test (is_sign t sign.Comma) (syntax.procedure at_procedure.Raise) _ h o (λ i.
      the_sign sign.CloseBrace (syntax.procedure at_procedure.Semicolon) i o)
  procedure_asks at_procedure.Semicolon h o = the_sign sign.Semicolon (act.Procedure step.End) h o

  basic_asks : (b : Option Basic) → basic_or_name t b ≡ Ok a → Open (expect.Type at_type.Begin) n w ty → Asks a
  basic_asks (Some b) h o = one (act.End (close.Basic b)) o h
  basic_asks None h o = named (name_of t) (λ m. act.End (close.Named m)) h (λ m. o)

  type_asks : (at : AtType) → act_in_type at t ≡ Ok a → Open (expect.Type at) n w ty → Asks a
  unfolding act_in_type begin_type more_values fields_row end_record
  type_asks at_type.Begin h o =
      test (is_word t word.Array) (act.Step part.BeginArray) _ h o (λ i.
      test (is_word t word.Record) (act.Step part.BeginRecord) _ i o (λ j.
      test (is_sign t sign.Open) (act.Step part.BeginValues) _ j o (λ k. basic_asks (basic_of t) k o)))
  type_asks at_type.Value h o = named (name_of t) (λ m. act.Step (part.Value m)) h (λ m. o)
  type_asks at_type.MoreValues h o =
      test (is_sign t sign.Comma) (syntax.in_type at_type.Value) _ h o (λ i. the_sign sign.Close (act.End close.Values) i o)
  type_asks at_type.Length h o =
      test (is_word t word.Of) (act.Step part.OpenArray) _ h o (λ i. number (number_of t) (λ m. act.Step (part.Length m)) i (λ m. o))
  type_asks at_type.Of h o = the_word word.Of (syntax.in_type at_type.Begin) h o
  type_asks at_type.Upto h o = the_word word.Upto (syntax.in_type at_type.Limit) h o
  type_asks at_type.Limit h o = number (number_of t) (λ m. act.End (close.Limit m)) h (λ m. o)
  type_asks at_type.Field h o = named (name_of t) (λ m. act.Step (part.Field m)) h (λ m. o)
  type_asks at_type.MoreFields h o =
      test (is_sign t sign.Comma) (syntax.in_type at_type.Field) _ h o (λ i. the_sign sign.Colon (act.Step part.TypeFields) i o)
  type_asks at_type.EndRecord h o =
      test (is_sign t sign.Semicolon) (act.Step part.NextFields) _ h o (λ i. the_word word.End (act.End close.Record) i o)

  pub row_asks : (e : Expect) → act_of e t ≡ Ok a → Open e n w ty → Asks a
  unfolding act_of
  row_asks (expect.Top at) h o = top_asks at h o
  row_asks (expect.Procedure at) h o = procedure_asks at h o
  row_asks (expect.Type at) h o = type_asks at h o
