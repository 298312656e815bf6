-- What the grammar has next the syntax has too, and what the grammar has behind it is to come.
use Rattle.std.proofs.Common.{◌≡◌, inl, inr, List, [], ◌∷◌, Result, Ok, refl, ap, ◌∙◌}
use Rattle.interface_text.specs.Grammar.{the_word, the_sign, a_name, a_type, Derives}
use Rattle.interface_tokens.specs.Syntax as syntax
use Rattle.interface_tokens.specs.Syntax.{is_word, is_sign, name_of, number_of, only_word, only_sign, declaration, act_at_top, group as group_row, passing, more_parameters, more_groups as groups_row, raises as raises_row, more_raises, act_in_procedure, basic_of, begin_type, more_values, more_fields as fields_row, end_record, act_in_type, act_of}
use Rattle.interface_text.specs.TypeRules.{Form}
use Rattle.interface_tokens.specs.declared.fault.Cause.{Cause}
use Rattle.interface_tokens.specs.declared.token.Token.{Token}
use Rattle.interface_tokens.specs.declared.token.Token.TheVariants as token
use Rattle.interface_tokens.specs.declared.token.Word.TheVariants as word
use Rattle.interface_tokens.specs.declared.token.Sign.TheVariants as sign
use Rattle.interface_text.specs.declared.reader.Within.{Within}
use Rattle.interface_tokens.specs.declared.expect.Expect.{Expect}
use Rattle.interface_tokens.specs.declared.expect.Expect.TheVariants as expect
use Rattle.interface_tokens.specs.declared.expect.AtTop.{AtTop}
use Rattle.interface_tokens.specs.declared.expect.AtTop.TheVariants as at_top
use Rattle.interface_tokens.specs.declared.expect.AtProcedure.{AtProcedure}
use Rattle.interface_tokens.specs.declared.expect.AtProcedure.TheVariants as at_procedure
use Rattle.interface_tokens.specs.declared.expect.AtType.{AtType}
use Rattle.interface_tokens.specs.declared.expect.AtType.TheVariants as at_type
use Rattle.interface_tokens.specs.declared.expect.Basic.TheVariants as basic
use Rattle.interface_tokens.specs.declared.expect.Way.TheVariants as way_of
use Rattle.interface_tokens.specs.declared.expect.Act.{Act}
use Rattle.interface_tokens.specs.declared.expect.Act.TheVariants as act
use Rattle.interface_tokens.specs.declared.expect.Declare.TheVariants as declare
use Rattle.interface_tokens.specs.declared.expect.InProcedure.TheVariants as step
use Rattle.interface_tokens.specs.declared.expect.TypeStep.TheVariants as part
use Rattle.interface_tokens.specs.declared.expect.TypeEnd.TheVariants as close
use Rattle.interface_text.proofs.Residue.{to_come, behind_act, at_the_top, in_the_procedure, in_the_type, behind_parameters, behind_answer, behind_group, behind_raises, of_group, the_end, behind_type, behind_record}
use Rattle.interface_text.proofs.Firsts.{word_first, sign_first, name_first, number_first, choose, none, declarations_made, parameters_made, group_made, more_groups_made, way_made, in_or_out_made, more_names_made, answer_made, raises_made, a_type_made, array_made, field_made, more_fields_made, field_opened}

module _ (t : Token) (us : List Token) (fs : List Form) (w : Within) where
  -- the syntax has an act for the token, and what the grammar has behind it is to come
  abbrev Next : (Token → Result Act Cause) → Type 0
  Next f = (a : Act) × (f t ≡ Ok a) × Derives (behind_act a fs w) us

  given : (f : Token → Result Act Cause) (k : Token) (a : Act) → t ≡ k → f k ≡ Ok a → Derives (behind_act a fs w) us → Next f
  given f k a e h d = (a, ap f e ∙ h, d)

  at_declaration : Derives (the_end) (t ∷ us) → Next (act_at_top at_top.Declaration)
  unfolding is_word is_sign name_of number_of only_word only_sign basic_of declaration act_at_top group_row passing more_parameters groups_row raises_row more_raises act_in_procedure begin_type more_values fields_row end_record act_in_type
  at_declaration d = let f = act_at_top at_top.Declaration in elim (choose t us _ _ (the_word word.End ∷ a_name ∷ the_sign sign.FullStop ∷ []) (declarations_made t us (the_word word.End ∷ a_name ∷ the_sign sign.FullStop ∷ []) d)) [ inl d00 ↦ (let x = word_first t us word.End _ d00 in given f (token.Word word.End) (syntax.top at_top.EndName) x.0 refl x.1) | inr m00 ↦ elim (choose t us _ _ (the_word word.End ∷ a_name ∷ the_sign sign.FullStop ∷ []) m00) [ inl d01 ↦ (let x = word_first t us word.Type _ d01 in given f (token.Word word.Type) (syntax.top at_top.TypeName) x.0 refl x.1) | inr m01 ↦ elim (choose t us _ _ (the_word word.End ∷ a_name ∷ the_sign sign.FullStop ∷ []) m01) [ inl d02 ↦ (let x = word_first t us word.Exception _ d02 in given f (token.Word word.Exception) (act.Declare declare.BeginException) x.0 refl x.1) | inr m02 ↦ elim (choose t us _ _ (the_word word.End ∷ a_name ∷ the_sign sign.FullStop ∷ []) m02) [ inl d03 ↦ (let x = word_first t us word.Procedure _ d03 in given f (token.Word word.Procedure) (act.Declare declare.BeginProcedure) x.0 refl x.1) | inr m03 ↦ absurd (none t us (the_word word.End ∷ a_name ∷ the_sign sign.FullStop ∷ []) m03) ] ] ] ]

  at_type_name : Derives (at_the_top at_top.TypeName) (t ∷ us) → Next (act_at_top at_top.TypeName)
  unfolding is_word is_sign name_of number_of only_word only_sign basic_of declaration act_at_top group_row passing more_parameters groups_row raises_row more_raises act_in_procedure begin_type more_values fields_row end_record act_in_type
  at_type_name d = let f = act_at_top at_top.TypeName in (let x = name_first t us _ d in given f (token.Name x.0) (act.Declare (declare.Type x.0)) x.1 refl x.2)

  at_equals : Derives (at_the_top at_top.Equals) (t ∷ us) → Next (act_at_top at_top.Equals)
  unfolding is_word is_sign name_of number_of only_word only_sign basic_of declaration act_at_top group_row passing more_parameters groups_row raises_row more_raises act_in_procedure begin_type more_values fields_row end_record act_in_type
  at_equals d = let f = act_at_top at_top.Equals in (let x = sign_first t us sign.Equals _ d in given f (token.Sign sign.Equals) (act.Declare declare.Equals) x.0 refl x.1)

  at_exception_name : Derives (at_the_top at_top.ExceptionName) (t ∷ us) → Next (act_at_top at_top.ExceptionName)
  unfolding is_word is_sign name_of number_of only_word only_sign basic_of declaration act_at_top group_row passing more_parameters groups_row raises_row more_raises act_in_procedure begin_type more_values fields_row end_record act_in_type
  at_exception_name d = let f = act_at_top at_top.ExceptionName in (let x = name_first t us _ d in given f (token.Name x.0) (act.Declare (declare.Exception x.0)) x.1 refl x.2)

  at_semicolon : Derives (at_the_top at_top.Semicolon) (t ∷ us) → Next (act_at_top at_top.Semicolon)
  unfolding is_word is_sign name_of number_of only_word only_sign basic_of declaration act_at_top group_row passing more_parameters groups_row raises_row more_raises act_in_procedure begin_type more_values fields_row end_record act_in_type
  at_semicolon d = let f = act_at_top at_top.Semicolon in (let x = sign_first t us sign.Semicolon _ d in given f (token.Sign sign.Semicolon) (syntax.top at_top.Declaration) x.0 refl x.1)

  at_end_name : Derives (at_the_top at_top.EndName) (t ∷ us) → Next (act_at_top at_top.EndName)
  unfolding is_word is_sign name_of number_of only_word only_sign basic_of declaration act_at_top group_row passing more_parameters groups_row raises_row more_raises act_in_procedure begin_type more_values fields_row end_record act_in_type
  at_end_name d = let f = act_at_top at_top.EndName in (let x = name_first t us _ d in given f (token.Name x.0) (act.Declare (declare.EndInterface x.0)) x.1 refl x.2)

  at_full_stop : Derives (at_the_top at_top.FullStop) (t ∷ us) → Next (act_at_top at_top.FullStop)
  unfolding is_word is_sign name_of number_of only_word only_sign basic_of declaration act_at_top group_row passing more_parameters groups_row raises_row more_raises act_in_procedure begin_type more_values fields_row end_record act_in_type
  at_full_stop d = let f = act_at_top at_top.FullStop in (let x = sign_first t us sign.FullStop _ d in given f (token.Sign sign.FullStop) (syntax.top at_top.Nothing) x.0 refl x.1)

  in_name : Derives (in_the_procedure at_procedure.Name) (t ∷ us) → Next (act_in_procedure at_procedure.Name)
  unfolding is_word is_sign name_of number_of only_word only_sign basic_of declaration act_at_top group_row passing more_parameters groups_row raises_row more_raises act_in_procedure begin_type more_values fields_row end_record act_in_type
  in_name d = let f = act_in_procedure at_procedure.Name in (let x = name_first t us _ d in given f (token.Name x.0) (act.Declare (declare.Procedure x.0)) x.1 refl x.2)

  in_open : Derives (in_the_procedure at_procedure.Open) (t ∷ us) → Next (act_in_procedure at_procedure.Open)
  unfolding is_word is_sign name_of number_of only_word only_sign basic_of declaration act_at_top group_row passing more_parameters groups_row raises_row more_raises act_in_procedure begin_type more_values fields_row end_record act_in_type
  in_open d = let f = act_in_procedure at_procedure.Open in (let x = sign_first t us sign.Open _ d in given f (token.Sign sign.Open) (syntax.procedure at_procedure.FirstGroup) x.0 refl x.1)

  in_first_group : Derives (in_the_procedure at_procedure.FirstGroup) (t ∷ us) → Next (act_in_procedure at_procedure.FirstGroup)
  unfolding is_word is_sign name_of number_of only_word only_sign basic_of declaration act_at_top group_row passing more_parameters groups_row raises_row more_raises act_in_procedure begin_type more_values fields_row end_record act_in_type
  in_first_group d = let f = act_in_procedure at_procedure.FirstGroup in elim (choose t us _ _ (the_sign sign.Close ∷ behind_parameters) (parameters_made t us (the_sign sign.Close ∷ behind_parameters) d)) [ inl d00 ↦ (let x = sign_first t us sign.Close _ d00 in given f (token.Sign sign.Close) (syntax.procedure at_procedure.Answer) x.0 refl x.1) | inr m00 ↦ elim (choose t us _ _ (the_sign sign.Close ∷ behind_parameters) m00) [ inl d01 ↦ elim (choose t us _ _ behind_group (group_made t us behind_group d01)) [ inl d10 ↦ elim (choose t us _ _ (a_name ∷ of_group) (way_made t us (a_name ∷ of_group) d10)) [ inl d20 ↦ (let x = name_first t us _ d20 in given f (token.Name x.0) (act.Procedure (step.FirstParameter x.0)) x.1 refl x.2) | inr m20 ↦ elim (choose t us _ _ (a_name ∷ of_group) m20) [ inl d21 ↦ (let x = word_first t us word.Var _ d21 in given f (token.Word word.Var) (act.Procedure (step.Pass way_of.Var)) x.0 refl x.1) | inr m21 ↦ absurd (none t us (a_name ∷ of_group) m21) ] ] | inr m10 ↦ absurd (none t us behind_group m10) ] | inr m01 ↦ absurd (none t us (the_sign sign.Close ∷ behind_parameters) m01) ] ]

  in_group : Derives (in_the_procedure at_procedure.Group) (t ∷ us) → Next (act_in_procedure at_procedure.Group)
  unfolding is_word is_sign name_of number_of only_word only_sign basic_of declaration act_at_top group_row passing more_parameters groups_row raises_row more_raises act_in_procedure begin_type more_values fields_row end_record act_in_type
  in_group d = let f = act_in_procedure at_procedure.Group in elim (choose t us _ _ behind_group (group_made t us behind_group d)) [ inl d00 ↦ elim (choose t us _ _ (a_name ∷ of_group) (way_made t us (a_name ∷ of_group) d00)) [ inl d10 ↦ (let x = name_first t us _ d10 in given f (token.Name x.0) (act.Procedure (step.FirstParameter x.0)) x.1 refl x.2) | inr m10 ↦ elim (choose t us _ _ (a_name ∷ of_group) m10) [ inl d11 ↦ (let x = word_first t us word.Var _ d11 in given f (token.Word word.Var) (act.Procedure (step.Pass way_of.Var)) x.0 refl x.1) | inr m11 ↦ absurd (none t us (a_name ∷ of_group) m11) ] ] | inr m00 ↦ absurd (none t us behind_group m00) ]

  in_way : Derives (in_the_procedure at_procedure.Way) (t ∷ us) → Next (act_in_procedure at_procedure.Way)
  unfolding is_word is_sign name_of number_of only_word only_sign basic_of declaration act_at_top group_row passing more_parameters groups_row raises_row more_raises act_in_procedure begin_type more_values fields_row end_record act_in_type
  in_way d = let f = act_in_procedure at_procedure.Way in elim (choose t us _ _ (a_name ∷ of_group) (in_or_out_made t us (a_name ∷ of_group) d)) [ inl d00 ↦ (let x = name_first t us _ d00 in given f (token.Name x.0) (act.Procedure (step.Parameter x.0)) x.1 refl x.2) | inr m00 ↦ elim (choose t us _ _ (a_name ∷ of_group) m00) [ inl d01 ↦ (let x = word_first t us word.In _ d01 in given f (token.Word word.In) (act.Procedure (step.Pass way_of.In)) x.0 refl x.1) | inr m01 ↦ elim (choose t us _ _ (a_name ∷ of_group) m01) [ inl d02 ↦ (let x = word_first t us word.Out _ d02 in given f (token.Word word.Out) (act.Procedure (step.Pass way_of.Out)) x.0 refl x.1) | inr m02 ↦ absurd (none t us (a_name ∷ of_group) m02) ] ] ]

  in_parameter : Derives (in_the_procedure at_procedure.Parameter) (t ∷ us) → Next (act_in_procedure at_procedure.Parameter)
  unfolding is_word is_sign name_of number_of only_word only_sign basic_of declaration act_at_top group_row passing more_parameters groups_row raises_row more_raises act_in_procedure begin_type more_values fields_row end_record act_in_type
  in_parameter d = let f = act_in_procedure at_procedure.Parameter in (let x = name_first t us _ d in given f (token.Name x.0) (act.Procedure (step.Parameter x.0)) x.1 refl x.2)

  in_more_parameters : Derives (in_the_procedure at_procedure.MoreParameters) (t ∷ us) → Next (act_in_procedure at_procedure.MoreParameters)
  unfolding is_word is_sign name_of number_of only_word only_sign basic_of declaration act_at_top group_row passing more_parameters groups_row raises_row more_raises act_in_procedure begin_type more_values fields_row end_record act_in_type
  in_more_parameters d = let f = act_in_procedure at_procedure.MoreParameters in elim (choose t us _ _ (the_sign sign.Colon ∷ a_type ∷ behind_group) (more_names_made t us (the_sign sign.Colon ∷ a_type ∷ behind_group) d)) [ inl d00 ↦ (let x = sign_first t us sign.Colon _ d00 in given f (token.Sign sign.Colon) (act.Procedure step.TypeParameters) x.0 refl x.1) | inr m00 ↦ elim (choose t us _ _ (the_sign sign.Colon ∷ a_type ∷ behind_group) m00) [ inl d01 ↦ (let x = sign_first t us sign.Comma _ d01 in given f (token.Sign sign.Comma) (syntax.procedure at_procedure.Parameter) x.0 refl x.1) | inr m01 ↦ absurd (none t us (the_sign sign.Colon ∷ a_type ∷ behind_group) m01) ] ]

  in_more_groups : Derives (in_the_procedure at_procedure.MoreGroups) (t ∷ us) → Next (act_in_procedure at_procedure.MoreGroups)
  unfolding is_word is_sign name_of number_of only_word only_sign basic_of declaration act_at_top group_row passing more_parameters groups_row raises_row more_raises act_in_procedure begin_type more_values fields_row end_record act_in_type
  in_more_groups d = let f = act_in_procedure at_procedure.MoreGroups in elim (choose t us _ _ (the_sign sign.Close ∷ behind_parameters) (more_groups_made t us (the_sign sign.Close ∷ behind_parameters) d)) [ inl d00 ↦ (let x = sign_first t us sign.Close _ d00 in given f (token.Sign sign.Close) (syntax.procedure at_procedure.Answer) x.0 refl x.1) | inr m00 ↦ elim (choose t us _ _ (the_sign sign.Close ∷ behind_parameters) m00) [ inl d01 ↦ (let x = sign_first t us sign.Semicolon _ d01 in given f (token.Sign sign.Semicolon) (syntax.procedure at_procedure.Group) x.0 refl x.1) | inr m01 ↦ absurd (none t us (the_sign sign.Close ∷ behind_parameters) m01) ] ]

  in_answer : Derives (in_the_procedure at_procedure.Answer) (t ∷ us) → Next (act_in_procedure at_procedure.Answer)
  unfolding is_word is_sign name_of number_of only_word only_sign basic_of declaration act_at_top group_row passing more_parameters groups_row raises_row more_raises act_in_procedure begin_type more_values fields_row end_record act_in_type
  in_answer d = let f = act_in_procedure at_procedure.Answer in elim (choose t us _ _ behind_answer (answer_made t us behind_answer d)) [ inl d00 ↦ elim (choose t us _ _ behind_raises (raises_made t us behind_raises d00)) [ inl d10 ↦ (let x = sign_first t us sign.Semicolon _ d10 in given f (token.Sign sign.Semicolon) (act.Procedure step.End) x.0 refl x.1) | inr m10 ↦ elim (choose t us _ _ behind_raises m10) [ inl d11 ↦ (let x = word_first t us word.Raises _ d11 in given f (token.Word word.Raises) (syntax.procedure at_procedure.OpenRaises) x.0 refl x.1) | inr m11 ↦ absurd (none t us behind_raises m11) ] ] | inr m00 ↦ elim (choose t us _ _ behind_answer m00) [ inl d01 ↦ (let x = sign_first t us sign.Colon _ d01 in given f (token.Sign sign.Colon) (act.Procedure step.TypeResult) x.0 refl x.1) | inr m01 ↦ absurd (none t us behind_answer m01) ] ]

  in_raises : Derives (in_the_procedure at_procedure.Raises) (t ∷ us) → Next (act_in_procedure at_procedure.Raises)
  unfolding is_word is_sign name_of number_of only_word only_sign basic_of declaration act_at_top group_row passing more_parameters groups_row raises_row more_raises act_in_procedure begin_type more_values fields_row end_record act_in_type
  in_raises d = let f = act_in_procedure at_procedure.Raises in elim (choose t us _ _ behind_raises (raises_made t us behind_raises d)) [ inl d00 ↦ (let x = sign_first t us sign.Semicolon _ d00 in given f (token.Sign sign.Semicolon) (act.Procedure step.End) x.0 refl x.1) | inr m00 ↦ elim (choose t us _ _ behind_raises m00) [ inl d01 ↦ (let x = word_first t us word.Raises _ d01 in given f (token.Word word.Raises) (syntax.procedure at_procedure.OpenRaises) x.0 refl x.1) | inr m01 ↦ absurd (none t us behind_raises m01) ] ]

  in_open_raises : Derives (in_the_procedure at_procedure.OpenRaises) (t ∷ us) → Next (act_in_procedure at_procedure.OpenRaises)
  unfolding is_word is_sign name_of number_of only_word only_sign basic_of declaration act_at_top group_row passing more_parameters groups_row raises_row more_raises act_in_procedure begin_type more_values fields_row end_record act_in_type
  in_open_raises d = let f = act_in_procedure at_procedure.OpenRaises in (let x = sign_first t us sign.OpenBrace _ d in given f (token.Sign sign.OpenBrace) (syntax.procedure at_procedure.Raise) x.0 refl x.1)

  in_raise : Derives (in_the_procedure at_procedure.Raise) (t ∷ us) → Next (act_in_procedure at_procedure.Raise)
  unfolding is_word is_sign name_of number_of only_word only_sign basic_of declaration act_at_top group_row passing more_parameters groups_row raises_row more_raises act_in_procedure begin_type more_values fields_row end_record act_in_type
  in_raise d = let f = act_in_procedure at_procedure.Raise in (let x = name_first t us _ d in given f (token.Name x.0) (act.Procedure (step.Raise x.0)) x.1 refl x.2)

  in_more_raises : Derives (in_the_procedure at_procedure.MoreRaises) (t ∷ us) → Next (act_in_procedure at_procedure.MoreRaises)
  unfolding is_word is_sign name_of number_of only_word only_sign basic_of declaration act_at_top group_row passing more_parameters groups_row raises_row more_raises act_in_procedure begin_type more_values fields_row end_record act_in_type
  in_more_raises d = let f = act_in_procedure at_procedure.MoreRaises in elim (choose t us _ _ (the_sign sign.CloseBrace ∷ behind_raises) (more_names_made t us (the_sign sign.CloseBrace ∷ behind_raises) d)) [ inl d00 ↦ (let x = sign_first t us sign.CloseBrace _ d00 in given f (token.Sign sign.CloseBrace) (syntax.procedure at_procedure.Semicolon) x.0 refl x.1) | inr m00 ↦ elim (choose t us _ _ (the_sign sign.CloseBrace ∷ behind_raises) m00) [ inl d01 ↦ (let x = sign_first t us sign.Comma _ d01 in given f (token.Sign sign.Comma) (syntax.procedure at_procedure.Raise) x.0 refl x.1) | inr m01 ↦ absurd (none t us (the_sign sign.CloseBrace ∷ behind_raises) m01) ] ]

  in_semicolon : Derives (in_the_procedure at_procedure.Semicolon) (t ∷ us) → Next (act_in_procedure at_procedure.Semicolon)
  unfolding is_word is_sign name_of number_of only_word only_sign basic_of declaration act_at_top group_row passing more_parameters groups_row raises_row more_raises act_in_procedure begin_type more_values fields_row end_record act_in_type
  in_semicolon d = let f = act_in_procedure at_procedure.Semicolon in (let x = sign_first t us sign.Semicolon _ d in given f (token.Sign sign.Semicolon) (act.Procedure step.End) x.0 refl x.1)

  of_begin : Derives (in_the_type at_type.Begin fs w) (t ∷ us) → Next (act_in_type at_type.Begin)
  unfolding is_word is_sign name_of number_of only_word only_sign basic_of declaration act_at_top group_row passing more_parameters groups_row raises_row more_raises act_in_procedure begin_type more_values fields_row end_record act_in_type
  of_begin d = let f = act_in_type at_type.Begin in elim (choose t us _ _ (behind_type fs w) (a_type_made t us (behind_type fs w) d)) [ inl d00 ↦ (let x = word_first t us word.Boolean _ d00 in given f (token.Word word.Boolean) (act.End (close.Basic basic.Boolean)) x.0 refl x.1) | inr m00 ↦ elim (choose t us _ _ (behind_type fs w) m00) [ inl d01 ↦ (let x = word_first t us word.Byte _ d01 in given f (token.Word word.Byte) (act.End (close.Basic basic.Byte)) x.0 refl x.1) | inr m01 ↦ elim (choose t us _ _ (behind_type fs w) m01) [ inl d02 ↦ (let x = word_first t us word.Char _ d02 in given f (token.Word word.Char) (act.End (close.Basic basic.Byte)) x.0 refl x.1) | inr m02 ↦ elim (choose t us _ _ (behind_type fs w) m02) [ inl d03 ↦ (let x = word_first t us word.Cardinal _ d03 in given f (token.Word word.Cardinal) (act.End (close.Basic basic.Cardinal)) x.0 refl x.1) | inr m03 ↦ elim (choose t us _ _ (behind_type fs w) m03) [ inl d04 ↦ (let x = word_first t us word.Integer _ d04 in given f (token.Word word.Integer) (act.End (close.Basic basic.Integer)) x.0 refl x.1) | inr m04 ↦ elim (choose t us _ _ (behind_type fs w) m04) [ inl d05 ↦ (let x = word_first t us word.Longcard _ d05 in given f (token.Word word.Longcard) (act.End (close.Basic basic.Longcard)) x.0 refl x.1) | inr m05 ↦ elim (choose t us _ _ (behind_type fs w) m05) [ inl d06 ↦ (let x = name_first t us _ d06 in given f (token.Name x.0) (act.End (close.Named x.0)) x.1 refl x.2) | inr m06 ↦ elim (choose t us _ _ (behind_type fs w) m06) [ inl d07 ↦ (let x = sign_first t us sign.Open _ d07 in given f (token.Sign sign.Open) (act.Step part.BeginValues) x.0 refl x.1) | inr m07 ↦ elim (choose t us _ _ (behind_type fs w) m07) [ inl d08 ↦ (let x = word_first t us word.Array _ d08 in given f (token.Word word.Array) (act.Step part.BeginArray) x.0 refl x.1) | inr m08 ↦ elim (choose t us _ _ (behind_type fs w) m08) [ inl d09 ↦ (let x = word_first t us word.Record _ d09 in given f (token.Word word.Record) (act.Step part.BeginRecord) x.0 refl (field_opened _ us x.1)) | inr m09 ↦ absurd (none t us (behind_type fs w) m09) ] ] ] ] ] ] ] ] ] ]

  of_value : Derives (in_the_type at_type.Value fs w) (t ∷ us) → Next (act_in_type at_type.Value)
  unfolding is_word is_sign name_of number_of only_word only_sign basic_of declaration act_at_top group_row passing more_parameters groups_row raises_row more_raises act_in_procedure begin_type more_values fields_row end_record act_in_type
  of_value d = let f = act_in_type at_type.Value in (let x = name_first t us _ d in given f (token.Name x.0) (act.Step (part.Value x.0)) x.1 refl x.2)

  of_more_values : Derives (in_the_type at_type.MoreValues fs w) (t ∷ us) → Next (act_in_type at_type.MoreValues)
  unfolding is_word is_sign name_of number_of only_word only_sign basic_of declaration act_at_top group_row passing more_parameters groups_row raises_row more_raises act_in_procedure begin_type more_values fields_row end_record act_in_type
  of_more_values d = let f = act_in_type at_type.MoreValues in elim (choose t us _ _ (the_sign sign.Close ∷ behind_type fs w) (more_names_made t us (the_sign sign.Close ∷ behind_type fs w) d)) [ inl d00 ↦ (let x = sign_first t us sign.Close _ d00 in given f (token.Sign sign.Close) (act.End close.Values) x.0 refl x.1) | inr m00 ↦ elim (choose t us _ _ (the_sign sign.Close ∷ behind_type fs w) m00) [ inl d01 ↦ (let x = sign_first t us sign.Comma _ d01 in given f (token.Sign sign.Comma) (syntax.in_type at_type.Value) x.0 refl x.1) | inr m01 ↦ absurd (none t us (the_sign sign.Close ∷ behind_type fs w) m01) ] ]

  of_length : Derives (in_the_type at_type.Length fs w) (t ∷ us) → Next (act_in_type at_type.Length)
  unfolding is_word is_sign name_of number_of only_word only_sign basic_of declaration act_at_top group_row passing more_parameters groups_row raises_row more_raises act_in_procedure begin_type more_values fields_row end_record act_in_type
  of_length d = let f = act_in_type at_type.Length in elim (choose t us _ _ (behind_type fs w) (array_made t us (behind_type fs w) d)) [ inl d00 ↦ (let x = number_first t us _ d00 in given f (token.Number x.0) (act.Step (part.Length x.0)) x.1 refl x.2) | inr m00 ↦ elim (choose t us _ _ (behind_type fs w) m00) [ inl d01 ↦ (let x = word_first t us word.Of _ d01 in given f (token.Word word.Of) (act.Step part.OpenArray) x.0 refl x.1) | inr m01 ↦ absurd (none t us (behind_type fs w) m01) ] ]

  of_of : Derives (in_the_type at_type.Of fs w) (t ∷ us) → Next (act_in_type at_type.Of)
  unfolding is_word is_sign name_of number_of only_word only_sign basic_of declaration act_at_top group_row passing more_parameters groups_row raises_row more_raises act_in_procedure begin_type more_values fields_row end_record act_in_type
  of_of d = let f = act_in_type at_type.Of in (let x = word_first t us word.Of _ d in given f (token.Word word.Of) (syntax.in_type at_type.Begin) x.0 refl x.1)

  of_upto : Derives (in_the_type at_type.Upto fs w) (t ∷ us) → Next (act_in_type at_type.Upto)
  unfolding is_word is_sign name_of number_of only_word only_sign basic_of declaration act_at_top group_row passing more_parameters groups_row raises_row more_raises act_in_procedure begin_type more_values fields_row end_record act_in_type
  of_upto d = let f = act_in_type at_type.Upto in (let x = word_first t us word.Upto _ d in given f (token.Word word.Upto) (syntax.in_type at_type.Limit) x.0 refl x.1)

  of_limit : Derives (in_the_type at_type.Limit fs w) (t ∷ us) → Next (act_in_type at_type.Limit)
  unfolding is_word is_sign name_of number_of only_word only_sign basic_of declaration act_at_top group_row passing more_parameters groups_row raises_row more_raises act_in_procedure begin_type more_values fields_row end_record act_in_type
  of_limit d = let f = act_in_type at_type.Limit in (let x = number_first t us _ d in given f (token.Number x.0) (act.End (close.Limit x.0)) x.1 refl x.2)

  of_field : Derives (in_the_type at_type.Field fs w) (t ∷ us) → Next (act_in_type at_type.Field)
  unfolding is_word is_sign name_of number_of only_word only_sign basic_of declaration act_at_top group_row passing more_parameters groups_row raises_row more_raises act_in_procedure begin_type more_values fields_row end_record act_in_type
  of_field d = let f = act_in_type at_type.Field in (let x = name_first t us _ d in given f (token.Name x.0) (act.Step (part.Field x.0)) x.1 refl x.2)

  of_more_fields : Derives (in_the_type at_type.MoreFields fs w) (t ∷ us) → Next (act_in_type at_type.MoreFields)
  unfolding is_word is_sign name_of number_of only_word only_sign basic_of declaration act_at_top group_row passing more_parameters groups_row raises_row more_raises act_in_procedure begin_type more_values fields_row end_record act_in_type
  of_more_fields d = let f = act_in_type at_type.MoreFields in elim (choose t us _ _ (the_sign sign.Colon ∷ a_type ∷ behind_type fs w) (more_names_made t us (the_sign sign.Colon ∷ a_type ∷ behind_type fs w) d)) [ inl d00 ↦ (let x = sign_first t us sign.Colon _ d00 in given f (token.Sign sign.Colon) (act.Step part.TypeFields) x.0 refl x.1) | inr m00 ↦ elim (choose t us _ _ (the_sign sign.Colon ∷ a_type ∷ behind_type fs w) m00) [ inl d01 ↦ (let x = sign_first t us sign.Comma _ d01 in given f (token.Sign sign.Comma) (syntax.in_type at_type.Field) x.0 refl x.1) | inr m01 ↦ absurd (none t us (the_sign sign.Colon ∷ a_type ∷ behind_type fs w) m01) ] ]

  of_end_record : Derives (in_the_type at_type.EndRecord fs w) (t ∷ us) → Next (act_in_type at_type.EndRecord)
  unfolding is_word is_sign name_of number_of only_word only_sign basic_of declaration act_at_top group_row passing more_parameters groups_row raises_row more_raises act_in_procedure begin_type more_values fields_row end_record act_in_type
  of_end_record d = let f = act_in_type at_type.EndRecord in elim (choose t us _ _ (the_word word.End ∷ behind_record fs w) (more_fields_made t us (the_word word.End ∷ behind_record fs w) d)) [ inl d00 ↦ (let x = word_first t us word.End _ d00 in given f (token.Word word.End) (act.End close.Record) x.0 refl x.1) | inr m00 ↦ elim (choose t us _ _ (the_word word.End ∷ behind_record fs w) m00) [ inl d01 ↦ (let x = sign_first t us sign.Semicolon _ d01 in given f (token.Sign sign.Semicolon) (act.Step part.NextFields) x.0 refl (field_opened _ us x.1)) | inr m01 ↦ absurd (none t us (the_word word.End ∷ behind_record fs w) m01) ] ]

  top_next : (at : AtTop) → Derives (at_the_top at) (t ∷ us) → Next (act_at_top at)
  top_next at_top.Declaration d = at_declaration d
  top_next at_top.TypeName d = at_type_name d
  top_next at_top.Equals d = at_equals d
  top_next at_top.ExceptionName d = at_exception_name d
  top_next at_top.Semicolon d = at_semicolon d
  top_next at_top.EndName d = at_end_name d
  top_next at_top.FullStop d = at_full_stop d
  top_next at_top.Nothing d = elim d [ ]

  procedure_next : (at : AtProcedure) → Derives (in_the_procedure at) (t ∷ us) → Next (act_in_procedure at)
  procedure_next at_procedure.Name d = in_name d
  procedure_next at_procedure.Open d = in_open d
  procedure_next at_procedure.FirstGroup d = in_first_group d
  procedure_next at_procedure.Group d = in_group d
  procedure_next at_procedure.Way d = in_way d
  procedure_next at_procedure.Parameter d = in_parameter d
  procedure_next at_procedure.MoreParameters d = in_more_parameters d
  procedure_next at_procedure.MoreGroups d = in_more_groups d
  procedure_next at_procedure.Answer d = in_answer d
  procedure_next at_procedure.Raises d = in_raises d
  procedure_next at_procedure.OpenRaises d = in_open_raises d
  procedure_next at_procedure.Raise d = in_raise d
  procedure_next at_procedure.MoreRaises d = in_more_raises d
  procedure_next at_procedure.Semicolon d = in_semicolon d

  type_next : (at : AtType) → Derives (in_the_type at fs w) (t ∷ us) → Next (act_in_type at)
  type_next at_type.Begin d = of_begin d
  type_next at_type.Value d = of_value d
  type_next at_type.MoreValues d = of_more_values d
  type_next at_type.Length d = of_length d
  type_next at_type.Of d = of_of d
  type_next at_type.Upto d = of_upto d
  type_next at_type.Limit d = of_limit d
  type_next at_type.Field d = of_field d
  type_next at_type.MoreFields d = of_more_fields d
  type_next at_type.EndRecord d = of_end_record d

  -- what the grammar has next the syntax has
  pub next_act : (e : Expect) → Derives (to_come e fs w) (t ∷ us) → Next (act_of e)
  unfolding act_of
  next_act (expect.Top at) d = top_next at d
  next_act (expect.Procedure at) d = procedure_next at d
  next_act (expect.Type at) d = type_next at d
