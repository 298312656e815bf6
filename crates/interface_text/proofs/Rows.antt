-- Each row of the syntax keeps to the grammar: what is to come before its token derives the token and what is to come behind it.
use Rattle.std.proofs.Common.{◌≡◌, ◌⊎◌, inl, inr, ℕ, Bool, true, false, cond, List, [], ◌∷◌, ◌++◌, Option, Some, None, Result, Ok, Err, refl, sym, subst}
use Rattle.std.specs.Prelude.{slice_get, ◌||◌}
use Rattle.interface_tokens.specs.Outcome.{◌>>=◌}
use Rattle.interface_text.specs.Grammar.{Symbol, the_word, the_sign, a_name, a_number, declarations, parameters, group, more_groups, way, in_or_out, more_names, answer, raises, a_type, array, field, more_fields, productions, Derives, by_word, by_sign, by_name, by_number, by_production}
use Rattle.interface_tokens.specs.Syntax as syntax
use Rattle.interface_tokens.specs.Syntax.{is_word, is_sign, name_of, number_of, only_word, only_sign, declaration, act_at_top, group as group_row, passing, more_parameters, more_groups as groups_row, raises as raises_row, more_raises, act_in_procedure, basic_of, basic_or_name, begin_type, more_values, more_fields as fields_row, end_record, act_in_type, act_of}
use Rattle.interface_text.specs.TypeRules.{Form}
use Rattle.interface_tokens.specs.declared.fault.Cause.{Cause}
use Rattle.interface_tokens.specs.declared.token.Token.{Token}
use Rattle.interface_tokens.specs.declared.token.Word.{Word}
use Rattle.interface_tokens.specs.declared.token.Word.TheVariants as word
use Rattle.interface_tokens.specs.declared.token.Sign.{Sign}
use Rattle.interface_tokens.specs.declared.token.Sign.TheVariants as sign
use Rattle.interface_text.specs.declared.reader.Within.{Within}
use Rattle.interface_tokens.specs.declared.expect.Expect.{Expect}
use Rattle.interface_tokens.specs.declared.expect.Expect.TheVariants as expect
use Rattle.interface_tokens.specs.declared.expect.AtTop.{AtTop}
use Rattle.interface_tokens.specs.declared.expect.AtTop.TheVariants as at_top
use Rattle.interface_tokens.specs.declared.expect.AtProcedure.{AtProcedure}
use Rattle.interface_tokens.specs.declared.expect.AtProcedure.TheVariants as at_procedure
use Rattle.interface_tokens.specs.declared.expect.AtType.{AtType}
use Rattle.interface_tokens.specs.declared.expect.AtType.TheVariants as at_type
use Rattle.interface_tokens.specs.declared.expect.Basic.{Basic}
use Rattle.interface_tokens.specs.declared.expect.Way.TheVariants as way_of
use Rattle.interface_tokens.specs.declared.expect.Act.{Act}
use Rattle.interface_tokens.specs.declared.expect.Act.TheVariants as act
use Rattle.interface_tokens.specs.declared.expect.Declare.TheVariants as declare
use Rattle.interface_tokens.specs.declared.expect.InProcedure.TheVariants as step
use Rattle.interface_tokens.specs.declared.expect.TypeStep.TheVariants as part
use Rattle.interface_tokens.specs.declared.expect.TypeEnd.TheVariants as close
use Rattle.interface_text.proofs.Residue.{to_come, behind_act, at_the_top, in_the_procedure, in_the_type, behind_answer, behind_group, of_group, of_raises, of_values, of_fields, the_end, behind_type, behind_record}

-- what a row gives, where it gives an act
abbrev Row : Type 0
Row = Result Act Cause

abbrev ok : Act → Row
ok a = Ok a

-- which way a test went
which : (b : Bool) (x y : Row) (a : Act) → cond b x y ≡ Ok a → ((b ≡ true) × (x ≡ Ok a)) ⊎ ((b ≡ false) × (y ≡ Ok a))
which true x y a h = inl (refl, h)
which false x y a h = inr (refl, h)

-- a name or a number, and the act that it gives
named : (r : Result (List ℕ) Cause) (f : List ℕ → Act) (a : Act) → (r >>= λ n. ok (f n)) ≡ Ok a → (n : List ℕ) × (r ≡ Ok n) × (f n ≡ a)
named (Ok n) f a h = (n, refl, cc)
named (Err c) f a h = cc

numbered : (r : Result ℕ Cause) (f : ℕ → Act) (a : Act) → (r >>= λ n. ok (f n)) ≡ Ok a → (n : ℕ) × (r ≡ Ok n) × (f n ≡ a)
numbered (Ok n) f a h = (n, refl, cc)
numbered (Err c) f a h = cc

not_ok : (c : Cause) (a : Act) → Err c ≡ ok a → ⊥
not_ok c a h = cc

which_some : (b : Bool) (x y : Option Basic) (z : Basic) → cond b x y ≡ Some z → (b ≡ true) ⊎ (y ≡ Some z)
which_some true x y z h = inl refl
which_some false x y z h = inr h

or_true : (p q : Bool) → p || q ≡ true → (p ≡ true) ⊎ (q ≡ true)
or_true true q h = inl refl
or_true false q h = inr h

IsBasic : Token → Type 0
IsBasic t = (v : Word) × (i : ℕ) × (slice_get (productions a_type) i ≡ Some (the_word v ∷ [])) × (is_word t v ≡ true)

no_basic : (z : Basic) → None ≡ Some z → ⊥
no_basic z h = cc

-- a basic type is one word
basic_word : (t : Token) (z : Basic) → basic_of t ≡ Some z → IsBasic t
unfolding basic_of IsBasic
basic_word t z h = elim (which_some (is_word t word.Boolean) _ _ z h) [
  | inl p ↦ (word.Boolean, 0, refl, p)
  | inr p ↦ elim (which_some (is_word t word.Byte || is_word t word.Char) _ _ z p) [
    | inl q ↦ elim (or_true (is_word t word.Byte) (is_word t word.Char) q) [ inl r ↦ (word.Byte, 1, refl, r) | inr r ↦ (word.Char, 2, refl, r) ]
    | inr q ↦ elim (which_some (is_word t word.Cardinal) _ _ z q) [
      | inl r ↦ (word.Cardinal, 3, refl, r)
      | inr r ↦ elim (which_some (is_word t word.Integer) _ _ z r) [
        | inl s ↦ (word.Integer, 4, refl, s)
        | inr s ↦ elim (which_some (is_word t word.Longcard) _ _ z s)
            [ inl u ↦ (word.Longcard, 5, refl, u) | inr u ↦ absurd (no_basic z u) ]
      ]
    ]
  ]
]

module _ (fs : List Form) (w : Within) (us : List Token) (t : Token) (a : Act) where
  -- what is to come behind the act is derived
  abbrev Left : Type 0
  Left = Derives (behind_act a fs w) us

  moved : (b : Act) → Left → ok b ≡ Ok a → Derives (behind_act b fs w) us
  moved b l h = let e : a ≡ b = cc in subst (λ (x : Act). Derives (behind_act x fs w) us) e l

  renamed : (b : Act) → Left → b ≡ a → Derives (behind_act b fs w) us
  renamed b l h = subst (λ (x : Act). Derives (behind_act x fs w) us) (sym h) l

  word_row : (v : Word) (b : Act) → Left → only_word t v b ≡ Ok a → Derives (the_word v ∷ behind_act b fs w) (t ∷ us)
  unfolding only_word
  word_row v b l h = elim (which (is_word t v) (Ok b) _ a h)
      [ inl p ↦ by_word v t (behind_act b fs w) us p.0 (moved b l p.1) | inr p ↦ absurd (not_ok _ a p.1) ]

  sign_row : (s : Sign) (b : Act) → Left → only_sign t s b ≡ Ok a → Derives (the_sign s ∷ behind_act b fs w) (t ∷ us)
  unfolding only_sign
  sign_row s b l h = elim (which (is_sign t s) (Ok b) _ a h)
      [ inl p ↦ by_sign s t (behind_act b fs w) us p.0 (moved b l p.1) | inr p ↦ absurd (not_ok _ a p.1) ]

  -- a name, behind which the same is to come whichever name it is
  name_row : (f : List ℕ → Act) (γ : List Symbol) → ((n : List ℕ) → behind_act (f n) fs w ≡ γ) → Left → (name_of t >>= λ n. ok (f n)) ≡ Ok a
      → Derives (a_name ∷ γ) (t ∷ us)
  name_row f γ same l h =
      let n = named (name_of t) f a h in
      by_name n.0 t γ us n.1 (subst (λ (δ : List Symbol). Derives δ us) (same n.0) (renamed (f n.0) l n.2))

  number_row : (f : ℕ → Act) (γ : List Symbol) → ((n : ℕ) → behind_act (f n) fs w ≡ γ) → Left → (number_of t >>= λ n. ok (f n)) ≡ Ok a
      → Derives (a_number ∷ γ) (t ∷ us)
  number_row f γ same l h =
      let n = numbered (number_of t) f a h in
      by_number n.0 t γ us n.1 (subst (λ (δ : List Symbol). Derives δ us) (same n.0) (renamed (f n.0) l n.2))

  -- one production of a part
  made : (s : Symbol) (i : ℕ) (p γ : List Symbol) → slice_get (productions s) i ≡ Some p → Derives (p ++ γ) (t ∷ us) → Derives (s ∷ γ) (t ∷ us)
  made s i p γ e d = by_production s i p γ (t ∷ us) e d

  declaration_row : Left → declaration t ≡ Ok a → Derives the_end (t ∷ us)
  unfolding declaration
  declaration_row l h = elim (which (is_word t word.Type) (ok (syntax.top at_top.TypeName)) _ a h) [
    | inl p ↦ made declarations 1 _ _ refl (by_word word.Type t _ us p.0 (moved (syntax.top at_top.TypeName) l p.1))
    | inr p ↦ elim (which (is_word t word.Exception) (ok (act.Declare declare.BeginException)) _ a p.1) [
      | inl q ↦ made declarations 2 _ _ refl (by_word word.Exception t _ us q.0 (moved (act.Declare declare.BeginException) l q.1))
      | inr q ↦ elim (which (is_word t word.Procedure) (ok (act.Declare declare.BeginProcedure)) _ a q.1) [
        | inl r ↦ made declarations 3 _ _ refl (by_word word.Procedure t _ us r.0 (moved (act.Declare declare.BeginProcedure) l r.1))
        | inr r ↦ made declarations 0 [] _ refl (word_row word.End (syntax.top at_top.EndName) l r.1)
      ]
    ]
  ]

  top_row : (at : AtTop) → Left → act_at_top at t ≡ Ok a → Derives (at_the_top at) (t ∷ us)
  unfolding act_at_top
  top_row at_top.Declaration l h = declaration_row l h
  top_row at_top.TypeName l h = name_row (λ n. act.Declare (declare.Type n)) _ (λ n. refl) l h
  top_row at_top.Equals l h = sign_row sign.Equals (act.Declare declare.Equals) l h
  top_row at_top.ExceptionName l h = name_row (λ n. act.Declare (declare.Exception n)) _ (λ n. refl) l h
  top_row at_top.Semicolon l h = sign_row sign.Semicolon (syntax.top at_top.Declaration) l h
  top_row at_top.EndName l h = name_row (λ n. act.Declare (declare.EndInterface n)) _ (λ n. refl) l h
  top_row at_top.FullStop l h = sign_row sign.FullStop (syntax.top at_top.Nothing) l h
  top_row at_top.Nothing l h = absurd (not_ok _ a h)

  group_is : Left → group_row t ≡ Ok a → Derives (group ∷ behind_group) (t ∷ us)
  unfolding group_row
  group_is l h = made group 0 _ _ refl (elim (which (is_word t word.Var) (ok (act.Procedure (step.Pass way_of.Var))) _ a h) [
    | inl p ↦ made way 1 _ _ refl (by_word word.Var t _ us p.0 (moved (act.Procedure (step.Pass way_of.Var)) l p.1))
    | inr p ↦ made way 0 [] _ refl (name_row (λ n. act.Procedure (step.FirstParameter n)) _ (λ n. refl) l p.1)
  ])

  way_is : Left → passing t ≡ Ok a → Derives (in_or_out ∷ a_name ∷ of_group) (t ∷ us)
  unfolding passing
  way_is l h = elim (which (is_word t word.In) (ok (act.Procedure (step.Pass way_of.In))) _ a h) [
    | inl p ↦ made in_or_out 1 _ _ refl (by_word word.In t _ us p.0 (moved (act.Procedure (step.Pass way_of.In)) l p.1))
    | inr p ↦ elim (which (is_word t word.Out) (ok (act.Procedure (step.Pass way_of.Out))) _ a p.1) [
      | inl q ↦ made in_or_out 2 _ _ refl (by_word word.Out t _ us q.0 (moved (act.Procedure (step.Pass way_of.Out)) l q.1))
      | inr q ↦ made in_or_out 0 [] _ refl (name_row (λ n. act.Procedure (step.Parameter n)) _ (λ n. refl) l q.1)
    ]
  ]

  parameters_are : Left → more_parameters t ≡ Ok a → Derives of_group (t ∷ us)
  unfolding more_parameters
  parameters_are l h = elim (which (is_sign t sign.Comma) (ok (syntax.procedure at_procedure.Parameter)) _ a h) [
    | inl p ↦ made more_names 1 _ _ refl (by_sign sign.Comma t _ us p.0 (moved (syntax.procedure at_procedure.Parameter) l p.1))
    | inr p ↦ made more_names 0 [] _ refl (sign_row sign.Colon (act.Procedure step.TypeParameters) l p.1)
  ]

  groups_are : Left → groups_row t ≡ Ok a → Derives behind_group (t ∷ us)
  unfolding groups_row
  groups_are l h = elim (which (is_sign t sign.Semicolon) (ok (syntax.procedure at_procedure.Group)) _ a h) [
    | inl p ↦ made more_groups 1 _ _ refl (by_sign sign.Semicolon t _ us p.0 (moved (syntax.procedure at_procedure.Group) l p.1))
    | inr p ↦ made more_groups 0 [] _ refl (sign_row sign.Close (syntax.procedure at_procedure.Answer) l p.1)
  ]

  raises_are : Left → raises_row t ≡ Ok a → Derives behind_answer (t ∷ us)
  unfolding raises_row
  raises_are l h = elim (which (is_word t word.Raises) (ok (syntax.procedure at_procedure.OpenRaises)) _ a h) [
    | inl p ↦ made raises 1 _ _ refl (by_word word.Raises t _ us p.0 (moved (syntax.procedure at_procedure.OpenRaises) l p.1))
    | inr p ↦ made raises 0 [] _ refl (sign_row sign.Semicolon (act.Procedure step.End) l p.1)
  ]

  more_raises_are : Left → more_raises t ≡ Ok a → Derives of_raises (t ∷ us)
  unfolding more_raises
  more_raises_are l h = elim (which (is_sign t sign.Comma) (ok (syntax.procedure at_procedure.Raise)) _ a h) [
    | inl p ↦ made more_names 1 _ _ refl (by_sign sign.Comma t _ us p.0 (moved (syntax.procedure at_procedure.Raise) l p.1))
    | inr p ↦ made more_names 0 [] _ refl (sign_row sign.CloseBrace (syntax.procedure at_procedure.Semicolon) l p.1)
  ]

  procedure_row : (at : AtProcedure) → Left → act_in_procedure at t ≡ Ok a → Derives (in_the_procedure at) (t ∷ us)
  unfolding act_in_procedure
  procedure_row at_procedure.Name l h = name_row (λ n. act.Declare (declare.Procedure n)) _ (λ n. refl) l h
  procedure_row at_procedure.Open l h = sign_row sign.Open (syntax.procedure at_procedure.FirstGroup) l h
  procedure_row at_procedure.FirstGroup l h = elim (which (is_sign t sign.Close) (ok (syntax.procedure at_procedure.Answer)) _ a h) [
    | inl p ↦ made parameters 0 [] _ refl (by_sign sign.Close t _ us p.0 (moved (syntax.procedure at_procedure.Answer) l p.1))
    | inr p ↦ made parameters 1 _ _ refl (group_is l p.1)
  ]
  procedure_row at_procedure.Group l h = group_is l h
  procedure_row at_procedure.Way l h = way_is l h
  procedure_row at_procedure.Parameter l h = name_row (λ n. act.Procedure (step.Parameter n)) _ (λ n. refl) l h
  procedure_row at_procedure.MoreParameters l h = parameters_are l h
  procedure_row at_procedure.MoreGroups l h = groups_are l h
  procedure_row at_procedure.Answer l h = elim (which (is_sign t sign.Colon) (ok (act.Procedure step.TypeResult)) _ a h) [
    | inl p ↦ made answer 1 _ _ refl (by_sign sign.Colon t _ us p.0 (moved (act.Procedure step.TypeResult) l p.1))
    | inr p ↦ made answer 0 [] _ refl (raises_are l p.1)
  ]
  procedure_row at_procedure.Raises l h = raises_are l h
  procedure_row at_procedure.OpenRaises l h = sign_row sign.OpenBrace (syntax.procedure at_procedure.Raise) l h
  procedure_row at_procedure.Raise l h = name_row (λ n. act.Procedure (step.Raise n)) _ (λ n. refl) l h
  procedure_row at_procedure.MoreRaises l h = more_raises_are l h
  procedure_row at_procedure.Semicolon l h = sign_row sign.Semicolon (act.Procedure step.End) l h

  basic_row : (o : Option Basic) → basic_of t ≡ o → Left → basic_or_name t o ≡ Ok a → Derives (a_type ∷ behind_type fs w) (t ∷ us)
  unfolding IsBasic
  basic_row (Some b) e l h =
      let v = basic_word t b e in
      made a_type v.1 (the_word v.0 ∷ []) (behind_type fs w) v.2 (by_word v.0 t (behind_type fs w) us v.3 (moved (act.End (close.Basic b)) l h))
  basic_row None e l h = made a_type 6 _ _ refl (name_row (λ n. act.End (close.Named n)) _ (λ n. refl) l h)

  type_is : Left → begin_type t ≡ Ok a → Derives (a_type ∷ behind_type fs w) (t ∷ us)
  unfolding begin_type
  type_is l h = elim (which (is_word t word.Array) (ok (act.Step part.BeginArray)) _ a h) [
    | inl p ↦ made a_type 8 _ _ refl (by_word word.Array t _ us p.0 (moved (act.Step part.BeginArray) l p.1))
    | inr p ↦ elim (which (is_word t word.Record) (ok (act.Step part.BeginRecord)) _ a p.1) [
      | inl q ↦ made a_type 9 _ _ refl (by_word word.Record t _ us q.0 (by_production field 0 _ _ us refl (moved (act.Step part.BeginRecord) l q.1)))
      | inr q ↦ elim (which (is_sign t sign.Open) (ok (act.Step part.BeginValues)) _ a q.1) [
        | inl r ↦ made a_type 7 _ _ refl (by_sign sign.Open t _ us r.0 (moved (act.Step part.BeginValues) l r.1))
        | inr r ↦ basic_row (basic_of t) refl l r.1
      ]
    ]
  ]

  values_are : Left → more_values t ≡ Ok a → Derives (of_values fs w) (t ∷ us)
  unfolding more_values
  values_are l h = elim (which (is_sign t sign.Comma) (ok (syntax.in_type at_type.Value)) _ a h) [
    | inl p ↦ made more_names 1 _ _ refl (by_sign sign.Comma t _ us p.0 (moved (syntax.in_type at_type.Value) l p.1))
    | inr p ↦ made more_names 0 [] _ refl (sign_row sign.Close (act.End close.Values) l p.1)
  ]

  fields_are : Left → fields_row t ≡ Ok a → Derives (of_fields (behind_type fs w)) (t ∷ us)
  unfolding fields_row
  fields_are l h = elim (which (is_sign t sign.Comma) (ok (syntax.in_type at_type.Field)) _ a h) [
    | inl p ↦ made more_names 1 _ _ refl (by_sign sign.Comma t _ us p.0 (moved (syntax.in_type at_type.Field) l p.1))
    | inr p ↦ made more_names 0 [] _ refl (sign_row sign.Colon (act.Step part.TypeFields) l p.1)
  ]

  record_is : Left → end_record t ≡ Ok a → Derives (more_fields ∷ the_word word.End ∷ behind_record fs w) (t ∷ us)
  unfolding end_record
  record_is l h = elim (which (is_sign t sign.Semicolon) (ok (act.Step part.NextFields)) _ a h) [
    | inl p ↦ made more_fields 1 _ _ refl (by_sign sign.Semicolon t _ us p.0 (by_production field 0 _ _ us refl (moved (act.Step part.NextFields) l p.1)))
    | inr p ↦ made more_fields 0 [] _ refl (word_row word.End (act.End close.Record) l p.1)
  ]

  array_is : Left → act_in_type at_type.Length t ≡ Ok a → Derives (array ∷ behind_type fs w) (t ∷ us)
  unfolding act_in_type
  array_is l h = elim (which (is_word t word.Of) (ok (act.Step part.OpenArray)) _ a h) [
    | inl p ↦ made array 1 _ _ refl (by_word word.Of t _ us p.0 (moved (act.Step part.OpenArray) l p.1))
    | inr p ↦ made array 0 _ _ refl (number_row (λ n. act.Step (part.Length n)) _ (λ n. refl) l p.1)
  ]

  type_row : (at : AtType) → Left → act_in_type at t ≡ Ok a → Derives (in_the_type at fs w) (t ∷ us)
  unfolding act_in_type
  type_row at_type.Begin l h = type_is l h
  type_row at_type.Value l h = name_row (λ n. act.Step (part.Value n)) _ (λ n. refl) l h
  type_row at_type.MoreValues l h = values_are l h
  type_row at_type.Length l h = array_is l h
  type_row at_type.Of l h = word_row word.Of (syntax.in_type at_type.Begin) l h
  type_row at_type.Upto l h = word_row word.Upto (syntax.in_type at_type.Limit) l h
  type_row at_type.Limit l h = number_row (λ n. act.End (close.Limit n)) _ (λ n. refl) l h
  type_row at_type.Field l h = name_row (λ n. act.Step (part.Field n)) _ (λ n. refl) l h
  type_row at_type.MoreFields l h = fields_are l h
  type_row at_type.EndRecord l h = record_is l h

  -- each row keeps to the grammar
  pub row_derives : (e : Expect) → Left → act_of e t ≡ Ok a → Derives (to_come e fs w) (t ∷ us)
  unfolding act_of
  row_derives (expect.Top at) l h = top_row at l h
  row_derives (expect.Procedure at) l h = procedure_row at l h
  row_derives (expect.Type at) l h = type_row at l h
