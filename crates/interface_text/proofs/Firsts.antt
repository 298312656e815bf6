-- The first token of what the grammar has: it is the first of one production.
use Rattle.std.proofs.Common.{◌≡◌, ◌⊎◌, inl, inr, ℕ, List, [], ◌∷◌, ◌++◌, Some, sym, subst, zero, suc}
use Rattle.std.specs.Prelude.{slice_get}
use Rattle.interface_text.specs.Grammar.{Symbol, the_word, the_sign, a_name, a_number, declarations, parameters, group, more_groups, way, in_or_out, more_names, answer, raises, a_type, array, field, more_fields, productions, Derives, by_word, by_sign, by_name, by_number, by_production}
use Rattle.interface_tokens.specs.declared.token.Token.{Token}
use Rattle.interface_tokens.specs.declared.token.Token.TheVariants as token
use Rattle.interface_tokens.specs.declared.token.Word.{Word}
use Rattle.interface_tokens.specs.declared.token.Sign.{Sign}
use Rattle.interface_text.proofs.Residue.{of_fields}
use Rattle.interface_text.proofs.Matching.{some_same, word_is, sign_is, name_is, number_is}

no_place : (i : ℕ) (p : List Symbol) → slice_get [] i ≡ Some p → ⊥
no_place i p h = cc

at_head : (q : List Symbol) (qs : List (List Symbol)) (i : ℕ) (p : List Symbol) → slice_get (q ∷ qs) i ≡ Some p
    → (q ≡ p) ⊎ ((j : ℕ) × (slice_get qs j ≡ Some p))
at_head q qs zero p h = inl (some_same q p h)
at_head q qs (suc j) p h = inr (j, h)

-- a part is made by one of these productions
pub record Made (t : Token) (us : List Token) (ps : List (List Symbol)) (γ : List Symbol) : Type 0 where
  place : ℕ
  production : List Symbol
  stands : slice_get ps place ≡ Some production
  derives : Derives (production ++ γ) (t ∷ us)

module _ (t : Token) (us : List Token) where
  pub word_first : (v : Word) (γ : List Symbol) → Derives (the_word v ∷ γ) (t ∷ us) → (t ≡ token.Word v) × Derives γ us
  word_first v γ (by_word v2 t2 γ2 us2 m d) = (word_is t v m, d)
  word_first v γ (by_production s2 i p γ2 ts2 e d) = absurd (no_place i p e)

  pub sign_first : (s : Sign) (γ : List Symbol) → Derives (the_sign s ∷ γ) (t ∷ us) → (t ≡ token.Sign s) × Derives γ us
  sign_first s γ (by_sign s2 t2 γ2 us2 m d) = (sign_is t s m, d)
  sign_first s γ (by_production s2 i p γ2 ts2 e d) = absurd (no_place i p e)

  pub name_first : (γ : List Symbol) → Derives (a_name ∷ γ) (t ∷ us) → (n : List ℕ) × (t ≡ token.Name n) × Derives γ us
  name_first γ (by_name n t2 γ2 us2 m d) = (n, name_is t n m, d)
  name_first γ (by_production s2 i p γ2 ts2 e d) = absurd (no_place i p e)

  pub number_first : (γ : List Symbol) → Derives (a_number ∷ γ) (t ∷ us) → (n : ℕ) × (t ≡ token.Number n) × Derives γ us
  number_first γ (by_number n t2 γ2 us2 m d) = (n, number_is t n m, d)
  number_first γ (by_production s2 i p γ2 ts2 e d) = absurd (no_place i p e)

  pub choose : (q : List Symbol) (qs : List (List Symbol)) (γ : List Symbol) → Made t us (q ∷ qs) γ → Derives (q ++ γ) (t ∷ us) ⊎ Made t us qs γ
  choose q qs γ m = elim (at_head q qs m.place m.production m.stands) [
    | inl e ↦ inl (subst (λ (p : List Symbol). Derives (p ++ γ) (t ∷ us)) (sym e) m.derives)
    | inr j ↦ inr (record { place = j.0; production = m.production; stands = j.1; derives = m.derives })
  ]

  pub none : (γ : List Symbol) → Made t us [] γ → ⊥
  none γ m = no_place m.place m.production m.stands

  pub declarations_made : (γ : List Symbol) → Derives (declarations ∷ γ) (t ∷ us) → Made t us (productions declarations) γ
  declarations_made γ (by_production s2 i p γ2 ts2 e d) = record { place = i; production = p; stands = e; derives = d }

  pub parameters_made : (γ : List Symbol) → Derives (parameters ∷ γ) (t ∷ us) → Made t us (productions parameters) γ
  parameters_made γ (by_production s2 i p γ2 ts2 e d) = record { place = i; production = p; stands = e; derives = d }

  pub group_made : (γ : List Symbol) → Derives (group ∷ γ) (t ∷ us) → Made t us (productions group) γ
  group_made γ (by_production s2 i p γ2 ts2 e d) = record { place = i; production = p; stands = e; derives = d }

  pub more_groups_made : (γ : List Symbol) → Derives (more_groups ∷ γ) (t ∷ us) → Made t us (productions more_groups) γ
  more_groups_made γ (by_production s2 i p γ2 ts2 e d) = record { place = i; production = p; stands = e; derives = d }

  pub way_made : (γ : List Symbol) → Derives (way ∷ γ) (t ∷ us) → Made t us (productions way) γ
  way_made γ (by_production s2 i p γ2 ts2 e d) = record { place = i; production = p; stands = e; derives = d }

  pub in_or_out_made : (γ : List Symbol) → Derives (in_or_out ∷ γ) (t ∷ us) → Made t us (productions in_or_out) γ
  in_or_out_made γ (by_production s2 i p γ2 ts2 e d) = record { place = i; production = p; stands = e; derives = d }

  pub more_names_made : (γ : List Symbol) → Derives (more_names ∷ γ) (t ∷ us) → Made t us (productions more_names) γ
  more_names_made γ (by_production s2 i p γ2 ts2 e d) = record { place = i; production = p; stands = e; derives = d }

  pub answer_made : (γ : List Symbol) → Derives (answer ∷ γ) (t ∷ us) → Made t us (productions answer) γ
  answer_made γ (by_production s2 i p γ2 ts2 e d) = record { place = i; production = p; stands = e; derives = d }

  pub raises_made : (γ : List Symbol) → Derives (raises ∷ γ) (t ∷ us) → Made t us (productions raises) γ
  raises_made γ (by_production s2 i p γ2 ts2 e d) = record { place = i; production = p; stands = e; derives = d }

  pub a_type_made : (γ : List Symbol) → Derives (a_type ∷ γ) (t ∷ us) → Made t us (productions a_type) γ
  a_type_made γ (by_production s2 i p γ2 ts2 e d) = record { place = i; production = p; stands = e; derives = d }

  pub array_made : (γ : List Symbol) → Derives (array ∷ γ) (t ∷ us) → Made t us (productions array) γ
  array_made γ (by_production s2 i p γ2 ts2 e d) = record { place = i; production = p; stands = e; derives = d }

  pub field_made : (γ : List Symbol) → Derives (field ∷ γ) (t ∷ us) → Made t us (productions field) γ
  field_made γ (by_production s2 i p γ2 ts2 e d) = record { place = i; production = p; stands = e; derives = d }

  pub more_fields_made : (γ : List Symbol) → Derives (more_fields ∷ γ) (t ∷ us) → Made t us (productions more_fields) γ
  more_fields_made γ (by_production s2 i p γ2 ts2 e d) = record { place = i; production = p; stands = e; derives = d }

-- fields begin with a name
pub field_opened : (γ : List Symbol) (ts : List Token) → Derives (field ∷ γ) ts → Derives (a_name ∷ of_fields γ) ts
field_opened γ ts (by_production s2 i p γ2 ts2 e d) = elim (at_head _ [] i p e)
    [ inl q ↦ subst (λ (r : List Symbol). Derives (r ++ γ) ts) (sym q) d | inr j ↦ absurd (no_place j.0 p j.1) ]
