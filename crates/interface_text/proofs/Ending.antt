-- Nothing but the end of an interface derives nothing.
use Rattle.std.proofs.Common.{◌≡◌, List, [], ◌∷◌, ◌++◌, ℕ, Bool, true, false, Some, Ok, refl, ap, sym, subst, ◌∙◌}
use Rattle.std.specs.Prelude.{◌||◌, slice_get}
use Rattle.interface_text.specs.Grammar.{Symbol, the_word, the_sign, a_name, a_number, declarations, parameters, group, more_groups, way, in_or_out, more_names, answer, raises, a_type, array, field, more_fields, productions, Derives, nothing, by_production, behind_first_line, tokens_in}
use Rattle.interface_text.specs.Rules.{Reading, take, take_all, beginning}
use Rattle.interface_text.specs.TypeRules.{Form, array_form, open_form, fields_form}
use Rattle.interface_tokens.specs.declared.token.Spot.{Spot}
use Rattle.interface_text.specs.declared.reader.Within.{Within}
use Rattle.interface_text.specs.declared.reader.Within.TheVariants as within
use Rattle.interface_tokens.specs.declared.expect.Expect.{Expect}
use Rattle.interface_tokens.specs.declared.expect.Expect.TheVariants as expect
use Rattle.interface_tokens.specs.declared.expect.AtTop.TheVariants as at_top
use Rattle.interface_tokens.specs.declared.expect.AtProcedure.TheVariants as at_procedure
use Rattle.interface_tokens.specs.declared.expect.AtType.TheVariants as at_type
use Rattle.interface_text.proofs.Residue.{residue, to_come, behind_type}
use Rattle.interface_text.proofs.Keeping.{bound, fine, same}
use Rattle.interface_text.proofs.Ahead.{stepped_on}

-- whether some symbol is a token
abbrev is_token : Symbol → Bool
is_token (the_word v) = true
is_token (the_sign s) = true
is_token a_name = true
is_token a_number = true
is_token declarations = false
is_token parameters = false
is_token group = false
is_token more_groups = false
is_token way = false
is_token in_or_out = false
is_token more_names = false
is_token answer = false
is_token raises = false
is_token a_type = false
is_token array = false
is_token field = false
is_token more_fields = false

abbrev has_token : List Symbol → Bool
has_token [] = false
has_token (s ∷ ss) = is_token s || has_token ss

no_place : (i : ℕ) (p : List Symbol) → slice_get [] i ≡ Some p → ⊥
no_place i p h = cc

-- what has productions is no token
made_of : (s : Symbol) (i : ℕ) (p : List Symbol) → slice_get (productions s) i ≡ Some p → is_token s ≡ false
made_of (the_word v) i p h = absurd (no_place i p h)
made_of (the_sign s) i p h = absurd (no_place i p h)
made_of a_name i p h = absurd (no_place i p h)
made_of a_number i p h = absurd (no_place i p h)
made_of declarations i p h = refl
made_of parameters i p h = refl
made_of group i p h = refl
made_of more_groups i p h = refl
made_of way i p h = refl
made_of in_or_out i p h = refl
made_of more_names i p h = refl
made_of answer i p h = refl
made_of raises i p h = refl
made_of a_type i p h = refl
made_of array i p h = refl
made_of field i p h = refl
made_of more_fields i p h = refl

or_false : (a b : Bool) → a || b ≡ false → b ≡ false
or_false true b h = absurd (let f : true ≡ false = h in cc)
or_false false b h = h

behind_none : (p γ : List Symbol) → has_token (p ++ γ) ≡ false → has_token γ ≡ false
behind_none [] γ h = h
behind_none (s ∷ ss) γ h = behind_none ss γ (or_false (is_token s) (has_token (ss ++ γ)) h)

-- what derives nothing has no token
derives_none : (γ : List Symbol) → Derives γ [] → has_token γ ≡ false
derives_none [] nothing = refl
derives_none (s ∷ γ) (by_production s2 i p γ2 ts e d) =
    ap (λ (b : Bool). b || has_token γ) (made_of s i p e) ∙ behind_none p γ (derives_none (p ++ γ) d)

type_has_token : (fs : List Form) (w : Within) → has_token (behind_type fs w) ≡ true
type_has_token [] within.Definition = refl
type_has_token [] within.Parameters = refl
type_has_token [] within.Answer = refl
type_has_token (array_form n ∷ fs) w = type_has_token fs w
type_has_token (open_form e ∷ fs) w = refl
type_has_token (fields_form g ∷ fs) w = refl

clash : {X : Type 0} (b : Bool) → b ≡ true → b ≡ false → X
clash b h k = absurd (let f : true ≡ false = sym h ∙ k in cc)

-- only behind the last full stop nothing is to come
only_nothing : (e : Expect) (fs : List Form) (w : Within) → has_token (to_come e fs w) ≡ false → e ≡ expect.Top at_top.Nothing
only_nothing (expect.Top at_top.Nothing) fs w h = refl
only_nothing (expect.Top at_top.Declaration) fs w h = clash _ refl h
only_nothing (expect.Top at_top.TypeName) fs w h = clash _ refl h
only_nothing (expect.Top at_top.Equals) fs w h = clash _ refl h
only_nothing (expect.Top at_top.ExceptionName) fs w h = clash _ refl h
only_nothing (expect.Top at_top.Semicolon) fs w h = clash _ refl h
only_nothing (expect.Top at_top.EndName) fs w h = clash _ refl h
only_nothing (expect.Top at_top.FullStop) fs w h = clash _ refl h
only_nothing (expect.Procedure at_procedure.Name) fs w h = clash _ refl h
only_nothing (expect.Procedure at_procedure.Open) fs w h = clash _ refl h
only_nothing (expect.Procedure at_procedure.FirstGroup) fs w h = clash _ refl h
only_nothing (expect.Procedure at_procedure.Group) fs w h = clash _ refl h
only_nothing (expect.Procedure at_procedure.Way) fs w h = clash _ refl h
only_nothing (expect.Procedure at_procedure.Parameter) fs w h = clash _ refl h
only_nothing (expect.Procedure at_procedure.MoreParameters) fs w h = clash _ refl h
only_nothing (expect.Procedure at_procedure.MoreGroups) fs w h = clash _ refl h
only_nothing (expect.Procedure at_procedure.Answer) fs w h = clash _ refl h
only_nothing (expect.Procedure at_procedure.Raises) fs w h = clash _ refl h
only_nothing (expect.Procedure at_procedure.OpenRaises) fs w h = clash _ refl h
only_nothing (expect.Procedure at_procedure.Raise) fs w h = clash _ refl h
only_nothing (expect.Procedure at_procedure.MoreRaises) fs w h = clash _ refl h
only_nothing (expect.Procedure at_procedure.Semicolon) fs w h = clash _ refl h
only_nothing (expect.Type at_type.Begin) fs w h = clash _ (type_has_token fs w) h
only_nothing (expect.Type at_type.Value) fs w h = clash _ refl h
only_nothing (expect.Type at_type.MoreValues) fs w h = clash _ refl h
only_nothing (expect.Type at_type.Length) fs w h = clash _ (type_has_token fs w) h
only_nothing (expect.Type at_type.Of) fs w h = clash _ refl h
only_nothing (expect.Type at_type.Upto) fs w h = clash _ refl h
only_nothing (expect.Type at_type.Limit) fs w h = clash _ refl h
only_nothing (expect.Type at_type.Field) fs w h = clash _ refl h
only_nothing (expect.Type at_type.MoreFields) fs w h = clash _ refl h
only_nothing (expect.Type at_type.EndRecord) fs w h = clash _ refl h

read_whole : (r n : Reading) (spots : List Spot) → take_all r spots ≡ fine n → Derives (residue r) (tokens_in spots) → Derives (residue n) []
read_whole r n [] h d = subst (λ (m : Reading). Derives (residue m) []) (same r n h) d
read_whole r n (s ∷ ss) h d =
    let b = bound (take r s) (λ (m : Reading). take_all m ss) n h in
    read_whole b.0 n ss b.2 (stepped_on r b.0 s (tokens_in ss) b.1 d)

-- tokens of the grammar that are read are a whole interface
pub whole_is_read : (name : List ℕ) (spots : List Spot) (r : Reading) → take_all (beginning name) spots ≡ Ok r
    → Derives behind_first_line (tokens_in spots) → r.expect ≡ expect.Top at_top.Nothing
whole_is_read name spots r h d =
    only_nothing r.expect r.types.forms r.within (derives_none (residue r) (read_whole (beginning name) r spots h d))
