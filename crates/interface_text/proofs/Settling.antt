-- What is known once a part of a type is read, by the type round it.
use Rattle.std.proofs.Common.{◌≡◌, ◌++◌, ℕ, List, [], ◌∷◌, ap, sym, ◌∙◌, Ok}
use Rattle.std.specs.Prelude.{Option, Some, replicate}
use Rattle.interface_text.specs.Kinds.{Kind, array, open_array}
use Rattle.interface_text.specs.TypeRules.{Form, array_form, open_form, fields_form, Group, Typing, Settling, settled_in, limited, whole, next}
use Rattle.interface_tokens.specs.declared.place.Place.{Place}
use Rattle.interface_tokens.specs.declared.expect.Expect.TheVariants as expect
use Rattle.interface_tokens.specs.declared.expect.AtType.TheVariants as at_type

pub settled_whole : (t : Typing) (forms : List Form) (k : Kind) → forms ≡ [] → settled_in t forms k ≡ (record t { forms = [] }, whole k)
unfolding settled_in
settled_whole t forms k h = ap (λ (fs : List Form). settled_in t fs k) h

pub settled_array : (t : Typing) (forms fs : List Form) (k : Kind) (n : ℕ) → forms ≡ array_form n ∷ fs
    → settled_in t forms k ≡ settled_in (record t { forms = fs }) fs (array n k)
unfolding settled_in
settled_array t forms fs k n h = ap (λ (gs : List Form). settled_in t gs k) h

pub settled_open : (t : Typing) (forms fs : List Form) (k : Kind) (e : Option Kind) → forms ≡ open_form e ∷ fs
    → settled_in t forms k ≡ (record t { forms = open_form (Some k) ∷ fs }, next (expect.Type at_type.Upto))
unfolding settled_in
settled_open t forms fs k e h = ap (λ (gs : List Form). settled_in t gs k) h

pub settled_group : (t : Typing) (forms fs news : List Form) (k : Kind) (g : Group) (parts : List Kind) → forms ≡ fields_form g ∷ fs
    → parts ≡ g.parts ++ replicate g.fresh k → news ≡ fields_form (record g { parts = parts }) ∷ fs
    → settled_in t forms k ≡ (record t { times = g.times; forms = news }, next (expect.Type at_type.EndRecord))
unfolding settled_in
settled_group t forms fs news k g parts h p n =
    let f = λ (ps : List Kind). let u : Typing = record t { times = g.times; forms = fields_form (record g { parts = ps }) ∷ fs } in u in
    let m = λ (gs : List Form). let u : Typing = record t { times = g.times; forms = gs } in u in
    let s : Settling = next (expect.Type at_type.EndRecord) in
    ap (λ (gs : List Form). settled_in t gs k) h
    ∙ ap (λ (u : Typing). (u, s)) (sym (ap f p))
    ∙ ap (λ (u : Typing). (u, s)) (sym (ap m n))

pub limited_open : (t : Typing) (forms fs : List Form) (number : ℕ) (place : Place) (e : Kind) → forms ≡ open_form (Some e) ∷ fs
    → limited t forms number place ≡ Ok (settled_in (record t { forms = fs }) fs (open_array number e))
limited_open t forms fs number place e h = ap (λ (gs : List Form). limited t gs number place) h
