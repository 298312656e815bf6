-- What each token does keeps to what is to come behind it.
use Rattle.std.proofs.Common.{◌≡◌, ℕ, ◌+◌, Bool, true, false, cond, List, [], ◌∷◌, ◌++◌, Option, Some, None, Ok, Err, refl, ap, sym, subst, ◌∙◌}
use Rattle.std.specs.Prelude.{nat_le, nat_lt, length}
use Rattle.interface_tokens.specs.Outcome.{Outcome, ◌>>=◌}
use Rattle.interface_text.specs.Kinds.{Kind, array, open_array, fields, row}
use Rattle.interface_text.specs.Trees.{kind_of_basic}
use Rattle.interface_tokens.specs.Names.{is_among, is_same}
use Rattle.interface_text.specs.Meanings as meanings
use Rattle.interface_text.specs.Meanings.{Sense, KnownType, a_procedure, an_exception, look_up, type_in, exception_in}
use Rattle.interface_text.specs.Grammar.{Symbol, the_word, a_name, a_type, more_fields}
use Rattle.interface_text.specs.TypeRules as types
use Rattle.interface_text.specs.TypeRules.{Form, array_form, open_form, fields_form, Group, Typing, Settling, whole, next, settle, settled_in, is_over, is_length, stop, then_expect, begin, basic, named, begin_values, add_value, end_values, set_length, open_ended, limited, set_limit, begin_record, innermost, the_group, add_field, type_fields, next_fields, end_record, step as type_step, end as type_end}
use Rattle.interface_text.specs.Rules as rules
use Rattle.interface_text.specs.Rules.{Reading, begin_exception, begin_procedure, declare_type, declare_exception, declare_procedure, end_interface, declare_of, add_parameter, raised, add_raise, end_procedure, step_of, typed_in, end_type, settle_of, stepped, ended, do_act}
use Rattle.interface_tokens.specs.declared.token.Word.TheVariants as word
use Rattle.interface_tokens.specs.declared.place.Place.{Place}
use Rattle.interface_tokens.specs.declared.fault.Cause.{Cause}
use Rattle.interface_tokens.specs.declared.fault.Cause.TheVariants as cause
use Rattle.interface_text.specs.declared.reader.Within.{Within}
use Rattle.interface_text.specs.declared.reader.Within.TheVariants as within
use Rattle.interface_tokens.specs.declared.expect.AtTop.TheVariants as at_top
use Rattle.interface_tokens.specs.declared.expect.AtProcedure.TheVariants as at_procedure
use Rattle.interface_tokens.specs.declared.expect.AtType.{AtType}
use Rattle.interface_tokens.specs.declared.expect.AtType.TheVariants as at_type
use Rattle.interface_tokens.specs.declared.expect.Expect.TheVariants as expect
use Rattle.interface_tokens.specs.declared.expect.Way.{Way}
use Rattle.interface_tokens.specs.declared.expect.Way.TheVariants as way_of
use Rattle.interface_tokens.specs.declared.expect.Act.{Act}
use Rattle.interface_tokens.specs.declared.expect.Act.TheVariants as act
use Rattle.interface_tokens.specs.declared.expect.Declare.{Declare}
use Rattle.interface_tokens.specs.declared.expect.Declare.TheVariants as declare
use Rattle.interface_tokens.specs.declared.expect.InProcedure.{InProcedure}
use Rattle.interface_tokens.specs.declared.expect.InProcedure.TheVariants as step
use Rattle.interface_tokens.specs.declared.expect.TypeStep.{TypeStep}
use Rattle.interface_tokens.specs.declared.expect.TypeStep.TheVariants as part
use Rattle.interface_tokens.specs.declared.expect.TypeEnd.{TypeEnd}
use Rattle.interface_tokens.specs.declared.expect.TypeEnd.TheVariants as close
use Rattle.interface_text.proofs.Residue.{residue, in_the_type, behind_act, behind_declare, behind_way, behind_step, behind_part, behind_end, behind_type, behind_outermost, behind_record, behind_limit, of_fields, of_group, of_raises}

-- Answers that are Ok
module _ {X : Type 0} where
  abbrev pub fine : X → Outcome X
  fine x = Ok x

  abbrev pub bad : (Place × Cause) → Outcome X
  bad e = Err e

  pub same : (x y : X) → fine x ≡ fine y → x ≡ y
  same x y h = cc

  pub not_bad : (e : Place × Cause) (y : X) → bad e ≡ fine y → ⊥
  not_bad e y h = cc

  -- no fault where the test is false
  pub unless : (b : Bool) (e : Place × Cause) (o : Outcome X) (y : X) → cond b (bad e) o ≡ fine y → o ≡ fine y
  unless true e o y h = absurd (not_bad e y h)
  unless false e o y h = h

  -- no fault where the test is true
  pub where_so : (b : Bool) (e : Place × Cause) (o : Outcome X) (y : X) → cond b o (bad e) ≡ fine y → o ≡ fine y
  where_so true e o y h = h
  where_so false e o y h = absurd (not_bad e y h)

pub bound : {X Y : Type 0} (o : Outcome X) (f : X → Outcome Y) (y : Y) → (o >>= f) ≡ fine y → (x : X) × (o ≡ fine x) × (f x ≡ fine y)
bound (Ok x) f y h = (x, refl, h)
bound {X} {Y} (Err e) f y h = absurd (not_bad {X = Y} e y h)

begun_forms : (t : Typing) (place : Place) (d p : ℕ) (u : Typing) → begin t place d p ≡ fine u → u.forms ≡ t.forms
unfolding begin
begun_forms t place d p u h =
    let v = types.begun t (types.start_of t place) (length t.forms + d) p in
    sym (ap (λ (y : Typing). y.forms) (same v u (unless (nat_lt types.max_depth (length t.forms + d)) (types.start_of t place, cause.TooDeep) (fine v) u h)))

moves : (w : Within) (at : AtType) (u : Typing) (x : Typing × AtType) → (u, at) ≡ x → in_the_type x.1 x.0.forms w ≡ in_the_type at u.forms w
moves w at u x h = sym (ap (λ (y : Typing × AtType). in_the_type y.1 y.0.forms w) h)

then_ok : (w : Within) (o : Outcome Typing) (at : AtType) (x : Typing × AtType) → then_expect o at ≡ fine x
    → (u : Typing) × (o ≡ fine u) × (in_the_type x.1 x.0.forms w ≡ in_the_type at u.forms w)
then_ok w (Ok u) at x h = (u, refl, moves w at u x (same (u, at) x h))
then_ok w (Err e) at x h = absurd (not_bad e x h)

-- the innermost of the types round
innermost_is : (t : Typing) (place : Place) (fs : List Form) (g : Typing × Group) → innermost t place fs ≡ fine g → fs ≡ fields_form g.1 ∷ g.0.forms
innermost_is t place [] g h = absurd (not_bad _ g h)
innermost_is t place (array_form n ∷ fs) g h = absurd (not_bad _ g h)
innermost_is t place (open_form e ∷ fs) g h = absurd (not_bad _ g h)
innermost_is t place (fields_form d ∷ fs) g h =
    ap (λ (x : Typing × Group). fields_form x.1 ∷ x.0.forms) (same (record t { forms = fs }, d) g h)

the_group_is : (t : Typing) (place : Place) (g : Typing × Group) → the_group t place ≡ fine g → t.forms ≡ fields_form g.1 ∷ g.0.forms
unfolding the_group
the_group_is t place g h = innermost_is t place t.forms g h

-- a record that is put back is among the same types
put_back : (w : Within) (t : Typing) (g : Typing × Group) (d : Group) (fs : List Form) → t.forms ≡ fields_form g.1 ∷ g.0.forms
    → fs ≡ fields_form d ∷ g.0.forms → behind_type fs w ≡ behind_type t.forms w
put_back w t g d fs h e = ap (λ (gs : List Form). behind_type gs w) e ∙ sym (ap (λ (gs : List Form). behind_type gs w) h)

forms_same : (w : Within) (at : AtType) (u t : Typing) → u.forms ≡ t.forms → in_the_type at u.forms w ≡ in_the_type at t.forms w
forms_same w at u t h = ap (λ (fs : List Form). in_the_type at fs w) h

forms_ok : (u v : Typing) → fine u ≡ fine v → v.forms ≡ u.forms
forms_ok u v h = sym (ap (λ (t : Typing). t.forms) (same u v h))

values_begun : (t : Typing) (place : Place) (u : Typing) → begin_values t place ≡ fine u → u.forms ≡ t.forms
unfolding begin_values
values_begun t place u h =
    let b = bound (begin t place 1 1) (λ (v : Typing). fine (record v { values = [] })) u h in
    forms_ok (record (b.0) { values = [] }) u b.2 ∙ begun_forms t place 1 1 b.0 b.1

value_added : (t : Typing) (name : List ℕ) (place : Place) (u : Typing) → add_value t name place ≡ fine u → u.forms ≡ t.forms
unfolding add_value
value_added t name place u h =
    let known = stop t.start t.total place cause.Duplicate in
    let full = stop t.start t.total place cause.TooMany in
    let v : Typing = record t { values = t.values ++ name ∷ [] } in
    let test = nat_le types.max_values (length t.values) in
    forms_ok v u (unless test full (fine v) u (unless (is_among name t.values) known (cond test (bad full) (fine v)) u h))

length_set : (t : Typing) (n : ℕ) (place : Place) (u : Typing) → set_length t n place ≡ fine u → u.forms ≡ array_form n ∷ t.forms
unfolding set_length
length_set t n place u h =
    let v : Typing = record t { forms = array_form n ∷ t.forms } in
    forms_ok v u (where_so (is_length n) (stop t.start t.total place cause.Number) (fine v) u h)

record_begun : (t : Typing) (place : Place) (u : Typing) → begin_record t place ≡ fine u → (g : Group) × (u.forms ≡ fields_form g ∷ t.forms)
unfolding begin_record
record_begun t place u h =
    let group = λ (v : Typing). let g : Group = record { names = []; parts = []; fresh = 0; times = v.times } in g in
    let b = bound (begin t place 1 1) (λ (v : Typing). fine (record v { forms = fields_form (group v) ∷ v.forms })) u h in
    (group b.0, forms_ok (record (b.0) { forms = fields_form (group b.0) ∷ b.0.forms }) u b.2 ∙ ap (λ (fs : List Form). fields_form (group b.0) ∷ fs) (begun_forms t place 1 1 b.0 b.1))

field_added : (w : Within) (t : Typing) (name : List ℕ) (place : Place) (u : Typing) → add_field t name place ≡ fine u
    → behind_type u.forms w ≡ behind_type t.forms w
unfolding add_field
field_added w t name place u h =
    let d = λ (g : Typing × Group). let e : Group = record (g.1) { names = g.1.names ++ name ∷ []; fresh = types.one_more g.1.fresh } in e in
    let v = λ (g : Typing × Group). types.with_group g.0 (d g) in
    let known = λ (g : Typing × Group). stop g.0.start g.0.total place cause.Duplicate in
    let b = bound (the_group t place) (λ (g : Typing × Group). cond (is_among name g.1.names) (bad (known g)) (fine (v g))) u h in
    put_back w t b.0 (d b.0) u.forms (the_group_is t place b.0 b.1)
    (forms_ok (v b.0) u (unless (is_among name b.0.1.names) (known b.0) (fine (v b.0)) u b.2))

fields_typed : (w : Within) (t : Typing) (place : Place) (u : Typing) → type_fields t place ≡ fine u
    → behind_type u.forms w ≡ behind_type t.forms w
unfolding type_fields
fields_typed w t place u h =
    let v = λ (g : Typing × Group). types.with_group (record (g.0) { times = types.counted 0 g.1.times g.1.fresh }) g.1 in
    let b = bound (the_group t place) (λ (g : Typing × Group). fine (v g)) u h in
    put_back w t b.0 b.0.1 u.forms (the_group_is t place b.0 b.1) (forms_ok (v b.0) u b.2)

fields_next : (w : Within) (t : Typing) (place : Place) (u : Typing) → next_fields t place ≡ fine u
    → behind_type u.forms w ≡ more_fields ∷ the_word word.End ∷ behind_record t.forms w
unfolding next_fields
fields_next w t place u h =
    let v = λ (g : Typing × Group). types.with_group g.0 (record (g.1) { fresh = 0 }) in
    let b = bound (the_group t place) (λ (g : Typing × Group). fine (v g)) u h in
    ap (λ (fs : List Form). behind_type fs w) (forms_ok (v b.0) u b.2)
    ∙ sym (ap (λ (fs : List Form). more_fields ∷ the_word word.End ∷ behind_record fs w) (the_group_is t place b.0 b.1))

opened : (w : Within) (t : Typing) (x : Typing × AtType) → fine (open_ended t, at_type.Begin) ≡ fine x
    → in_the_type x.1 x.0.forms w ≡ behind_part part.OpenArray t.forms w
unfolding open_ended
opened w t x h =
    let u : Typing = record t { forms = open_form None ∷ t.forms } in
    moves w at_type.Begin u x (same (u, at_type.Begin) x h)

-- each step within a type
parts : (w : Within) (t : Typing) (s : TypeStep) (place : Place) (x : Typing × AtType) → type_step t s place ≡ fine x
    → in_the_type x.1 x.0.forms w ≡ behind_part s t.forms w
unfolding type_step
parts w t part.BeginValues place x h = let u = then_ok w (begin_values t place) at_type.Value x h in u.2 ∙ forms_same w at_type.Value u.0 t (values_begun t place u.0 u.1)
parts w t (part.Value n) place x h = let u = then_ok w (add_value t n place) at_type.MoreValues x h in u.2 ∙ forms_same w at_type.MoreValues u.0 t (value_added t n place u.0 u.1)
parts w t part.BeginArray place x h = let u = then_ok w (begin t place 1 1) at_type.Length x h in u.2 ∙ forms_same w at_type.Length u.0 t (begun_forms t place 1 1 u.0 u.1)
parts w t (part.Length n) place x h =
    let u = then_ok w (set_length t n place) at_type.Of x h in u.2 ∙ ap (λ (fs : List Form). in_the_type at_type.Of fs w) (length_set t n place u.0 u.1)
parts w t part.OpenArray place x h = opened w t x h
parts w t part.BeginRecord place x h =
    let u = then_ok w (begin_record t place) at_type.Field x h in
    let g = record_begun t place u.0 u.1 in
    u.2 ∙ ap (λ (fs : List Form). in_the_type at_type.Field fs w) g.1
parts w t (part.Field n) place x h =
    let u = then_ok w (add_field t n place) at_type.MoreFields x h in
    u.2 ∙ ap (λ (rest : List Symbol). of_fields rest) (field_added w t n place u.0 u.1)
parts w t part.TypeFields place x h =
    let u = then_ok w (type_fields t place) at_type.Begin x h in
    u.2 ∙ ap (λ (rest : List Symbol). a_type ∷ rest) (fields_typed w t place u.0 u.1)
parts w t part.NextFields place x h =
    let u = then_ok w (next_fields t place) at_type.Field x h in
    u.2 ∙ ap (λ (rest : List Symbol). a_name ∷ of_fields rest) (fields_next w t place u.0 u.1)

typed_comes : (r : Reading) (w : Within) (k : Kind) → residue (typed_in r w k) ≡ behind_outermost w
typed_comes r within.Definition k = refl
typed_comes r within.Parameters k = refl
typed_comes r within.Answer k = refl

typed_ok : (r n : Reading) (k : Kind) → end_type r k ≡ fine n → residue n ≡ behind_outermost r.within
unfolding end_type
typed_ok r n k h =
    let e : fine (typed_in r r.within k) ≡ fine n = unless (is_over r.types.total) (r.types.start, cause.TooMany) (fine (typed_in r r.within k)) n h in
    sym (ap residue (same (typed_in r r.within k) n e)) ∙ typed_comes r r.within k

-- what is to come once a part is read
comes_settled : (r n : Reading) (t : Typing) (times : ℕ) (fs : List Form) (k : Kind)
    → settle_of (record r { types = record t { times = (settle times fs k).times; forms = (settle times fs k).forms } }) (settle times fs k).settling ≡ fine n
    → residue n ≡ behind_type fs r.within
comes_settled r n t times [] k h = typed_ok _ n k h
comes_settled r n t times (array_form m ∷ fs) k h = comes_settled r n t times fs (array m k) h
comes_settled r n t times (open_form e ∷ fs) k h = sym (ap residue (same _ n h))
comes_settled r n t times (fields_form g ∷ fs) k h = sym (ap residue (same _ n h))

settled_comes : (r n : Reading) (t : Typing) (fs : List Form) (k : Kind) (x : Typing × Settling) → settled_in t fs k ≡ x
    → settle_of (record r { types = x.0 }) x.1 ≡ fine n → residue n ≡ behind_type fs r.within
unfolding settled_in
settled_comes r n t fs k x e h =
    comes_settled r n t t.times fs k (subst (λ (y : Typing × Settling). settle_of (record r { types = y.0 }) y.1 ≡ fine n) (sym e) h)

ended_ok : (r n : Reading) (o : Outcome (Typing × Settling)) → ended r o ≡ fine n
    → (x : Typing × Settling) × (o ≡ fine x) × (settle_of (record r { types = x.0 }) x.1 ≡ fine n)
ended_ok r n (Ok x) h = (x, refl, h)
ended_ok r n (Err e) h = absurd (not_bad e n h)

basic_ends : (r n : Reading) (t : Typing) (place : Place) (d p : ℕ) (k : Kind) (x : Typing × Settling)
    → (begin t place d p >>= λ u. fine (settled_in u u.forms k)) ≡ fine x → settle_of (record r { types = x.0 }) x.1 ≡ fine n
    → residue n ≡ behind_type t.forms r.within
basic_ends r n t place d p k x h s =
    let b = bound (begin t place d p) (λ (u : Typing). fine (settled_in u u.forms k)) x h in
    settled_comes r n b.0 b.0.forms k x (same _ x b.2) s ∙ ap (λ (fs : List Form). behind_type fs r.within) (begun_forms t place d p b.0 b.1)

named_ends : (r n : Reading) (t : Typing) (o : Option KnownType) (place : Place) (x : Typing × Settling) → named t o place ≡ fine x
    → settle_of (record r { types = x.0 }) x.1 ≡ fine n → residue n ≡ behind_type t.forms r.within
unfolding named
named_ends r n t (Some k) place x h s = basic_ends r n t place k.depth k.parts k.kind x h s
named_ends r n t None place x h s = absurd (not_bad _ x h)

limit_ends : (r n : Reading) (t : Typing) (fs : List Form) (m : ℕ) (place : Place) (x : Typing × Settling) → limited t fs m place ≡ fine x
    → settle_of (record r { types = x.0 }) x.1 ≡ fine n → residue n ≡ behind_limit fs r.within
limit_ends r n t [] m place x h s = absurd (not_bad _ x h)
limit_ends r n t (array_form k ∷ fs) m place x h s = absurd (not_bad _ x h)
limit_ends r n t (open_form None ∷ fs) m place x h s = absurd (not_bad _ x h)
limit_ends r n t (open_form (Some e) ∷ fs) m place x h s = settled_comes r n (record t { forms = fs }) fs (open_array m e) x (same _ x h) s
limit_ends r n t (fields_form g ∷ fs) m place x h s = absurd (not_bad _ x h)

-- each end of a type, or of a part of one
ends : (r n : Reading) (t : Typing) (senses : List (List ℕ × Sense)) (e : TypeEnd) (place : Place) (x : Typing × Settling)
    → type_end t senses e place ≡ fine x → settle_of (record r { types = x.0 }) x.1 ≡ fine n → residue n ≡ behind_end e t.forms r.within
unfolding type_end basic end_values set_limit end_record
ends r n t senses (close.Basic b) place x h s = basic_ends r n t place 1 1 (kind_of_basic b) x h s
ends r n t senses (close.Named name) place x h s = named_ends r n t (type_in (look_up name senses)) place x h s
ends r n t senses close.Values place x h s = settled_comes r n t t.forms _ x (same _ x h) s
ends r n t senses (close.Limit m) place x h s = limit_ends r n t t.forms m place x (where_so (is_length m) (stop t.start t.total place cause.Number) (limited t t.forms m place) x h) s
ends r n t senses close.Record place x h s =
    let b = bound (the_group t place) (λ (g : Typing × Group). fine (settled_in g.0 g.0.forms (fields (row g.1.parts)))) x h in
    settled_comes r n b.0.0 b.0.0.forms (fields (row b.0.1.parts)) x (same _ x b.2) s
    ∙ sym (ap (λ (fs : List Form). behind_record fs r.within) (the_group_is t place b.0 b.1))

here : (r n : Reading) → fine r ≡ fine n → residue n ≡ residue r
here r n h = sym (ap residue (same r n h))

refused : Reading → Place → Cause → Place × Cause
refused r place c = stop r.types.start r.types.total place c

unless_comes : (r m n : Reading) (b : Bool) (place : Place) (c : Cause) → cond b (bad (refused r place c)) (fine m) ≡ fine n → residue n ≡ residue m
unless_comes r m n b place c h = here m n (unless b (refused r place c) (fine m) n h)

declares : (r n : Reading) (d : Declare) (place : Place) → declare_of r d place ≡ fine n → residue n ≡ behind_declare d
unfolding declare_of begin_exception begin_procedure declare_type declare_exception declare_procedure end_interface refused
declares r n declare.BeginException place h =
    unless_comes r (record r { number = length r.exceptions + 1; expect = expect.Top at_top.ExceptionName }) n
    (nat_le rules.max_exceptions (length r.exceptions)) place cause.TooMany h
declares r n declare.BeginProcedure place h =
    unless_comes r (record r { heading = record (r.heading) { line = place.line }; expect = expect.Procedure at_procedure.Name }) n
    (nat_le rules.max_procedures (length r.procedures)) place cause.TooMany h
declares r n (declare.Type name) place h =
    unless_comes r (record r { subject = name; expect = expect.Top at_top.Equals }) n (rules.is_declared r name) place cause.Duplicate h
declares r n declare.Equals place h = here (rules.begin_type (record r { types = types.restarted r.types }) within.Definition) n h
declares r n (declare.Exception name) place h =
    unless_comes r (record r {
      exceptions = r.exceptions ++ name ∷ [];
      declared = meanings.declare r.declared name (an_exception r.number);
      expect = expect.Top at_top.Semicolon;
    }) n (rules.is_declared r name) place cause.Duplicate h
declares r n (declare.Procedure name) place h =
    unless_comes r (record r {
      declared = meanings.declare r.declared name a_procedure;
      subject = name;
      heading = rules.head_in r.heading.line;
      types = types.restarted r.types;
      expect = expect.Procedure at_procedure.Open;
    }) n (rules.is_declared r name) place cause.Duplicate h
declares r n (declare.EndInterface name) place h =
    here (rules.at_the_top r at_top.FullStop) n
    (where_so (is_same name r.name) (refused r place cause.EndName) (fine (rules.at_the_top r at_top.FullStop)) n h)

passes : (r n : Reading) (w : Way) → fine (record r { heading = rules.passed r.heading w 0; expect = expect.Procedure (rules.behind w) }) ≡ fine n
    → residue n ≡ behind_way w
passes r n way_of.Var h = here (record r { heading = rules.passed r.heading way_of.Var 0; expect = expect.Procedure at_procedure.Way }) n h
passes r n way_of.Value h = here (record r { heading = rules.passed r.heading way_of.Value 0; expect = expect.Procedure at_procedure.Parameter }) n h
passes r n way_of.In h = here (record r { heading = rules.passed r.heading way_of.In 0; expect = expect.Procedure at_procedure.Parameter }) n h
passes r n way_of.Out h = here (record r { heading = rules.passed r.heading way_of.Out 0; expect = expect.Procedure at_procedure.Parameter }) n h

raises_comes : (r n : Reading) (place : Place) (o : Option ℕ) → raised r place o ≡ fine n → residue n ≡ of_raises
raises_comes r n place (Some m) h =
    here (record r { heading = record (r.heading) { raises = r.heading.raises ++ m ∷ [] }; expect = expect.Procedure at_procedure.MoreRaises }) n h
raises_comes r n place None h = absurd (not_bad (stop r.types.start r.types.total place cause.Unknown) n h)

parameter_comes : (r n : Reading) (name : List ℕ) (place : Place) → add_parameter r name place ≡ fine n → residue n ≡ of_group
unfolding add_parameter refused
parameter_comes r n name place h =
    unless_comes r (record r { heading = rules.with_parameter r.heading name; expect = expect.Procedure at_procedure.MoreParameters }) n
    (is_among name r.heading.parameters) place cause.Duplicate h

steps : (r n : Reading) (s : InProcedure) (place : Place) → step_of r s place ≡ fine n → residue n ≡ behind_step s
unfolding step_of add_raise end_procedure
steps r n (step.Pass w) place h = passes r n w h
steps r n (step.FirstParameter name) place h = parameter_comes (rules.with_heading r (rules.passed r.heading way_of.Value 0)) n name place h
steps r n (step.Parameter name) place h = parameter_comes r n name place h
steps r n step.TypeParameters place h =
    here (rules.begin_type (record r { types = record (r.types) { times = r.heading.fresh } }) within.Parameters) n h
steps r n step.TypeResult place h =
    here (rules.begin_type (record r { heading = rules.passed r.heading way_of.Out 1; types = record (r.types) { times = 1 } }) within.Answer) n h
steps r n (step.Raise name) place h = raises_comes r n place (exception_in (look_up name r.declared)) h
steps r n step.End place h = here (record r {
  procedures = r.procedures ++ rules.procedure_of r.heading r.subject ∷ [];
  heading = rules.head_in 0;
  expect = expect.Top at_top.Declaration;
}) n h

stepped_ok : (r n : Reading) (o : Outcome (Typing × AtType)) → stepped r o ≡ fine n
    → (x : Typing × AtType) × (o ≡ fine x) × (residue n ≡ in_the_type x.1 x.0.forms r.within)
stepped_ok r n (Ok x) h = (x, refl, here (record r { types = x.0; expect = expect.Type x.1 }) n h)
stepped_ok r n (Err e) h = absurd (not_bad e n h)

-- what is to come behind each act
pub acts : (r n : Reading) (a : Act) (place : Place) → do_act r a place ≡ fine n → residue n ≡ behind_act a r.types.forms r.within
unfolding do_act
acts r n (act.Go e) place h = here (record r { expect = e }) n h
acts r n (act.Declare d) place h = declares r n d place h
acts r n (act.Procedure s) place h = steps r n s place h
acts r n (act.Step s) place h = let x = stepped_ok r n (type_step r.types s place) h in x.2 ∙ parts r.within r.types s place x.0 x.1
acts r n (act.End e) place h = let x = ended_ok r n (type_end r.types r.declared e place) h in ends r n r.types r.declared e place x.0 x.1 x.2
