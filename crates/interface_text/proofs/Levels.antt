-- Types as they are read go no deeper than was counted, and that is at most 16.
use Rattle.std.proofs.Common.{◌≡◌, ◌≤◌, ◌+◌, ℕ, suc, zero, max, Bool, true, false, cond, List, [], ◌∷◌, ◌++◌, length, Option, Some, None, Ok, Err, refl, ap, subst, arith}
use Rattle.std.specs.Prelude.{nat_le, nat_lt, replicate}
use Rattle.std.proofs.lemmas.Bool.Decides.{nat_tests}
use Rattle.interface_tokens.specs.Names.{is_among, is_same}
use Rattle.interface_tokens.specs.Outcome.{Outcome, ◌>>=◌}
use Rattle.interface_text.specs.Depths.{depth, deepest}
use Rattle.interface_text.specs.Kinds.{Kind, array, open_array, fields, choice, row}
use Rattle.interface_text.specs.Trees.{kind_of_basic}
use Rattle.interface_text.specs.Meanings.{Sense, KnownType, a_type, an_exception, a_procedure, look_up, type_in, declare}
use Rattle.interface_text.specs.TypeRules as types
use Rattle.interface_text.specs.TypeRules.{Form, array_form, open_form, fields_form, Group, Typing, Settling, whole, next, settle, settled_in, is_length, stop, then_expect, begin, basic, named, begin_values, add_value, end_values, set_length, open_ended, limited, set_limit, begin_record, innermost, the_group, add_field, type_fields, next_fields, end_record, step as type_step, end as type_end}
use Rattle.interface_tokens.specs.declared.place.Place.{Place}
use Rattle.interface_tokens.specs.declared.fault.Cause.{Cause}
use Rattle.interface_tokens.specs.declared.fault.Cause.TheVariants as cause
use Rattle.interface_tokens.specs.declared.expect.Expect.TheVariants as expect
use Rattle.interface_tokens.specs.declared.expect.AtType.{AtType}
use Rattle.interface_tokens.specs.declared.expect.AtType.TheVariants as at_type
use Rattle.interface_tokens.specs.declared.expect.Basic.{Basic}
use Rattle.interface_tokens.specs.declared.expect.Basic.TheVariants as basic_type
use Rattle.interface_tokens.specs.declared.expect.TypeStep.{TypeStep}
use Rattle.interface_tokens.specs.declared.expect.TypeStep.TheVariants as part
use Rattle.interface_tokens.specs.declared.expect.TypeEnd.{TypeEnd}
use Rattle.interface_tokens.specs.declared.expect.TypeEnd.TheVariants as close
use Rattle.interface_text.proofs.Keeping.{fine, bad, same, not_bad, unless, where_so, bound}

pub deepest_more : (ks : List Kind) (n : ℕ) (k : Kind) → deepest (row (ks ++ replicate n k)) ≤ max (deepest (row ks)) (depth k)
deepest_more [] zero k = omega arith
deepest_more [] (suc n) k = omega (arith, deepest_more [] n k)
deepest_more (x ∷ xs) n k = omega (arith, deepest_more xs n k)

-- what is read of the types round the next one is no deeper than this
abbrev pub Fits : ℕ → List Form → Type 0
Fits d [] = Unit {0}
Fits d (array_form n ∷ fs) = Fits d fs
Fits d (open_form None ∷ fs) = Fits d fs
Fits d (open_form (Some k) ∷ fs) = (length fs + 1 + depth k ≤ d) × Fits d fs
Fits d (fields_form g ∷ fs) = (length fs + 1 + deepest (row g.parts) ≤ d) × Fits d fs

fits_more : (d e : ℕ) (fs : List Form) → d ≤ e → Fits d fs → Fits e fs
fits_more d e [] le h = tt
fits_more d e (array_form n ∷ fs) le h = fits_more d e fs le h
fits_more d e (open_form None ∷ fs) le h = fits_more d e fs le h
fits_more d e (open_form (Some k) ∷ fs) le h = (omega (arith, h.0), fits_more d e fs le h.1)
fits_more d e (fields_form g ∷ fs) le h = (omega (arith, h.0), fits_more d e fs le h.1)

abbrev pub Fit : Typing → Type 0
Fit t = Fits t.deepest t.forms

-- a type of depth 1 was begun, and isn't among the types that wait
abbrev pub Full : Typing → Type 0
Full t = (length t.forms + 1 ≤ t.deepest) × Fit t

-- what holds where this is expected
abbrev pub Ready : AtType → Typing → Type 0
Ready at_type.Begin t = Fit t
Ready at_type.Value t = Full t
Ready at_type.MoreValues t = Full t
Ready at_type.Length t = Fit t
Ready at_type.Of t = Fit t
Ready at_type.Upto t = Fit t
Ready at_type.Limit t = Fit t
Ready at_type.Field t = Fit t
Ready at_type.MoreFields t = Fit t
Ready at_type.EndRecord t = Fit t

-- a type was begun
record Begun (t u : Typing) (d : ℕ) : Type 0 where
  pub forms : u.forms ≡ t.forms
  pub within : u.deepest ≤ 16
  pub level : length t.forms + d ≤ u.deepest
  pub fits : Fit u

not_over : (m n : ℕ) → nat_lt m n ≡ false → n ≤ m
not_over m n h = grind (arith, nat_tests)

pub unless_so : {X : Type 0} (b : Bool) (e : Place × Cause) (o : Outcome X) (y : X) → cond b (bad e) o ≡ fine y → (b ≡ false) × (o ≡ fine y)
unless_so {X} true e o y h = absurd (not_bad {X = X} e y h)
unless_so false e o y h = (refl, h)

begun_is : (t : Typing) (place : Place) (d p : ℕ) (u : Typing) → begin t place d p ≡ fine u → t.deepest ≤ 16 → Fit t → Begun t u d
unfolding begin
begun_is t place d p u h w f =
    let v = types.begun t (types.start_of t place) (length t.forms + d) p in
    let x = unless_so (nat_lt types.max_depth (length t.forms + d)) (types.start_of t place, cause.TooDeep) (fine v) u h in
    let l = not_over types.max_depth (length t.forms + d) x.0 in
    subst (λ (y : Typing). Begun t y d) (same v u x.1) (record {
      forms = refl;
      within = omega (arith, w, l);
      level = omega arith;
      fits = fits_more t.deepest v.deepest t.forms (omega arith) f;
    })

full : (t u : Typing) → Begun t u 1 → length u.forms + 1 ≤ u.deepest
full t u b = let n = ap (λ (fs : List Form). length fs) b.forms in omega (arith, b.level, n)

-- what holds of the type under way where this is expected
pub record Kept (at : AtType) (t : Typing) : Type 0 where
  pub within : t.deepest ≤ 16
  pub ready : Ready at t

-- what a token that ends no type asks
abbrev pub Asked : TypeStep → Typing → Type 0
Asked part.BeginValues t = Fit t
Asked (part.Value n) t = Full t
Asked part.BeginArray t = Fit t
Asked (part.Length n) t = Fit t
Asked part.OpenArray t = Fit t
Asked part.BeginRecord t = Fit t
Asked (part.Field n) t = Fit t
Asked part.TypeFields t = Fit t
Asked part.NextFields t = Fit t

then_kept : (o : Outcome Typing) (at : AtType) (x : Typing × AtType) → then_expect o at ≡ fine x
    → ((u : Typing) → o ≡ fine u → Kept at u) → Kept x.1 x.0
then_kept (Ok u) at x h f = subst (λ (y : Typing × AtType). Kept y.1 y.0) (same (u, at) x h) (f u refl)
then_kept (Err e) at x h f = absurd (not_bad e x h)

-- the innermost record was taken out of the types round it
record Taken (g : Typing × Group) : Type 0 where
  pub within : g.0.deepest ≤ 16
  pub parts : length g.0.forms + 1 + deepest (row g.1.parts) ≤ g.0.deepest
  pub fits : Fit g.0

innermost_taken : (t : Typing) (place : Place) (fs : List Form) (g : Typing × Group) → innermost t place fs ≡ fine g → t.deepest ≤ 16
    → Fits t.deepest fs → Taken g
innermost_taken t place [] g h w f = absurd (not_bad _ g h)
innermost_taken t place (array_form n ∷ fs) g h w f = absurd (not_bad _ g h)
innermost_taken t place (open_form e ∷ fs) g h w f = absurd (not_bad _ g h)
innermost_taken t place (fields_form d ∷ fs) g h w f =
    subst Taken (same (record t { forms = fs }, d) g h) (record { within = w; parts = f.0; fits = f.1 })

group_taken : (t : Typing) (place : Place) (g : Typing × Group) → the_group t place ≡ fine g → t.deepest ≤ 16 → Fit t → Taken g
unfolding the_group
group_taken t place g h w f = innermost_taken t place t.forms g h w f

values_begun : (t : Typing) (place : Place) (u : Typing) → begin_values t place ≡ fine u → t.deepest ≤ 16 → Fit t → Kept at_type.Value u
unfolding begin_values
values_begun t place u h w f =
    let b = bound (begin t place 1 1) (λ (v : Typing). fine (record v { values = [] })) u h in
    let g = begun_is t place 1 1 b.0 b.1 w f in
    subst (Kept at_type.Value) (same (record (b.0) { values = [] }) u b.2) (record { within = g.within; ready = (full t b.0 g, g.fits) })

value_added : (t : Typing) (name : List ℕ) (place : Place) (u : Typing) → add_value t name place ≡ fine u → t.deepest ≤ 16 → Full t
    → Kept at_type.MoreValues u
unfolding add_value
value_added t name place u h w f =
    let known = stop t.start t.total place cause.Duplicate in
    let many = stop t.start t.total place cause.TooMany in
    let v : Typing = record t { values = t.values ++ name ∷ [] } in
    let test = nat_le types.max_values (length t.values) in
    let e = unless test many (fine v) u (unless (is_among name t.values) known (cond test (bad many) (fine v)) u h) in
    subst (Kept at_type.MoreValues) (same v u e) (record { within = w; ready = f })

array_begun : (t : Typing) (place : Place) (u : Typing) → begin t place 1 1 ≡ fine u → t.deepest ≤ 16 → Fit t → Kept at_type.Length u
array_begun t place u h w f = let g = begun_is t place 1 1 u h w f in record { within = g.within; ready = g.fits }

length_set : (t : Typing) (n : ℕ) (place : Place) (u : Typing) → set_length t n place ≡ fine u → t.deepest ≤ 16 → Fit t → Kept at_type.Of u
unfolding set_length
length_set t n place u h w f =
    let v : Typing = record t { forms = array_form n ∷ t.forms } in
    let e = where_so (is_length n) (stop t.start t.total place cause.Number) (fine v) u h in
    subst (Kept at_type.Of) (same v u e) (record { within = w; ready = f })

opened : (t : Typing) (x : Typing × AtType) → fine (open_ended t, at_type.Begin) ≡ fine x → t.deepest ≤ 16 → Fit t → Kept x.1 x.0
unfolding open_ended
opened t x h w f =
    let u : Typing = record t { forms = open_form None ∷ t.forms } in
    subst (λ (y : Typing × AtType). Kept y.1 y.0) (same (u, at_type.Begin) x h) (record { within = w; ready = f })

record_begun : (t : Typing) (place : Place) (u : Typing) → begin_record t place ≡ fine u → t.deepest ≤ 16 → Fit t → Kept at_type.Field u
unfolding begin_record
record_begun t place u h w f =
    let group = λ (v : Typing). let g : Group = record { names = []; parts = []; fresh = 0; times = v.times } in g in
    let b = bound (begin t place 1 1) (λ (v : Typing). fine (record v { forms = fields_form (group v) ∷ v.forms })) u h in
    let g = begun_is t place 1 1 b.0 b.1 w f in
    subst (Kept at_type.Field) (same (record (b.0) { forms = fields_form (group b.0) ∷ b.0.forms }) u b.2)
    (record { within = g.within; ready = (omega (arith, full t b.0 g), g.fits) })

field_added : (t : Typing) (name : List ℕ) (place : Place) (u : Typing) → add_field t name place ≡ fine u → t.deepest ≤ 16 → Fit t
    → Kept at_type.MoreFields u
unfolding add_field
field_added t name place u h w f =
    let d = λ (g : Typing × Group). let e : Group = record (g.1) { names = g.1.names ++ name ∷ []; fresh = types.one_more g.1.fresh } in e in
    let v = λ (g : Typing × Group). types.with_group g.0 (d g) in
    let known = λ (g : Typing × Group). stop g.0.start g.0.total place cause.Duplicate in
    let b = bound (the_group t place) (λ (g : Typing × Group). cond (is_among name g.1.names) (bad (known g)) (fine (v g))) u h in
    let g = group_taken t place b.0 b.1 w f in
    subst (Kept at_type.MoreFields) (same (v b.0) u (unless (is_among name b.0.1.names) (known b.0) (fine (v b.0)) u b.2))
    (record { within = g.within; ready = (g.parts, g.fits) })

fields_typed : (t : Typing) (place : Place) (u : Typing) → type_fields t place ≡ fine u → t.deepest ≤ 16 → Fit t → Kept at_type.Begin u
unfolding type_fields
fields_typed t place u h w f =
    let v = λ (g : Typing × Group). types.with_group (record (g.0) { times = types.counted 0 g.1.times g.1.fresh }) g.1 in
    let b = bound (the_group t place) (λ (g : Typing × Group). fine (v g)) u h in
    let g = group_taken t place b.0 b.1 w f in
    subst (Kept at_type.Begin) (same (v b.0) u b.2) (record { within = g.within; ready = (g.parts, g.fits) })

fields_next : (t : Typing) (place : Place) (u : Typing) → next_fields t place ≡ fine u → t.deepest ≤ 16 → Fit t → Kept at_type.Field u
unfolding next_fields
fields_next t place u h w f =
    let v = λ (g : Typing × Group). types.with_group g.0 (record (g.1) { fresh = 0 }) in
    let b = bound (the_group t place) (λ (g : Typing × Group). fine (v g)) u h in
    let g = group_taken t place b.0 b.1 w f in
    subst (Kept at_type.Field) (same (v b.0) u b.2) (record { within = g.within; ready = (g.parts, g.fits) })

-- each step within a type
pub parts_keep : (t : Typing) (s : TypeStep) (place : Place) (x : Typing × AtType) → type_step t s place ≡ fine x → t.deepest ≤ 16 → Asked s t
    → Kept x.1 x.0
unfolding type_step
parts_keep t part.BeginValues place x h w a = then_kept (begin_values t place) at_type.Value x h (λ u e. values_begun t place u e w a)
parts_keep t (part.Value n) place x h w a = then_kept (add_value t n place) at_type.MoreValues x h (λ u e. value_added t n place u e w a)
parts_keep t part.BeginArray place x h w a = then_kept (begin t place 1 1) at_type.Length x h (λ u e. array_begun t place u e w a)
parts_keep t (part.Length n) place x h w a = then_kept (set_length t n place) at_type.Of x h (λ u e. length_set t n place u e w a)
parts_keep t part.OpenArray place x h w a = opened t x h w a
parts_keep t part.BeginRecord place x h w a = then_kept (begin_record t place) at_type.Field x h (λ u e. record_begun t place u e w a)
parts_keep t (part.Field n) place x h w a = then_kept (add_field t n place) at_type.MoreFields x h (λ u e. field_added t n place u e w a)
parts_keep t part.TypeFields place x h w a = then_kept (type_fields t place) at_type.Begin x h (λ u e. fields_typed t place u e w a)
parts_keep t part.NextFields place x h w a = then_kept (next_fields t place) at_type.Field x h (λ u e. fields_next t place u e w a)

-- what is known of a part that was read
abbrev pub Settles : Settling → Typing → Type 0
Settles (whole k) t = depth k ≤ t.deepest
Settles (next (expect.Type at)) t = Ready at t
Settles (next (expect.Top at)) t = ⊥
Settles (next (expect.Procedure at)) t = ⊥

pub record Ended (x : Typing × Settling) : Type 0 where
  pub within : x.0.deepest ≤ 16
  pub settles : Settles x.1 x.0

settle_keeps : (t : Typing) (times : ℕ) (fs : List Form) (k : Kind) → t.deepest ≤ 16 → Fits t.deepest fs → length fs + depth k ≤ t.deepest
    → Ended (record t { times = (settle times fs k).times; forms = (settle times fs k).forms }, (settle times fs k).settling)
settle_keeps t times [] k w f l = record { within = w; settles = omega (arith, l) }
settle_keeps t times (array_form n ∷ fs) k w f l = settle_keeps t times fs (array n k) w f (omega (arith, l))
settle_keeps t times (open_form None ∷ fs) k w f l = record { within = w; settles = (omega (arith, l), f) }
settle_keeps t times (open_form (Some e) ∷ fs) k w f l = record { within = w; settles = (omega (arith, l), f.1) }
settle_keeps t times (fields_form g ∷ fs) k w f l =
    record { within = w; settles = (omega (arith, l, f.0, deepest_more g.parts g.fresh k), f.1) }

settled_keeps : (t : Typing) (fs : List Form) (k : Kind) (x : Typing × Settling) → settled_in t fs k ≡ x → t.deepest ≤ 16 → Fits t.deepest fs
    → length fs + depth k ≤ t.deepest → Ended x
unfolding settled_in
settled_keeps t fs k x e w f l = subst Ended e (settle_keeps t t.times fs k w f l)

begun_keeps : (t : Typing) (place : Place) (d p : ℕ) (k : Kind) (x : Typing × Settling)
    → (begin t place d p >>= λ u. fine (settled_in u u.forms k)) ≡ fine x → depth k ≤ d → t.deepest ≤ 16 → Fit t → Ended x
begun_keeps t place d p k x h le w f =
    let b = bound (begin t place d p) (λ (u : Typing). fine (settled_in u u.forms k)) x h in
    let g = begun_is t place d p b.0 b.1 w f in
    let n = ap (λ (fs : List Form). length fs) g.forms in
    settled_keeps b.0 b.0.forms k x (same _ x b.2) g.within g.fits (omega (arith, g.level, n, le))

basic_depth : (b : Basic) → depth (kind_of_basic b) ≤ 1
basic_depth basic_type.Boolean = omega arith
basic_depth basic_type.Byte = omega arith
basic_depth basic_type.Cardinal = omega arith
basic_depth basic_type.Integer = omega arith
basic_depth basic_type.Longcard = omega arith

-- a name's type is no deeper than it is said to be
abbrev pub Known : Option KnownType → Type 0
Known (Some k) = depth k.kind ≤ k.depth
Known None = Unit {0}

named_keeps : (t : Typing) (o : Option KnownType) (place : Place) (x : Typing × Settling) → named t o place ≡ fine x → Known o → t.deepest ≤ 16
    → Fit t → Ended x
unfolding named
named_keeps t (Some k) place x h n w f = begun_keeps t place k.depth k.parts k.kind x h n w f
named_keeps t None place x h n w f = absurd (not_bad _ x h)

limit_keeps : (t : Typing) (fs : List Form) (m : ℕ) (place : Place) (x : Typing × Settling) → limited t fs m place ≡ fine x → t.deepest ≤ 16
    → Fits t.deepest fs → Ended x
limit_keeps t [] m place x h w f = absurd (not_bad _ x h)
limit_keeps t (array_form k ∷ fs) m place x h w f = absurd (not_bad _ x h)
limit_keeps t (open_form None ∷ fs) m place x h w f = absurd (not_bad _ x h)
limit_keeps t (open_form (Some e) ∷ fs) m place x h w f =
    settled_keeps (record t { forms = fs }) fs (open_array m e) x (same _ x h) w f.1 (omega (arith, f.0))
limit_keeps t (fields_form g ∷ fs) m place x h w f = absurd (not_bad _ x h)

-- what a token that ends a type asks
abbrev pub AskedEnd : TypeEnd → Typing → Type 0
AskedEnd (close.Basic b) t = Fit t
AskedEnd (close.Named n) t = Fit t
AskedEnd close.Values t = Full t
AskedEnd (close.Limit n) t = Fit t
AskedEnd close.Record t = Fit t

abbrev pub IsKnown : Sense → Type 0
IsKnown (a_type k) = depth k.kind ≤ k.depth
IsKnown (an_exception n) = Unit {0}
IsKnown a_procedure = Unit {0}

-- of all names
abbrev pub AreKnown : List (List ℕ × Sense) → Type 0
AreKnown [] = Unit {0}
AreKnown (e ∷ es) = IsKnown e.1 × AreKnown es

type_known : (s : Sense) → IsKnown s → Known (type_in (Some s))
type_known (a_type k) h = h
type_known (an_exception n) h = tt
type_known a_procedure h = tt

looked_up : (name : List ℕ) (es : List (List ℕ × Sense)) → AreKnown es → Known (type_in (look_up name es))
looked_up name [] h = tt
looked_up name (e ∷ es) h = elim (is_same name e.0) as (λ b. Known (type_in (cond b (Some e.1) (look_up name es))))
    [ true ↦ type_known e.1 h.0 | false ↦ looked_up name es h.1 ]

pub declared_known : (es : List (List ℕ × Sense)) (name : List ℕ) (s : Sense) → AreKnown es → IsKnown s → AreKnown (declare es name s)
declared_known [] name s h k = (k, tt)
declared_known (e ∷ es) name s h k = elim (is_same name e.0) as (λ b. AreKnown (cond b ((e.0, s) ∷ es) (e ∷ declare es name s)))
    [ true ↦ (k, h.1) | false ↦ (h.0, declared_known es name s h.1 k) ]

-- each end of a type, or of a part of one
pub ends_keep : (t : Typing) (senses : List (List ℕ × Sense)) (e : TypeEnd) (place : Place) (x : Typing × Settling) → type_end t senses e place ≡ fine x
    → AreKnown senses → t.deepest ≤ 16 → AskedEnd e t → Ended x
unfolding type_end basic end_values set_limit end_record
ends_keep t senses (close.Basic b) place x h k w a = begun_keeps t place 1 1 (kind_of_basic b) x h (basic_depth b) w a
ends_keep t senses (close.Named name) place x h k w a =
    named_keeps t (type_in (look_up name senses)) place x h (looked_up name senses k) w a
ends_keep t senses close.Values place x h k w a = settled_keeps t t.forms (choice (length t.values)) x (same _ x h) w a.1 (omega (arith, a.0))
ends_keep t senses (close.Limit m) place x h k w a =
    limit_keeps t t.forms m place x (where_so (is_length m) (stop t.start t.total place cause.Number) (limited t t.forms m place) x h) w a
ends_keep t senses close.Record place x h k w a =
    let b = bound (the_group t place) (λ (g : Typing × Group). fine (settled_in g.0 g.0.forms (fields (row g.1.parts)))) x h in
    let g = group_taken t place b.0 b.1 w a in
    settled_keeps b.0.0 b.0.0.forms (fields (row b.0.1.parts)) x (same _ x b.2) g.within g.fits (omega (arith, g.parts))
