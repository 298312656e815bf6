-- Types as they are read: what each token of a type does, and its limits.
use Rattle.std.specs.Prelude.{ℕ, ◌+◌, ◌*◌, ◌==◌, Bool, nat_le, nat_lt, ◌&&◌, min, max, List, [], ◌∷◌, ◌++◌, length, replicate, Option, Some, None, Ok, Err, if◌then◌else◌}
use Rattle.interface_tokens.specs.Names.{is_among}
use Rattle.interface_tokens.specs.Outcome.{Outcome, ◌>>=◌}
use Rattle.interface_text.specs.Kinds.{Kind, choice, array, open_array, fields, row}
use Rattle.interface_text.specs.Trees.{kind_of_basic}
use Rattle.interface_text.specs.Meanings.{KnownType, Sense, look_up, type_in}
use Rattle.interface_tokens.specs.Tokens.{max_length}
use Rattle.interface_tokens.specs.declared.place.Place.{Place}
use Rattle.interface_tokens.specs.declared.fault.Cause.{Cause}
use Rattle.interface_tokens.specs.declared.fault.Cause.TheVariants as cause
use Rattle.interface_tokens.specs.declared.expect.Expect.{Expect}
use Rattle.interface_tokens.specs.declared.expect.Expect.TheVariants as expect
use Rattle.interface_tokens.specs.declared.expect.AtType.{AtType}
use Rattle.interface_tokens.specs.declared.expect.AtType.TheVariants as at_type
use Rattle.interface_tokens.specs.declared.expect.TypeStep.{TypeStep}
use Rattle.interface_tokens.specs.declared.expect.TypeStep.TheVariants as part
use Rattle.interface_tokens.specs.declared.expect.TypeEnd.{TypeEnd}
use Rattle.interface_tokens.specs.declared.expect.TypeEnd.TheVariants as close
use Rattle.interface_tokens.specs.declared.expect.Basic.{Basic}

abbrev pub max_depth : ℕ
max_depth = 16

abbrev pub max_parts : ℕ
max_parts = 4096

abbrev pub max_values : ℕ
max_values = 65536

-- the fields of a record so far: their names, their types, how many names the last group has, and how often each part counts
pub record Group : Type 0 where
  pub names : List (List ℕ)
  pub parts : List Kind
  pub fresh : ℕ
  pub times : ℕ

-- a type that waits for its parts
pub data Form : Type 0 where
  array_form : ℕ → Form
  -- an open array, with its element once that is read
  open_form : Option Kind → Form
  fields_form : Group → Form

-- the outermost type: its first token, how often each part of the next type counts, the parts and the depth so far, the types round the next one
-- (the innermost first), and the values of the last enumeration
pub record Typing : Type 0 where
  pub start : Place
  pub times : ℕ
  pub total : ℕ
  pub deepest : ℕ
  pub forms : List Form
  pub values : List (List ℕ)

-- what is known once a part of a type is read
pub data Settling : Type 0 where
  whole : Kind → Settling
  next : Expect → Settling

abbrev pub untyped : Typing
untyped = record { start = record { line = 1; column = 1 }; times = 1; total = 0; deepest = 0; forms = []; values = [] }

-- counting begins anew
abbrev pub restarted : Typing → Typing
restarted t = record t { times = 1; total = 0; deepest = 0 }

-- more parts than there may be are as one more
abbrev pub counted : ℕ → ℕ → ℕ → ℕ
counted total times parts = min (total + times * parts) (max_parts + 1)

-- more names than there may be parts are as one more
abbrev pub one_more : ℕ → ℕ
one_more count = min (count + 1) (max_parts + 1)

abbrev pub is_over : ℕ → Bool
is_over total = nat_lt max_parts total

-- the fault of a token; too many parts come before it, at the first token of the outermost type
unfoldable pub stop : Place → ℕ → Place → Cause → Place × Cause
stop start total place c = if is_over total then (start, cause.TooMany) else (place, c)

abbrev pub stopped : {X : Type 0} → Typing → Place → Cause → Outcome X
stopped t place c = Err (stop t.start t.total place c)

abbrev pub start_of : Typing → Place → Place
start_of t place = if length t.forms == 0 then place else t.start

abbrev pub begun : Typing → Place → ℕ → ℕ → Typing
begun t place level parts = record t { start = place; deepest = max t.deepest level; total = counted t.total t.times parts }

-- A type of this depth that counts these parts. Too deep is a fault at the first token of the outermost type.
unfoldable pub begin : Typing → Place → ℕ → ℕ → Outcome Typing
begin t place depth parts =
    let start = start_of t place in
    let level = length t.forms + depth in
    if nat_lt max_depth level then Err (start, cause.TooDeep) else Ok (begun t start level parts)

-- how often each part of the next type counts, the types round it, and what is known
pub record Settlement : Type 0 where
  pub times : ℕ
  pub forms : List Form
  pub settling : Settling

-- a part is read: an array round it is read too, an open array wants its limit, and a record has more fields of that type
abbrev pub settle : ℕ → List Form → Kind → Settlement
settle times [] kind = record { times = times; forms = []; settling = whole kind }
settle times (array_form n ∷ fs) kind = settle times fs (array n kind)
settle times (open_form element ∷ fs) kind =
    record { times = times; forms = open_form (Some kind) ∷ fs; settling = next (expect.Type at_type.Upto) }
settle times (fields_form g ∷ fs) kind = record {
  times = g.times;
  forms = fields_form (record g { parts = g.parts ++ replicate g.fresh kind }) ∷ fs;
  settling = next (expect.Type at_type.EndRecord);
}

unfoldable pub settled_in : Typing → List Form → Kind → Typing × Settling
settled_in t forms kind = let s = settle t.times forms kind in (record t { times = s.times; forms = s.forms }, s.settling)

abbrev pub settled : Typing → Kind → Typing × Settling
settled t kind = settled_in t t.forms kind

unfoldable pub basic : Typing → Basic → Place → Outcome (Typing × Settling)
basic t b place = begin t place 1 1 >>= λ u. Ok (settled u (kind_of_basic b))

abbrev pub unknown_within : Place → Outcome Typing → Place × Cause
unknown_within place (Ok u) = stop u.start u.total place cause.Unknown
unknown_within place (Err f) = f

-- a name that stands for no type counts within a type as a basic one
unfoldable pub unknown : Typing → Place → Place × Cause
unknown t place = if length t.forms == 0 then (place, cause.Unknown) else unknown_within place (begin t place 1 1)

unfoldable pub named : Typing → Option KnownType → Place → Outcome (Typing × Settling)
named t (Some k) place = begin t place k.depth k.parts >>= λ u. Ok (settled u k.kind)
named t None place = Err (unknown t place)

unfoldable pub begin_values : Typing → Place → Outcome Typing
begin_values t place = begin t place 1 1 >>= λ u. Ok (record u { values = [] })

-- the values of an enumeration differ, and there are at most 65,536
unfoldable pub add_value : Typing → List ℕ → Place → Outcome Typing
add_value t name place =
    if is_among name t.values then stopped t place cause.Duplicate
    else (if nat_le max_values (length t.values) then stopped t place cause.TooMany
    else Ok (record t { values = t.values ++ name ∷ [] }))

unfoldable pub end_values : Typing → Typing × Settling
end_values t = settled t (choice (length t.values))

-- the number of an array
abbrev pub is_length : ℕ → Bool
is_length number = nat_le 1 number && nat_le number max_length

unfoldable pub set_length : Typing → ℕ → Place → Outcome Typing
set_length t number place =
    if is_length number then Ok (record t { forms = array_form number ∷ t.forms }) else stopped t place cause.Number

unfoldable pub open_ended : Typing → Typing
open_ended t = record t { forms = open_form None ∷ t.forms }

abbrev pub limited : Typing → List Form → ℕ → Place → Outcome (Typing × Settling)
limited t (open_form (Some element) ∷ fs) number place = Ok (settled (record t { forms = fs }) (open_array number element))
limited t forms number place = stopped t place cause.Expected

unfoldable pub set_limit : Typing → ℕ → Place → Outcome (Typing × Settling)
set_limit t number place = if is_length number then limited t t.forms number place else stopped t place cause.Number

unfoldable pub begin_record : Typing → Place → Outcome Typing
begin_record t place = begin t place 1 1 >>= λ u.
    Ok (record u { forms = fields_form (record { names = []; parts = []; fresh = 0; times = u.times }) ∷ u.forms })

-- the record that is read, taken out of the types round it
abbrev pub innermost : Typing → Place → List Form → Outcome (Typing × Group)
innermost t place (fields_form g ∷ fs) = Ok (record t { forms = fs }, g)
innermost t place forms = stopped t place cause.Expected

unfoldable pub the_group : Typing → Place → Outcome (Typing × Group)
the_group t place = innermost t place t.forms

abbrev pub with_group : Typing → Group → Typing
with_group t g = record t { forms = fields_form g ∷ t.forms }

-- the fields of a record differ
unfoldable pub add_field : Typing → List ℕ → Place → Outcome Typing
add_field t name place = the_group t place >>= λ g.
    if is_among name g.1.names then stopped g.0 place cause.Duplicate
    else Ok (with_group g.0 (record (g.1) { names = g.1.names ++ name ∷ []; fresh = one_more g.1.fresh }))

-- each part of a type counts once for each name of its group
unfoldable pub type_fields : Typing → Place → Outcome Typing
type_fields t place = the_group t place >>= λ g. Ok (with_group (record (g.0) { times = counted 0 g.1.times g.1.fresh }) g.1)

unfoldable pub next_fields : Typing → Place → Outcome Typing
next_fields t place = the_group t place >>= λ g. Ok (with_group g.0 (record (g.1) { fresh = 0 }))

unfoldable pub end_record : Typing → Place → Outcome (Typing × Settling)
end_record t place = the_group t place >>= λ g. Ok (settled g.0 (fields (row g.1.parts)))

-- what a token says that ends no type, and what is expected behind it
abbrev pub then_expect : Outcome Typing → AtType → Outcome (Typing × AtType)
then_expect (Ok t) at = Ok (t, at)
then_expect (Err f) at = Err f

unfoldable pub step : Typing → TypeStep → Place → Outcome (Typing × AtType)
step t part.BeginValues place = then_expect (begin_values t place) at_type.Value
step t (part.Value name) place = then_expect (add_value t name place) at_type.MoreValues
step t part.BeginArray place = then_expect (begin t place 1 1) at_type.Length
step t (part.Length number) place = then_expect (set_length t number place) at_type.Of
step t part.OpenArray place = Ok (open_ended t, at_type.Begin)
step t part.BeginRecord place = then_expect (begin_record t place) at_type.Field
step t (part.Field name) place = then_expect (add_field t name place) at_type.MoreFields
step t part.TypeFields place = then_expect (type_fields t place) at_type.Begin
step t part.NextFields place = then_expect (next_fields t place) at_type.Field

-- what a token says that ends a type, or a part of one
unfoldable pub end : Typing → List (List ℕ × Sense) → TypeEnd → Place → Outcome (Typing × Settling)
end t senses (close.Basic b) place = basic t b place
end t senses (close.Named name) place = named t (type_in (look_up name senses)) place
end t senses close.Values place = Ok (end_values t)
end t senses (close.Limit number) place = set_limit t number place
end t senses close.Record place = end_record t place
