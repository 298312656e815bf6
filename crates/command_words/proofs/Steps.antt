-- What each word of a storm does to a parse of `clap`: from where it stands, to where it stands then.
use Rattle.std.proofs.Common.{◌≡◌, true, false, List, [], ◌∷◌, ◌++◌, refl}
use Rattle.std.specs.Prelude.{Option, Some, None, codes}
use Rattle.std.specs.Str.{bytes_eq}
use Rattle.clap.proofs.OnLiterals.{clap_on_literals}
use Rattle.clap.specs.Faults.{turn_fault}
use Rattle.clap.specs.Lexer.{strip_byte}
use Rattle.clap.specs.Simple.{App, Shape, built, new_app, new_rule, with_rule}
use Rattle.clap.specs.Values.{reading_of}
use Rattle.clap.specs.ValueTests.{accepts}
use Rattle.clap.specs.Walk.{Row, Text, Walk, idle, option, walked}
use Rattle.clap.specs.declared.builder.action.ArgAction.TheVariants.{Set}
use Rattle.clap.specs.declared.builder.value_parser.ValueParser.{ValueParser}
use Rattle.clap.specs.declared.parser.matches.ValueSource.TheVariants.{CommandLine}

-- the options of a storm, with these parsers of their texts
abbrev pub options_with : (p q : ValueParser) → App
options_with p q = with_rule (with_rule (new_app (codes "storm"))
    (record (new_rule (codes "seed")) { long = Some (codes "seed"); action = Some Set; parser = Some p; required = true }))
    (record (new_rule (codes "calls")) { long = Some (codes "calls"); action = Some Set; parser = Some q; required = true })

abbrev pub shape : (p q : ValueParser) → Shape
shape p q = (built (options_with p q)).top

-- the rows of both options
abbrev pub seed_row : (p : ValueParser) (v : Text) → Row
seed_row p v = record { id = codes "seed"; values = v ∷ []; count = None; source = Some CommandLine; reading = reading_of p }

abbrev pub calls_row : (q : ValueParser) (w : Text) → Row
calls_row q w = record { id = codes "calls"; values = w ∷ []; count = None; source = Some CommandLine; reading = reading_of q }

-- where a parse stands that has these rows, and an option whose text was read last
abbrev pub stands : List Row → (pending : Option (Text × List Text)) → Walk
stands rows pending = record { held = record { rows = rows; pending = pending; skip = 0 }; waiting = idle; position = 1; is_trailing = false; stopped = None }

-- and one that waits for the text of an option
abbrev pub waits : List Row → (name : Text) → Walk
waits rows name = record (stands rows (Some (name, []))) { waiting = option name }

-- and one that met `--`
abbrev pub past : Walk → Walk
past w = record w { is_trailing = true }

-- the text is no option
abbrev pub IsValue : Text → Type 0
IsValue v = (bytes_eq v (45 ∷ 45 ∷ []) ≡ false) × (strip_byte 45 v ≡ None)

-- a word that has no fault leads from here to there
abbrev pub Steps : (p q : ValueParser) (from : Walk) (word : Text) (to : Walk) → Type 0
Steps p q from word to = (turn_fault (shape p q) [] from word ≡ []) × (walked (shape p q).rules [] from word ≡ to)

pub to_end : (p q : ValueParser) (rows : List Row) (pending : Option (Text × List Text)) → Steps p q (stands rows pending) (codes "--") (past (stands rows pending))
unfolding clap_on_literals
to_end p q rows pending = (refl, refl)

pub seed_in_one_first : (p q : ValueParser) (v : Text) → accepts false p v ≡ true → Steps p q (stands [] None) (codes "--seed=" ++ v) (stands (seed_row p v ∷ []) None)
unfolding clap_on_literals
seed_in_one_first p q v fits = (rw fits refl, refl)

pub seed_name_first : (p q : ValueParser) → Steps p q (stands [] None) (codes "--seed") (waits [] (codes "seed"))
unfolding clap_on_literals
seed_name_first p q = (refl, refl)

pub seed_text_first : (p q : ValueParser) (v : Text) → IsValue v → Steps p q (waits [] (codes "seed")) v (stands [] (Some (codes "seed", v ∷ [])))
unfolding clap_on_literals
seed_text_first p q v plain = (rw (plain.0, plain.1, plain.1) refl, rw (plain.0, plain.1, plain.1) refl)

pub seed_in_one_second : (p q : ValueParser) (v w : Text) → accepts false p v ≡ true → Steps p q (stands (calls_row q w ∷ []) None) (codes "--seed=" ++ v) (stands (calls_row q w ∷ seed_row p v ∷ []) None)
unfolding clap_on_literals
seed_in_one_second p q v w fits = (rw fits refl, refl)

pub seed_name_second : (p q : ValueParser) (w : Text) → Steps p q (stands (calls_row q w ∷ []) None) (codes "--seed") (waits (calls_row q w ∷ []) (codes "seed"))
unfolding clap_on_literals
seed_name_second p q w = (refl, refl)

pub seed_text_second : (p q : ValueParser) (v w : Text) → IsValue v → Steps p q (waits (calls_row q w ∷ []) (codes "seed")) v (stands (calls_row q w ∷ []) (Some (codes "seed", v ∷ [])))
unfolding clap_on_literals
seed_text_second p q v w plain = (rw (plain.0, plain.1, plain.1) refl, rw (plain.0, plain.1, plain.1) refl)

pub seed_in_one_behind : (p q : ValueParser) (v w : Text) → accepts false p v ≡ true → accepts false q w ≡ true
    → Steps p q (stands [] (Some (codes "calls", w ∷ []))) (codes "--seed=" ++ v) (stands (calls_row q w ∷ seed_row p v ∷ []) None)
unfolding clap_on_literals
seed_in_one_behind p q v w fits small = (rw (fits, small) refl, refl)

pub seed_name_behind : (p q : ValueParser) (w : Text) → accepts false q w ≡ true
    → Steps p q (stands [] (Some (codes "calls", w ∷ []))) (codes "--seed") (waits (calls_row q w ∷ []) (codes "seed"))
unfolding clap_on_literals
seed_name_behind p q w fits = (rw fits refl, refl)

pub calls_in_one_first : (p q : ValueParser) (w : Text) → accepts false q w ≡ true → Steps p q (stands [] None) (codes "--calls=" ++ w) (stands (calls_row q w ∷ []) None)
unfolding clap_on_literals
calls_in_one_first p q w fits = (rw fits refl, refl)

pub calls_name_first : (p q : ValueParser) → Steps p q (stands [] None) (codes "--calls") (waits [] (codes "calls"))
unfolding clap_on_literals
calls_name_first p q = (refl, refl)

pub calls_text_first : (p q : ValueParser) (w : Text) → IsValue w → Steps p q (waits [] (codes "calls")) w (stands [] (Some (codes "calls", w ∷ [])))
unfolding clap_on_literals
calls_text_first p q w plain = (rw (plain.0, plain.1, plain.1) refl, rw (plain.0, plain.1, plain.1) refl)

pub calls_in_one_second : (p q : ValueParser) (v w : Text) → accepts false q w ≡ true → Steps p q (stands (seed_row p v ∷ []) None) (codes "--calls=" ++ w) (stands (seed_row p v ∷ calls_row q w ∷ []) None)
unfolding clap_on_literals
calls_in_one_second p q v w fits = (rw fits refl, refl)

pub calls_name_second : (p q : ValueParser) (v : Text) → Steps p q (stands (seed_row p v ∷ []) None) (codes "--calls") (waits (seed_row p v ∷ []) (codes "calls"))
unfolding clap_on_literals
calls_name_second p q v = (refl, refl)

pub calls_text_second : (p q : ValueParser) (v w : Text) → IsValue w → Steps p q (waits (seed_row p v ∷ []) (codes "calls")) w (stands (seed_row p v ∷ []) (Some (codes "calls", w ∷ [])))
unfolding clap_on_literals
calls_text_second p q v w plain = (rw (plain.0, plain.1, plain.1) refl, rw (plain.0, plain.1, plain.1) refl)

pub calls_in_one_behind : (p q : ValueParser) (v w : Text) → accepts false p v ≡ true → accepts false q w ≡ true
    → Steps p q (stands [] (Some (codes "seed", v ∷ []))) (codes "--calls=" ++ w) (stands (seed_row p v ∷ calls_row q w ∷ []) None)
unfolding clap_on_literals
calls_in_one_behind p q v w fits small = (rw (fits, small) refl, refl)

pub calls_name_behind : (p q : ValueParser) (v : Text) → accepts false p v ≡ true
    → Steps p q (stands [] (Some (codes "seed", v ∷ []))) (codes "--calls") (waits (seed_row p v ∷ []) (codes "calls"))
unfolding clap_on_literals
calls_name_behind p q v fits = (rw fits refl, refl)
