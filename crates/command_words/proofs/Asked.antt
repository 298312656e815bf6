-- Words that ask for a command are spelled so.
use Rattle.std.proofs.Common.{◌≡◌, ℕ, Bool, true, false, List, [], ◌∷◌, ◌++◌, sym, ap, subst, ◌∙◌, refl, inl, inr}
use Rattle.std.specs.Prelude.{Option, Some, None, codes, ◌==◌, is_some}
use Rattle.std.specs.Str.{bytes_eq, chars}
use Rattle.std.specs.Str.Parse.{digits_value, without_leading_plus}
use Rattle.std.proofs.lemmas.Slice.Eq.{bytes_eq-Decides}
use Rattle.std.proofs.lemmas.List.{append_assoc}
use Rattle.clap.proofs.OnLiterals.{clap_on_literals}
use Rattle.clap.proofs.SimpleLemmas.{is_nil}
use Rattle.clap.proofs.ValueTestLemmas.{accepts-Accepts}
use Rattle.clap.specs.Faults.{check_fault, defaults_fault, entered_fault, fault_of, flags_fault, settle_fault, turn_fault, walk_fault}
use Rattle.clap.specs.Kinds.{Kinds, or_else}
use Rattle.clap.specs.Lexer.{has_byte}
use Rattle.clap.specs.Simple.{App, Shape, built, entered}
use Rattle.clap.specs.ValueTests.{accepts}
use Rattle.clap.specs.Walk.{Text, Walk, bundle_met, finished, settled, walked}
use Rattle.clap.specs.declared.error.kind.ErrorKind.TheVariants.{DisplayHelp, TooManyValues, UnknownArgument}
use Rattle.std.specs.List.{before_first}
use Rattle.clap.specs.declared.builder.value_parser.ValueParser.TheVariants as parser
use Rattle.replay_model.specs.declared.options.StormOptions.{StormOptions}
use Rattle.replay_model.specs.declared.options.TheConstants.{MOST_CALLS}
use Rattle.command_words.proofs.Lexing.{Dash, Ends, Form, Long, Plain, Short, form}
use Rattle.command_words.proofs.Spelled.{calls_parser, seed_parser, storm_read}
use Rattle.command_words.proofs.Steps.{past, stands}
use Rattle.command_words.proofs.Taken.{CallsFirst, SeedFirst, both_spelled}
use Rattle.command_words.proofs.WordsRead.{Sound, parts}
use Rattle.command_words.specs.Spellings.{IsAlone, IsEnd, IsNumber, IsStorm}
use Rattle.command_words.specs.Words.{IsInRange, are_taken, are_taken_by, asked, command_of, name_in, no_options, options_of, storm_options}
use Rattle.command_words.specs.declared.command.Command.{Command}
use Rattle.command_words.specs.declared.command.Command.TheVariants as command

-- which command a name is
data Named (name : Text) : Type 0 where
  Replay : name ≡ codes "replay" → Named name
  Stubs : name ≡ codes "stubs" → Named name
  Storm : name ≡ codes "storm" → Named name
  Other : options_of name ≡ None → Named name

named : (name : Text) → Named name
named name = by_replay (bytes_eq name (codes "replay")) refl
  where
    by_storm : bytes_eq name (codes "replay") ≡ false → bytes_eq name (codes "stubs") ≡ false → (b : Bool) → bytes_eq name (codes "storm") ≡ b → Named name
    by_storm e f true g = Storm ((bytes_eq-Decides name (codes "storm")).0 g)
    by_storm e f false g = Other (rw (e, f, g) refl)

    by_stubs : bytes_eq name (codes "replay") ≡ false → (b : Bool) → bytes_eq name (codes "stubs") ≡ b → Named name
    by_stubs e true f = Stubs ((bytes_eq-Decides name (codes "stubs")).0 f)
    by_stubs e false f = by_storm e f (bytes_eq name (codes "storm")) refl

    by_replay : (b : Bool) → bytes_eq name (codes "replay") ≡ b → Named name
    by_replay true e = Replay ((bytes_eq-Decides name (codes "replay")).0 e)
    by_replay false e = by_stubs e (bytes_eq name (codes "stubs")) refl

-- words that ask for something are taken
taken_of : (words : List Text) (c : Command) → command_of words ≡ Some c → (are_taken words ≡ true) × (asked (name_in words) words ≡ Some c)
unfolding command_of
taken_of words c is = by (are_taken words) refl
  where
    by : (b : Bool) → are_taken words ≡ b → (are_taken words ≡ true) × (asked (name_in words) words ≡ Some c)
    by true h = (h, rw h at is)
    by false h = let bad : None ≡ Some c = rw h at is in cc

by_its_options : (words : List Text) → are_taken words ≡ true → are_taken_by (options_of (name_in words)) words ≡ true
unfolding are_taken
by_its_options words taken = taken

-- the first word, and the others
abbrev Begins : (name : Text) → List Text → Type 0
Begins name words = (rest : List Text) × (words ≡ name ∷ rest)

begins : (words : List Text) (first : ℕ) (name : Text) → name_in words ≡ first ∷ name → Begins (first ∷ name) words
begins [] first name is = cc
begins (word ∷ rest) first name is = (rest, ap (λ (w : Text). w ∷ rest) is)

-- the options of a storm
sound_storm : (words rest : List Text) → words ≡ codes "storm" ∷ rest → are_taken words ≡ true → Sound seed_parser calls_parser (stands [] None) rest
sound_storm words rest is taken =
    let by_options : are_taken_by (options_of (codes "storm")) (codes "storm" ∷ rest) ≡ true =
    subst (λ (ws : List Text). are_taken_by (options_of (name_in ws)) ws ≡ true) is (by_its_options words taken) in
    let none : fault_of storm_options (codes "storm" ∷ rest) ≡ [] = is_nil _ by_options in
    parts _ _ none

is_number : (least most : ℕ) (text : Text) → accepts false (parser.Unsigned least most) text ≡ true
    → IsNumber least most text (digits_value 10 (without_leading_plus text))
is_number least most text fits =
    let within = accepts-Accepts false (parser.Unsigned least most) text fits in
    record { numeral = within.0; value = refl; at_least = within.2; at_most = within.3 }

abbrev HasStorm : List Text → Type 0
HasStorm words = (seed : ℕ) × (calls : ℕ) × IsStorm words seed calls

in_parts : (words option rest more end : List Text) → words ≡ option ++ rest → rest ≡ more ++ end → words ≡ (option ++ more) ++ end
in_parts words option rest more end one two = one ∙ (ap (λ (ws : List Text). option ++ ws) two ∙ sym (append_assoc option more end))

seed_then_calls : (words rest : List Text) → words ≡ codes "storm" ∷ rest → SeedFirst seed_parser calls_parser rest → HasStorm words
seed_then_calls words rest is w = (
  digits_value 10 (without_leading_plus w.text),
  digits_value 10 (without_leading_plus w.more.text),
  record {
    seed_text = w.text;
    calls_text = w.more.text;
    is_seed = is_number 0 18446744073709551615 w.text w.fits;
    are_calls = is_number 1 MOST_CALLS w.more.text w.more.fits;
    seed_words = w.option;
    calls_words = w.more.option;
    end = w.more.end;
    seed_spelled = w.spelled;
    calls_spelled = w.more.spelled;
    ends = w.more.ends;
    order = inl (is ∙ ap (λ (ws : List Text). codes "storm" ∷ ws) (in_parts rest w.option w.rest w.more.option w.more.end w.in_turn w.more.in_turn));
  },
)

calls_then_seed : (words rest : List Text) → words ≡ codes "storm" ∷ rest → CallsFirst seed_parser calls_parser rest → HasStorm words
calls_then_seed words rest is w = (
  digits_value 10 (without_leading_plus w.more.text),
  digits_value 10 (without_leading_plus w.text),
  record {
    seed_text = w.more.text;
    calls_text = w.text;
    is_seed = is_number 0 18446744073709551615 w.more.text w.more.fits;
    are_calls = is_number 1 MOST_CALLS w.text w.fits;
    seed_words = w.more.option;
    calls_words = w.option;
    end = w.more.end;
    seed_spelled = w.more.spelled;
    calls_spelled = w.spelled;
    ends = w.more.ends;
    order = inr (is ∙ ap (λ (ws : List Text). codes "storm" ∷ ws) (in_parts rest w.option w.rest w.more.option w.more.end w.in_turn w.more.in_turn));
  },
)

has_storm : (words : List Text) → name_in words ≡ codes "storm" → are_taken words ≡ true → HasStorm words
has_storm words name taken =
    let first = begins words _ _ name in
    elim (both_spelled seed_parser calls_parser first.0 (sound_storm words first.0 first.1 taken)) [
      | inl w ↦ seed_then_calls words first.0 first.1 w
      | inr w ↦ calls_then_seed words first.0 first.1 w
    ]

seed_in : Option Command → ℕ
seed_in (Some (command.Storm options)) = options.seed
seed_in _ = 0

calls_in : Option Command → ℕ
calls_in (Some (command.Storm options)) = options.calls
calls_in _ = 0

-- the options of a command that has none
abbrev bare : (name : Text) → Shape
bare name = (built (no_options name)).top

abbrev bare_fault : (name : Text) → Walk → Kinds
bare_fault name w = or_else (entered_fault (built (no_options name)) w.stopped)
    (or_else (settle_fault (bare name).rules false w.held)
    (or_else (defaults_fault (settled (bare name).rules w.held).rows (bare name).rules)
    (check_fault (bare name) (finished (bare name).rules w.held) (is_some (entered (built (no_options name)) w.stopped)))))

bare_long : (name : Text) (x : ℕ) (xs : Text) → turn_fault (bare name) [] (stands [] None) (45 ∷ 45 ∷ x ∷ xs) ≡ [] → ⊥
bare_long name x xs sound = by (bytes_eq (codes "help") (before_first (λ y. y == 61) (x ∷ xs))) refl (has_byte 61 (x ∷ xs)) refl
  where
    by : (b : Bool) → bytes_eq (codes "help") (before_first (λ y. y == 61) (x ∷ xs)) ≡ b → (t : Bool) → has_byte 61 (x ∷ xs) ≡ t → ⊥
    by true e true h = let bad : TooManyValues ∷ [] ≡ [] = rw (e, h) at sound in cc
    by true e false h = let bad : DisplayHelp ∷ [] ≡ [] = rw (e, h) at sound in cc
    by false e t h = let bad : UnknownArgument ∷ [] ≡ [] = rw e at sound in cc

bare_short : (name : Text) (x : ℕ) (xs : Text) → (x == 45) ≡ false → turn_fault (bare name) [] (stands [] None) (45 ∷ x ∷ xs) ≡ [] → ⊥
unfolding flags_fault bundle_met
bare_short name x xs e sound = by_chars (chars (x ∷ xs)) refl
  where
    by_help : (c : ℕ) (cs : Text) → chars (x ∷ xs) ≡ c ∷ cs → (b : Bool) → (104 == c) ≡ b → ⊥
    by_help c cs h true g = let bad : DisplayHelp ∷ [] ≡ [] = rw (e, e, h, g) at sound in cc
    by_help c cs h false g = let bad : UnknownArgument ∷ [] ≡ [] = rw (e, e, h, g) at sound in cc

    by_chars : (cs : Text) → chars (x ∷ xs) ≡ cs → ⊥
    by_chars [] h = let bad : UnknownArgument ∷ [] ≡ [] = rw (e, e, h) at sound in cc
    by_chars (c ∷ cs) h = by_help c cs h (104 == c) refl

bare_word : (name word : Text) → turn_fault (bare name) [] (stands [] None) word ≡ [] → word ≡ codes "--"
bare_word name word sound = by (form word)
  where
    by : Form word → word ≡ codes "--"
    by (Ends is) = is
    by (Long x xs is) = absurd (bare_long name x xs (subst (λ (t : Text). turn_fault (bare name) [] (stands [] None) t ≡ []) is sound))
    by (Short x xs is e) =
        absurd (bare_short name x xs e (subst (λ (t : Text). turn_fault (bare name) [] (stands [] None) t ≡ []) is sound))
    by (Dash is) = let bad : UnknownArgument ∷ [] ≡ [] = subst (λ (t : Text). turn_fault (bare name) [] (stands [] None) t ≡ []) is sound in cc
    by (Plain v) = let bad : UnknownArgument ∷ [] ≡ [] = rw (v.0, v.1, v.1) at sound in cc

bare_past : (name : Text) (words : List Text) → walk_fault (bare name) [] (past (stands [] None)) words ≡ [] → words ≡ []
unfolding walk_fault
bare_past name [] sound = refl
bare_past name (word ∷ rest) sound = let bad : UnknownArgument ∷ [] ≡ [] = sound in cc

bare_rest : (name : Text) (rest : List Text) → walk_fault (bare name) [] (stands [] None) rest ≡ [] → IsEnd rest
unfolding walk_fault clap_on_literals
bare_rest name [] sound = inl refl
bare_rest name (word ∷ rest) sound =
    let both = parts (turn_fault (bare name) [] (stands [] None) word) _ sound in
    let is = bare_word name word both.0 in
    let later : walk_fault (bare name) [] (past (stands [] None)) rest ≡ [] =
    subst (λ (t : Text). walk_fault (bare name) [] (walked (bare name).rules [] (stands [] None) t) rest ≡ []) is both.1 in
    inr (ap (λ (w : Text). w ∷ rest) is ∙ ap (λ (ws : List Text). codes "--" ∷ ws) (bare_past name rest later))

alone : (words : List Text) (name : Text) (rest : List Text) → words ≡ name ∷ rest → fault_of (no_options name) (name ∷ rest) ≡ [] → IsAlone name words
alone words name rest is sound = (rest, is, bare_rest name rest (parts (walk_fault (bare name) [] (stands [] None) rest) _ sound).0)

taken_without : (words : List Text) (name : Text) (rest : List Text) → options_of name ≡ Some (no_options name) → words ≡ name ∷ rest → are_taken words ≡ true
    → fault_of (no_options name) (name ∷ rest) ≡ []
taken_without words name rest options is taken =
    let by_options : are_taken_by (options_of name) (name ∷ rest) ≡ true =
    subst (λ (ws : List Text). are_taken_by (options_of (name_in ws)) ws ≡ true) is (by_its_options words taken) in
    is_nil _ (subst (λ (o : Option App). are_taken_by o (name ∷ rest) ≡ true) options by_options)

pub replay_spelled : (words : List Text) → command_of words ≡ Some command.Replay → IsAlone (codes "replay") words
replay_spelled words is =
    let taken = taken_of words command.Replay is in
    by (named (name_in words)) taken.0 taken.1
  where
    by : Named (name_in words) → are_taken words ≡ true → asked (name_in words) words ≡ Some command.Replay → IsAlone (codes "replay") words
    by (Replay name) taken asks =
        let first = begins words _ _ name in
        alone words (codes "replay") first.0 first.1 (taken_without words (codes "replay") first.0 refl first.1 taken)
    by (Stubs name) taken asks = let bad : Some command.Stubs ≡ Some command.Replay = subst (λ (n : Text). asked n words ≡ Some command.Replay) name asks in cc
    by (Storm name) taken asks =
        let found = has_storm words name taken in
        let bad : Some (command.Storm (record { seed = found.0; calls = found.1 })) ≡ Some command.Replay = sym (storm_read words found.0 found.1 found.2) ∙ is in
        cc
    by (Other none) taken asks = let bad : false ≡ true = subst (λ (o : Option App). are_taken_by o words ≡ true) none (by_its_options words taken) in cc

pub stubs_spelled : (words : List Text) → command_of words ≡ Some command.Stubs → IsAlone (codes "stubs") words
stubs_spelled words is =
    let taken = taken_of words command.Stubs is in
    by (named (name_in words)) taken.0 taken.1
  where
    by : Named (name_in words) → are_taken words ≡ true → asked (name_in words) words ≡ Some command.Stubs → IsAlone (codes "stubs") words
    by (Replay name) taken asks = let bad : Some command.Replay ≡ Some command.Stubs = subst (λ (n : Text). asked n words ≡ Some command.Stubs) name asks in cc
    by (Stubs name) taken asks =
        let first = begins words _ _ name in
        alone words (codes "stubs") first.0 first.1 (taken_without words (codes "stubs") first.0 refl first.1 taken)
    by (Storm name) taken asks =
        let found = has_storm words name taken in
        let bad : Some (command.Storm (record { seed = found.0; calls = found.1 })) ≡ Some command.Stubs = sym (storm_read words found.0 found.1 found.2) ∙ is in
        cc
    by (Other none) taken asks = let bad : false ≡ true = subst (λ (o : Option App). are_taken_by o words ≡ true) none (by_its_options words taken) in cc

-- words that are taken ask for a command
asks_as : (words : List Text) (c : Command) → are_taken words ≡ true → asked (name_in words) words ≡ Some c → command_of words ≡ Some c
unfolding command_of
asks_as words c taken is = rw taken is

pub taken_ask : (words : List Text) → are_taken words ≡ true → (c : Command) × (command_of words ≡ Some c)
taken_ask words taken = by (named (name_in words))
  where
    no : false ≡ true → ⊥
    no e = cc

    by : Named (name_in words) → (c : Command) × (command_of words ≡ Some c)
    by (Replay name) = (command.Replay, asks_as words command.Replay taken (ap (λ (n : Text). asked n words) name))
    by (Stubs name) = (command.Stubs, asks_as words command.Stubs taken (ap (λ (n : Text). asked n words) name))
    by (Storm name) =
        let found = has_storm words name taken in
        (command.Storm (record { seed = found.0; calls = found.1 }), storm_read words found.0 found.1 found.2)
    by (Other none) = let bad : false ≡ true = subst (λ (o : Option App). are_taken_by o words ≡ true) none (by_its_options words taken) in absurd (no bad)

pub storm_spelled : (words : List Text) (options : StormOptions) → command_of words ≡ Some (command.Storm options)
    → IsStorm words options.seed options.calls
unfolding seed_in calls_in
storm_spelled words options is =
    let taken = taken_of words (command.Storm options) is in
    by (named (name_in words)) taken.0 taken.1
  where
    by : Named (name_in words) → are_taken words ≡ true → asked (name_in words) words ≡ Some (command.Storm options) → IsStorm words options.seed options.calls
    by (Replay name) taken asks = let bad : Some command.Replay ≡ Some (command.Storm options) = subst (λ (n : Text). asked n words ≡ Some (command.Storm options)) name asks in cc
    by (Stubs name) taken asks = let bad : Some command.Stubs ≡ Some (command.Storm options) = subst (λ (n : Text). asked n words ≡ Some (command.Storm options)) name asks in cc
    by (Storm name) taken asks =
        let found = has_storm words name taken in
        let both : Some (command.Storm (record { seed = found.0; calls = found.1 })) ≡ Some (command.Storm options) = sym (storm_read words found.0 found.1 found.2) ∙ is in
        let same_seed : found.0 ≡ options.seed = ap seed_in both in
        let same_calls : found.1 ≡ options.calls = ap calls_in both in
        subst (λ (n : ℕ). IsStorm words options.seed n) same_calls (subst (λ (n : ℕ). IsStorm words n found.1) same_seed found.2)
    by (Other none) taken asks =
        let bad : false ≡ true = subst (λ (o : Option App). are_taken_by o words ≡ true) none (by_its_options words taken) in
        cc

pub in_range : (words : List Text) (c : Command) → command_of words ≡ Some c → IsInRange c
in_range words command.Replay is = tt
in_range words command.Stubs is = tt
in_range words (command.Storm options) is =
    let storm = storm_spelled words options is in
    (storm.are_calls.at_least, storm.are_calls.at_most)
