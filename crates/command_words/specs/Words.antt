-- The words of the program: which are taken, and what they ask for. The first names a command. Those behind it are its
-- options, which `clap` reads: `App` and `Rule` are what it reads of a command and of an option, `fault_of` is why it
-- refuses words, and `matches_of` is what it finds in them.
use Rattle.std.specs.Prelude.{⊤, ◌≤◌, ℕ, Bool, true, false, List, [], ◌∷◌, Option, Some, None, option_map, codes, if◌then◌else◌}
use Rattle.std.specs.Str.{bytes_eq}
use Rattle.std.specs.Str.Parse.{digits_value, without_leading_plus}
use Rattle.clap.specs.Faults.{fault_of}
use Rattle.clap.specs.Simple.{App, matches_of, new_app, new_rule, with_rule}
use Rattle.clap.specs.Walk.{Rule, Text, is_empty, one_of}
use Rattle.clap.specs.declared.builder.action.ArgAction.TheVariants.{Set}
use Rattle.clap.specs.declared.builder.value_parser.ValueParser.TheVariants as parser
use Rattle.replay_model.specs.declared.options.TheConstants.{MOST_CALLS}
use Rattle.command_words.specs.declared.command.Command.{Command}
use Rattle.command_words.specs.declared.command.Command.TheVariants as command

-- the option `--NAME=N` or `--NAME N`, which must be there, of a decimal number in a range
abbrev pub number_option : (name : Text) (least most : ℕ) → Rule
number_option name least most = record (new_rule name) {
  long = Some name;
  action = Some Set;
  parser = Some (parser.Unsigned least most);
  required = true;
}

-- a command without options
abbrev pub no_options : (name : Text) → App
no_options name = new_app name

-- `storm --seed=N --calls=N`
abbrev pub storm_options : App
storm_options = with_rule (with_rule (new_app (codes "storm"))
    (number_option (codes "seed") 0 18446744073709551615))
    (number_option (codes "calls") 1 MOST_CALLS)

-- the options of a command, by its name
abbrev pub options_of : (name : Text) → Option App
options_of name = if bytes_eq name (codes "replay") then Some (no_options (codes "replay"))
    else (if bytes_eq name (codes "stubs") then Some (no_options (codes "stubs"))
    else (if bytes_eq name (codes "storm") then Some storm_options else None))

abbrev pub name_in : List Text → Text
name_in [] = []
name_in (name ∷ options) = name

abbrev pub are_taken_by : Option App → List Text → Bool
are_taken_by None words = false
are_taken_by (Some options) words = is_empty (fault_of options words)

-- the first word names a command, and `clap` finds no fault in those behind it
unfoldable pub are_taken : List Text → Bool
are_taken words = are_taken_by (options_of (name_in words)) words

-- the number that the words give an option
abbrev pub number_given : App → (name : Text) → List Text → Option ℕ
number_given options name words =
    option_map (λ text. digits_value 10 (without_leading_plus text)) (one_of name (matches_of options words))

abbrev pub storm_of : (seed calls : Option ℕ) → Option Command
storm_of (Some seed) (Some calls) = Some (command.Storm (record { seed = seed; calls = calls }))
storm_of _ _ = None

abbrev pub asked : (name : Text) → List Text → Option Command
asked name words = if bytes_eq name (codes "replay") then Some command.Replay
    else (if bytes_eq name (codes "stubs") then Some command.Stubs
    else storm_of (number_given storm_options (codes "seed") words) (number_given storm_options (codes "calls") words))

-- what words ask for that are taken
unfoldable pub command_of : List Text → Option Command
command_of words = if are_taken words then asked (name_in words) words else None

-- the options of a command are in their ranges
abbrev pub IsInRange : Command → Type 0
IsInRange (command.Storm options) = (1 ≤ options.calls) × (options.calls ≤ MOST_CALLS)
IsInRange _ = ⊤
