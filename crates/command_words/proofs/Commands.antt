-- Which command words ask for, by the first of them.
use Rattle.std.proofs.Common.{◌≡◌, ℕ, Bool, true, false, sym, ap, ◌∙◌, refl}
use Rattle.std.specs.Prelude.{List, Option, Some, None, codes}
use Rattle.std.specs.Str.{bytes_eq}
use Rattle.clap.specs.Simple.{App}
use Rattle.clap.specs.Walk.{Text}
use Rattle.command_words.specs.Words.{are_taken, are_taken_by, asked, command_of, name_in, no_options, number_given, options_of, storm_options}
use Rattle.command_words.specs.declared.command.Command.{Command}
use Rattle.command_words.specs.declared.command.Command.TheVariants as command

-- the options of a command with this name
pub replay_options : (name : Text) → true ≡ bytes_eq name (codes "replay") → options_of name ≡ Some (no_options (codes "replay"))
replay_options name is = rw (← is) refl

pub stubs_options : (name : Text) → false ≡ bytes_eq name (codes "replay") → true ≡ bytes_eq name (codes "stubs")
    → options_of name ≡ Some (no_options (codes "stubs"))
stubs_options name other is = rw (← other, ← is) refl

pub options_of_storm : (name : Text) → false ≡ bytes_eq name (codes "replay") → false ≡ bytes_eq name (codes "stubs") → true ≡ bytes_eq name (codes "storm")
    → options_of name ≡ Some storm_options
options_of_storm name other again is = rw (← other, ← again, ← is) refl

pub no_command : (name : Text) → false ≡ bytes_eq name (codes "replay") → false ≡ bytes_eq name (codes "stubs") → false ≡ bytes_eq name (codes "storm")
    → options_of name ≡ None
no_command name other again more = rw (← other, ← again, ← more) refl

-- the words are those that the options of their first take
pub taken_by : (words : List Text) (name : Text) (options : Option App) (b : Bool) → name ≡ name_in words → options_of name ≡ options
    → are_taken_by options words ≡ b → are_taken words ≡ b
unfolding are_taken
taken_by words name options b first is taken =
    ap (λ n. are_taken_by (options_of n) words) (sym first) ∙ (ap (λ o. are_taken_by o words) is ∙ taken)

-- words that aren't taken ask for nothing
pub asks_for_nothing : (words : List Text) → are_taken words ≡ false → command_of words ≡ None
unfolding command_of
asks_for_nothing words refused = rw refused refl

-- words that are taken ask for this
pub asks : (words : List Text) (name : Text) (asked_for : Option Command) → name ≡ name_in words → are_taken words ≡ true
    → asked name words ≡ asked_for → command_of words ≡ asked_for
unfolding command_of
asks words name asked_for first taken is = rw (taken, ← first) is

pub asks_for_replay : (words : List Text) (name : Text) → true ≡ bytes_eq name (codes "replay") → asked name words ≡ Some command.Replay
asks_for_replay words name is = rw (← is) refl

pub asks_for_stubs : (words : List Text) (name : Text) → false ≡ bytes_eq name (codes "replay") → true ≡ bytes_eq name (codes "stubs")
    → asked name words ≡ Some command.Stubs
asks_for_stubs words name other is = rw (← other, ← is) refl

pub asks_for_storm : (words : List Text) (name : Text) (seed calls : ℕ) → false ≡ bytes_eq name (codes "replay") → false ≡ bytes_eq name (codes "stubs")
    → number_given storm_options (codes "seed") words ≡ Some seed → number_given storm_options (codes "calls") words ≡ Some calls
    → asked name words ≡ Some (command.Storm (record { seed = seed; calls = calls }))
asks_for_storm words name seed calls other again is_seed is_calls = rw (← other, ← again, is_seed, is_calls) refl
