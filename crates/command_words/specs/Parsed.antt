-- What a parse of `clap` has found.
use Rattle.std.specs.Prelude.{◌≡◌, ℕ, Some}
use Rattle.clap.specs.Matches.{found_of, one_text}
use Rattle.clap.specs.Values.{IsUnsignedIn}
use Rattle.clap.specs.Walk.{Text}
use Rattle.clap.specs.declared.parser.matches.ArgMatches.{ArgMatches}

-- the text of an option, a numeral in a range
abbrev pub HasNumber : ArgMatches → (name : Text) → (least most : ℕ) → Type 0
HasNumber m name least most = (text : Text) × (one_text (found_of m) name ≡ Some text) × IsUnsignedIn least most text
