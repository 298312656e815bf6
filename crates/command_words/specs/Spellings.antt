-- How words are spelled that ask for a command: each option as one word or as two, in any order. The word `--`, behind
-- which no options stand, may be the last.
use Rattle.std.specs.Prelude.{◌≡◌, ◌≤◌, ℕ, ◌⊎◌, List, [], ◌∷◌, ◌++◌, codes}
use Rattle.std.specs.Str.Parse.{IsNumeral, digits_value, without_leading_plus}
use Rattle.clap.specs.Walk.{Text}
use Rattle.replay_model.specs.declared.options.TheConstants.{MOST_CALLS}

-- a text that writes a number in a range: decimal digits, behind a plus sign or none
pub record IsNumber (least most : ℕ) (text : Text) (n : ℕ) : Type 0 where
  pub numeral : IsNumeral 10 (without_leading_plus text)
  pub value : digits_value 10 (without_leading_plus text) ≡ n
  pub at_least : least ≤ n
  pub at_most : n ≤ most

-- `--NAME=TEXT`, or `--NAME TEXT`
abbrev pub IsOption : (name text : Text) → List Text → Type 0
IsOption name text words = (words ≡ (codes "--" ++ name ++ codes "=" ++ text) ∷ []) ⊎ (words ≡ (codes "--" ++ name) ∷ text ∷ [])

abbrev pub IsEnd : List Text → Type 0
IsEnd words = (words ≡ []) ⊎ (words ≡ codes "--" ∷ [])

-- the words of a command without options
abbrev pub IsAlone : (name : Text) → List Text → Type 0
IsAlone name words = (end : List Text) × (words ≡ name ∷ end) × IsEnd end

-- the words of a storm
pub record IsStorm (words : List Text) (seed calls : ℕ) : Type 0 where
  pub seed_text : Text
  pub calls_text : Text
  pub is_seed : IsNumber 0 18446744073709551615 seed_text seed
  pub are_calls : IsNumber 1 MOST_CALLS calls_text calls
  pub seed_words : List Text
  pub calls_words : List Text
  pub end : List Text
  pub seed_spelled : IsOption (codes "seed") seed_text seed_words
  pub calls_spelled : IsOption (codes "calls") calls_text calls_words
  pub ends : IsEnd end
  pub order : (words ≡ codes "storm" ∷ seed_words ++ calls_words ++ end) ⊎ (words ≡ codes "storm" ∷ calls_words ++ seed_words ++ end)
