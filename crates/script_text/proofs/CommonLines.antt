-- A number in a range is one word, and what it spells behind the words of the two forms that most lines have.
use Rattle.std.proofs.Common.{◌≡◌, ℕ, Bool, true, false, List, [], ◌∷◌, Ok, None, codes, length, arith, refl}
use Rattle.std.specs.List.{list_all, position_or_len}
use Rattle.std.specs.Char.{is_ascii_digit}
use Rattle.std.proofs.lemmas.Bool.{and_parts}
use Rattle.std.proofs.lemmas.Bool.Decides.{nat_tests}
use Rattle.replay_model.specs.declared.limits.TheConstants.{LAST_WORKER, LARGEST_NUMBER}
use Rattle.replay_model.specs.declared.event.Event.TheVariants as event
use Rattle.replay_model.specs.Script.{is_blank, words_of}
use Rattle.replay_model.specs.TextFault.{number_fault, value}
use Rattle.script_text.specs.Reading.{ReadsWords}
use Rattle.script_text.proofs.FirstWord.{last_word}
use Rattle.script_text.proofs.Numbers.{only_digits, some_digits, without_fault}
use Rattle.script_text.proofs.Positions.{past_all}

no_blank : (b : ℕ) → is_ascii_digit b ≡ true → is_blank b ≡ false
no_blank b e = grind (arith, nat_tests)

nowhere : (w : List ℕ) → list_all is_ascii_digit w ≡ true → position_or_len is_blank w ≡ length w
nowhere [] e = refl
nowhere (b ∷ bs) e =
    let both = and_parts (is_ascii_digit b) (list_all is_ascii_digit bs) e in
    let more = nowhere bs both.1 in
    rw (no_blank b both.0, more) (omega arith)

pub number_alone : (low high : ℕ) (w : List ℕ) → number_fault low high w ≡ None → words_of w ≡ w ∷ []
number_alone low high w e =
    let numeral = (without_fault low high w e).0 in
    last_word w (some_digits w numeral) (past_all is_blank w (nowhere w (only_digits w numeral)))

pub spells_work : (begun : Bool) (w : List ℕ) → number_fault 1 LAST_WORKER w ≡ None → ReadsWords begun (codes "work" ∷ w ∷ []) (Ok (event.Work (value w)))
spells_work begun w e = rw e (refl, refl)

pub spells_deliver : (begun : Bool) (w : List ℕ) → number_fault 1 LARGEST_NUMBER w ≡ None → ReadsWords begun (codes "deliver" ∷ w ∷ []) (Ok (event.Deliver (value w)))
spells_deliver begun w e = rw e (refl, refl)
