-- The table of forms: what holds of each row, by tests that compute over the table, and the one row that words fit.
use Rattle.std.proofs.Common.{◌≡◌, ℕ, zero, suc, ◌<◌, ◌^◌, ◌&&◌, ◌||◌, ◌==◌, Bool, true, false, not, List, [], ◌∷◌, length, get_or, Option, Some, None, ap, arith, inl, inr, sym, refl, subst, ◌∙◌}
use Rattle.std.specs.Prelude.{filter, nat_lt}
use Rattle.std.specs.Option.{option_or, is_some}
use Rattle.std.specs.List.{list_all, Contains}
use Rattle.std.specs.Str.{bytes_eq}
use Rattle.std.proofs.lemmas.Bool.{and_parts, and_from, or_cases, ltb-true, eqb-true, eq-eqb, false_from_ne_true, both_ways, not-true}
use Rattle.std.proofs.lemmas.Slice.Eq.{bytes_eq-Decides}
use Rattle.replay_model.specs.Forms.{Place, The, Number, Name, Value, Numeral, Text, Form, forms}
use Rattle.replay_model.specs.Script.{AllSay}
use Rattle.replay_model.specs.TextFault.{agrees, is_playable, is_fitting, words_fault, number_fault, name_fault, value, values_of}
use Rattle.script_text.proofs.Names.{name_without_fault, name_passes}
use Rattle.script_text.proofs.Numbers.{spells_number, spelled_number}

same_bytes : (t w : List ℕ) → bytes_eq t w ≡ true → t ≡ w
same_bytes t w e = (bytes_eq-Decides t w).0 e

-- the numbers of a place have few enough bits for `decimal`
abbrev pub is_small : Place → Bool
is_small (The text) = true
is_small (Number low high) = nat_lt high (2 ^ 64)
is_small Name = true

pub or_none : {X : Type 0} (a b : Option X) → option_or a b ≡ None → (a ≡ None) × (b ≡ None)
or_none None b e = (refl, e)
or_none (Some x) b e = absurd (cc)

-- words that agree with the places and have no fault say what they should
pub words_say : (ps : List Place) (ws : List (List ℕ)) → list_all is_small ps ≡ true → agrees ps ws ≡ true → length ps ≡ length ws → words_fault ps ws ≡ None → AllSay ps ws (values_of ps ws)
words_say [] [] small a l e = tt
words_say [] (w ∷ ws) small a l e = absurd (omega arith)
words_say (p ∷ ps) [] small a l e = absurd (omega arith)
words_say (The text ∷ ps) (w ∷ ws) small a l e =
    let both = and_parts (bytes_eq text w) (agrees ps ws) a in
    ((refl, sym (same_bytes text w both.0)), words_say ps ws small both.1 (omega arith) e)
words_say (Number low high ∷ ps) (w ∷ ws) small a l e =
    let bits = and_parts (nat_lt high (2 ^ 64)) (list_all is_small ps) small in
    let both = or_none (number_fault low high w) (words_fault ps ws) e in
    (spells_number low high w (ltb-true _ _ bits.0) both.0, words_say ps ws bits.1 a (omega arith) both.1)
words_say (Name ∷ ps) (w ∷ ws) small a l e =
    let both = or_none (name_fault w) (words_fault ps ws) e in
    ((refl, name_without_fault w both.0), words_say ps ws small a (omega arith) both.1)

-- words that say what they should agree with the places, have no fault, and say the values that they have
pub record Fits (ps : List Place) (ws : List (List ℕ)) (vs : List Value) : Type 0 where
  pub agree : agrees ps ws ≡ true
  pub long : length ps ≡ length ws
  pub no_fault : words_fault ps ws ≡ None
  pub same : vs ≡ values_of ps ws

pub said_fits : (ps : List Place) (ws : List (List ℕ)) (vs : List Value) → list_all is_small ps ≡ true → AllSay ps ws vs → Fits ps ws vs
said_fits [] [] [] small h = record { agree = refl; long = refl; no_fault = refl; same = refl }
said_fits [] [] (v ∷ vs) small h = absurd h
said_fits [] (w ∷ ws) vs small h = absurd h
said_fits (p ∷ ps) [] vs small h = absurd h
said_fits (p ∷ ps) (w ∷ ws) [] small h = absurd h
said_fits (The text ∷ ps) (w ∷ ws) (Numeral n ∷ vs) small h = absurd h.0
said_fits (The text ∷ ps) (w ∷ ws) (Text t ∷ vs) small h =
    let more = said_fits ps ws vs small h.1 in
    record {
      agree = and_from _ _ ((bytes_eq-Decides text w).1 (sym h.0.1)) more.agree;
      long = ap suc more.long;
      no_fault = more.no_fault;
      same = ap (λ x. Text x ∷ vs) (sym h.0.0) ∙ ap (λ xs. Text w ∷ xs) more.same;
    }
said_fits (Number low high ∷ ps) (w ∷ ws) (Numeral n ∷ vs) small h =
    let bits = and_parts (nat_lt high (2 ^ 64)) (list_all is_small ps) small in
    let more = said_fits ps ws vs bits.1 h.1 in
    let this = spelled_number w low high n (ltb-true _ _ bits.0) h.0 in
    record {
      agree = more.agree;
      long = ap suc more.long;
      no_fault = ap (λ o. option_or o (words_fault ps ws)) this.0 ∙ more.no_fault;
      same = ap (λ x. Numeral x ∷ vs) this.1 ∙ ap (λ xs. Numeral (value w) ∷ xs) more.same;
    }
said_fits (Number low high ∷ ps) (w ∷ ws) (Text t ∷ vs) small h = absurd h.0
said_fits (Name ∷ ps) (w ∷ ws) (Numeral n ∷ vs) small h = absurd h.0
said_fits (Name ∷ ps) (w ∷ ws) (Text t ∷ vs) small h =
    let more = said_fits ps ws vs small h.1 in
    record {
      agree = more.agree;
      long = ap suc more.long;
      no_fault = ap (λ o. option_or o (words_fault ps ws)) (name_passes w h.0.1) ∙ more.no_fault;
      same = ap (λ x. Text x ∷ vs) (sym h.0.0) ∙ ap (λ xs. Text w ∷ xs) more.same;
    }

-- two rows that no words fit both: they have another number of places, or other words at one place
abbrev apart : List Place → List Place → Bool
apart [] [] = false
apart [] (q ∷ qs) = true
apart (p ∷ ps) [] = true
apart (The s ∷ ps) (The t ∷ qs) = not (bytes_eq s t) || apart ps qs
apart (The s ∷ ps) (Number low high ∷ qs) = apart ps qs
apart (The s ∷ ps) (Name ∷ qs) = apart ps qs
apart (Number low high ∷ ps) (q ∷ qs) = apart ps qs
apart (Name ∷ ps) (q ∷ qs) = apart ps qs

rest_agrees : (p : Place) (ps : List Place) (w : List ℕ) (ws : List (List ℕ)) → agrees (p ∷ ps) (w ∷ ws) ≡ true → agrees ps ws ≡ true
rest_agrees (The t) ps w ws e = (and_parts (bytes_eq t w) (agrees ps ws) e).1
rest_agrees (Number low high) ps w ws e = e
rest_agrees Name ps w ws e = e

apart_words : (ps qs : List Place) (ws : List (List ℕ)) → apart ps qs ≡ true → agrees ps ws ≡ true → agrees qs ws ≡ true → length ps ≡ length ws → length qs ≡ length ws → ⊥
apart_words [] [] ws e a b l m = cc
apart_words [] (q ∷ qs) ws e a b l m = absurd (omega arith)
apart_words (p ∷ ps) [] ws e a b l m = absurd (omega arith)
apart_words (p ∷ ps) (q ∷ qs) [] e a b l m = absurd (omega arith)
apart_words (The s ∷ ps) (The t ∷ qs) (w ∷ ws) e a b l m =
    let first = and_parts (bytes_eq s w) (agrees ps ws) a in
    let other = and_parts (bytes_eq t w) (agrees qs ws) b in
    elim (or_cases (not (bytes_eq s t)) (apart ps qs) e) [
      | inl d ↦ both_ways (bytes_eq s t) (not-true _ d) ((bytes_eq-Decides s t).1 (same_bytes s w first.0 ∙ sym (same_bytes t w other.0)))
      | inr d ↦ apart_words ps qs ws d first.1 other.1 (omega arith) (omega arith)
    ]
apart_words (The s ∷ ps) (Number low high ∷ qs) (w ∷ ws) e a b l m = apart_words ps qs ws e (rest_agrees (The s) ps w ws a) b (omega arith) (omega arith)
apart_words (The s ∷ ps) (Name ∷ qs) (w ∷ ws) e a b l m = apart_words ps qs ws e (rest_agrees (The s) ps w ws a) b (omega arith) (omega arith)
apart_words (Number low high ∷ ps) (q ∷ qs) (w ∷ ws) e a b l m = apart_words ps qs ws e a (rest_agrees q qs w ws b) (omega arith) (omega arith)
apart_words (Name ∷ ps) (q ∷ qs) (w ∷ ws) e a b l m = apart_words ps qs ws e a (rest_agrees q qs w ws b) (omega arith) (omega arith)

pub record FitsRow (words : List (List ℕ)) (f : Form) : Type 0 where
  pub is_built : is_some f.event ≡ true
  pub agree : agrees f.places words ≡ true
  pub long : length f.places ≡ length words

pub row_of : (words : List (List ℕ)) (f : Form) → is_fitting words f ≡ true → FitsRow words f
row_of words f e =
    let all = and_parts (is_playable words f) (length f.places == length words) e in
    let playable = and_parts (is_some f.event) (agrees f.places words) all.0 in
    record { is_built = playable.0; agree = playable.1; long = eqb-true _ _ all.1 }

pub fitting_row : (words : List (List ℕ)) (f : Form) → FitsRow words f → is_fitting words f ≡ true
fitting_row words f h = and_from _ _ (and_from _ _ h.is_built h.agree) (eq-eqb _ _ h.long)

abbrev apart_from : Form → List Form → Bool
apart_from f fs = list_all (λ (g : Form). apart f.places g.places) fs

abbrev all_apart : List Form → Bool
all_apart [] = true
all_apart (f ∷ fs) = apart_from f fs && all_apart fs

-- of rows apart from a row that the words fit, they fit none
none_fits : (words : List (List ℕ)) (f : Form) → FitsRow words f → (fs : List Form) → apart_from f fs ≡ true → filter (is_fitting words) fs ≡ []
none_fits words f h [] e = refl
none_fits words f h (g ∷ fs) e =
    let both = and_parts (apart f.places g.places) (apart_from f fs) e in
    let off : is_fitting words g ≡ false = false_from_ne_true _ (λ t.
    let k = row_of words g t in
    apart_words f.places g.places words both.0 h.agree k.agree h.long k.long) in
    rw off (none_fits words f h fs both.1)

-- a row of the list is apart from those above it
apart_at : (f : Form) (fs : List Form) (k : ℕ) (d : Form) → k < length fs → apart_from f fs ≡ true → apart f.places (get_or fs k d).places ≡ true
apart_at f [] k d within e = absurd (omega arith)
apart_at f (g ∷ fs) zero d within e = (and_parts (apart f.places g.places) (apart_from f fs) e).0
apart_at f (g ∷ fs) (suc k) d within e = apart_at f fs k d (omega arith) (and_parts (apart f.places g.places) (apart_from f fs) e).1

one_fits : (words : List (List ℕ)) (fs : List Form) (k : ℕ) (d : Form) → all_apart fs ≡ true → k < length fs → FitsRow words (get_or fs k d) → filter (is_fitting words) fs ≡ get_or fs k d ∷ []
one_fits words [] k d e within h = absurd (omega arith)
one_fits words (f ∷ fs) zero d e within h =
    let both = and_parts (apart_from f fs) (all_apart fs) e in
    let on = fitting_row words f h in
    rw on (ap (λ gs. f ∷ gs) (none_fits words f h fs both.0))
one_fits words (f ∷ fs) (suc k) d e within h =
    let both = and_parts (apart_from f fs) (all_apart fs) e in
    let off : is_fitting words f ≡ false = false_from_ne_true _ (λ t.
    let g = row_of words f t in
    apart_words f.places (get_or fs k d).places words (apart_at f fs k d (omega arith) both.0) g.agree h.agree g.long h.long) in
    rw off (one_fits words fs k d both.1 (omega arith) h)

-- the tests over the table
no_two_fit : all_apart forms ≡ true
no_two_fit = refl

abbrev small_row : Form → Bool
small_row f = list_all is_small f.places

all_small : list_all small_row forms ≡ true
all_small = refl

-- what a test over the table says of a row
row_at : (p : Form → Bool) (fs : List Form) (k : ℕ) (d : Form) → list_all p fs ≡ true → k < length fs → p (get_or fs k d) ≡ true
row_at p [] k d e within = absurd (omega arith)
row_at p (f ∷ fs) zero d e within = (and_parts (p f) (list_all p fs) e).0
row_at p (f ∷ fs) (suc k) d e within = row_at p fs k d (and_parts (p f) (list_all p fs) e).1 (omega arith)

pub row_passes : (p : Form → Bool) → list_all p forms ≡ true → (f : Form) → Contains forms f → p f ≡ true
row_passes p all f at = sym (ap p at.2) ∙ row_at p forms at.0 f all at.1

-- a row that words fit is the only one
pub only_row : (words : List (List ℕ)) (f : Form) → Contains forms f → FitsRow words f → filter (is_fitting words) forms ≡ f ∷ []
only_row words f at h =
    let P : Form → Type 0 = λ g. FitsRow words g in
    let one = one_fits words forms at.0 f no_two_fit at.1 (subst P (sym at.2) h) in
    one ∙ ap (λ g. g ∷ []) at.2

pub small_form : (f : Form) → Contains forms f → list_all is_small f.places ≡ true
small_form = row_passes small_row all_small
