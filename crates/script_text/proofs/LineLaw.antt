-- A line that counts has no fault just where it spells an event, and it then spells that one.
use Rattle.std.proofs.Common.{◌≡◌, ℕ, suc, ◌&&◌, ◌||◌, Bool, true, false, not, List, [], ◌∷◌, Option, Some, None, ap, arith, inl, inr, sym, refl, ◌∙◌}
use Rattle.std.specs.Prelude.{filter, codes}
use Rattle.std.specs.Option.{option_map, is_some}
use Rattle.std.specs.List.{list_all, Contains}
use Rattle.std.specs.Str.{bytes_eq}
use Rattle.std.proofs.lemmas.Bool.{and_parts, or_cases, not-true, both_ways, and_left, not_from_false, false_from_ne_true}
use Rattle.std.proofs.lemmas.Slice.Eq.{bytes_eq-Decides}
use Rattle.replay_model.specs.Forms.{Place, The, Number, Name, Value, Form, forms}
use Rattle.replay_model.specs.Script.{Spells, words_of}
use Rattle.replay_model.specs.TextFault.{Above, first_of, some, agrees, agreeing, playable, fitting, is_playable, is_fitting, is_pool, form_checks, fault_by, event_by, event_of, words_fault, values_of}
use Rattle.replay_model.specs.declared.event.Event.{Event}
use Rattle.replay_model.specs.declared.text_fault.TextFault.TheVariants as fault
use Rattle.script_text.specs.Reading.{fault_of_form, fault_of_whole}
use Rattle.script_text.proofs.Checks.{passing, of_form}
use Rattle.script_text.proofs.LineBytes.{words_are_fine, line_is_fine}
use Rattle.script_text.proofs.Numbers.{passes}
use Rattle.script_text.proofs.Rows.{only_row, small_form, words_say, said_fits, row_of, row_passes, or_none}

-- the first row of those that pass a test
record Picked (p : Form → Bool) (fs : List Form) : Type 0 where
  form : Form
  others : List Form
  first : filter p fs ≡ form ∷ others
  listed : Contains fs form
  passes : p form ≡ true

pick : (p : Form → Bool) (fs : List Form) → some (filter p fs) ≡ true → Picked p fs
pick p [] e = absurd (cc)
pick p (f ∷ fs) e =
    elim (p f) as (λ t. p f ≡ t → Picked p (f ∷ fs)) [
      | true ↦ λ on. record { form = f; others = filter p fs; first = rw on refl; listed = (0, omega arith, refl); passes = on }
      | false ↦ λ off.
          let more = pick p fs (rw off at e) in
          record {
            form = more.form;
            others = more.others;
            first = rw off more.first;
            listed = (suc more.listed.0, (let within = more.listed.1 in omega arith), more.listed.2);
            passes = more.passes;
          }
    ] refl

some_event : {X : Type 0} (o : Option X) → is_some o ≡ true → (x : X) × (o ≡ Some x)
some_event None e = absurd (cc)
some_event (Some x) e = (x, refl)

pub record SpelledBy (words : List (List ℕ)) : Type 0 where
  pub event : Event
  pub said : event_of words ≡ Some event
  pub spelled : Spells words event

-- words without a fault spell an event
pub spelled_words : (begun : Bool) (words : List (List ℕ)) → fault_of_form begun words ≡ None → SpelledBy words
spelled_words begun words e =
    let parts = or_none (first_of (form_checks begun words)) (fault_by (fitting words) words) e in
    let shape = (fault.Shape, some (fitting words)) ∷ [] in
    let late = (fault.Late, not (is_pool words && begun)) ∷ shape in
    let built = (fault.NotYet, some (playable words)) ∷ late in
    let one = passes fault.Word (some (agreeing words)) built parts.0 in
    let two = passes fault.NotYet (some (playable words)) late one.1 in
    let three = passes fault.Late (not (is_pool words && begun)) shape two.1 in
    let four = passes fault.Shape (some (fitting words)) [] three.1 in
    let picked = pick (is_fitting words) forms four.0 in
    let form = picked.form in
    let row = row_of words form picked.passes in
    let gives = some_event form.event row.is_built in
    let no_fault : words_fault form.places words ≡ None = sym (ap (λ fs. fault_by fs words) picked.first) ∙ parts.1 in
    let values = values_of form.places words in
    record {
      event = gives.0 values;
      said = ap (λ fs. event_by fs words) picked.first ∙ ap (option_map (λ g. g values)) gives.1;
      spelled = record {
        form = form;
        listed = picked.listed;
        values = values;
        said = words_say form.places words (small_form form picked.listed) row.agree row.long no_fault;
        event = gives.0;
        built = gives.1;
        gives = refl {a = gives.0 values};
      };
    }

some_more : (p q : Form → Bool) → ((f : Form) → q f ≡ true → p f ≡ true) → (fs : List Form) → some (filter q fs) ≡ true → some (filter p fs) ≡ true
some_more p q more [] e = absurd (cc)
some_more p q more (f ∷ fs) e =
    elim (p f) as (λ t. p f ≡ t → some (filter p (f ∷ fs)) ≡ true) [
      | true ↦ λ on. rw on refl
      | false ↦ λ off.
          let off_too : q f ≡ false = false_from_ne_true _ (λ t. both_ways (p f) off (more f t)) in
          rw off (some_more p q more fs (rw off_too at e))
    ] refl

-- no form that is built begins with `pool`
abbrev begins_otherwise : List Place → Bool
begins_otherwise [] = false
begins_otherwise (The t ∷ ps) = not (bytes_eq (codes "pool") t)
begins_otherwise (Number low high ∷ ps) = false
begins_otherwise (Name ∷ ps) = false

abbrev is_no_pool : Form → Bool
is_no_pool f = not (is_some f.event) || begins_otherwise f.places

no_pool : list_all is_no_pool forms ≡ true
no_pool = refl

no_pool_word : (ps : List Place) (words : List (List ℕ)) → begins_otherwise ps ≡ true → agrees ps words ≡ true → is_pool words ≡ false
no_pool_word [] words e a = absurd (cc)
no_pool_word (p ∷ ps) [] e a = refl
no_pool_word (The t ∷ ps) (w ∷ ws) e a =
    let same = (bytes_eq-Decides t w).0 (and_parts (bytes_eq t w) (agrees ps ws) a).0 in
    ap (bytes_eq (codes "pool")) (sym same) ∙ not-true _ e
no_pool_word (Number low high ∷ ps) (w ∷ ws) e a = absurd (cc)
no_pool_word (Name ∷ ps) (w ∷ ws) e a = absurd (cc)

-- words that spell an event have no fault, and say it
pub record NoFault (begun : Bool) (words : List (List ℕ)) (e : Event) : Type 0 where
  pub none : fault_of_form begun words ≡ None
  pub said : event_of words ≡ Some e

pub no_fault_of_words : (begun : Bool) (words : List (List ℕ)) (e : Event) → Spells words e → NoFault begun words e
no_fault_of_words begun words e h =
    let form = h.form in
    let fits = said_fits form.places words h.values (small_form form h.listed) h.said in
    let only = only_row words form h.listed (record { is_built = ap is_some h.built; agree = fits.agree; long = fits.long }) in
    let shaped : some (fitting words) ≡ true = ap some only in
    let built : some (playable words) ≡ true = some_more (is_playable words) (is_fitting words) (λ f t. (and_parts (is_playable words f) _ t).0) forms shaped in
    let known : some (agreeing words) ≡ true = some_more (λ f. agrees f.places words) (is_playable words) (λ f t. (and_parts (is_some f.event) (agrees f.places words) t).1) forms built in
    let pool : is_pool words ≡ false = elim (or_cases (not (is_some form.event)) (begins_otherwise form.places) (row_passes is_no_pool no_pool form h.listed)) [
      | inl off ↦ absurd (both_ways _ (not-true _ off) (ap is_some h.built))
      | inr other ↦ no_pool_word form.places words other fits.agree
    ] in
    let rest = fault_by (fitting words) words in
    let shape = (fault.Shape, some (fitting words)) ∷ [] in
    let late = (fault.Late, not (is_pool words && begun)) ∷ shape in
    record {
      none =
          passing fault.Word (some (agreeing words)) ((fault.NotYet, some (playable words)) ∷ late) rest known
          ∙ passing fault.NotYet (some (playable words)) late rest built
          ∙ passing fault.Late (not (is_pool words && begun)) shape rest (not_from_false _ (and_left _ begun pool))
          ∙ passing fault.Shape (some (fitting words)) [] rest shaped
          ∙ ap (λ fs. fault_by fs words) only ∙ fits.no_fault;
      said =
          ap (λ fs. event_by fs words) only
          ∙ ap (option_map (λ (g : List Value → Event). g (values_of form.places words))) h.built
          ∙ ap Some (sym (h.gives ∙ ap h.event fits.same));
    }

pub whole_line : (above : Above) (line : List ℕ) (e : Event) → above.ended ≡ false → Spells (words_of line) e → fault_of_whole above line ≡ None
whole_line above line e open_above h =
    let fine_words = words_are_fine h.form (words_of line) h.values h.listed (small_form h.form h.listed) h.said in
    of_form above line (line_is_fine line fine_words) open_above ∙ (no_fault_of_words above.begun (words_of line) e h).none
