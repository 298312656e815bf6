-- The reading of a text, line by line: what is read so far, and what the rest of the text may still have.
use Rattle.std.proofs.Common.{◌≡◌, ℕ, ◌<◌, ◌≤◌, ◌+◌, ◌||◌, Bool, true, false, not, List, [], ◌∷◌, ◌++◌, length, Bor, Option, Some, None, ap, arith, sym, refl, ◌∙◌, append_assoc}
use Rattle.std.specs.Prelude.{filter, map, if◌then◌else◌}
use Rattle.std.specs.Option.{option_map, option_or}
use Rattle.std.specs.List.{cons_option, list_all}
use Rattle.std.proofs.lemmas.Bool.{cond-true, cond-false, not-true}
use Rattle.std.proofs.lemmas.List.{append-nil}
use Rattle.replay_model.specs.Script.{is_skipped, words_of, lines_of_words, lines_of_text, is_end}
use Rattle.replay_model.specs.FaultNumber.{number_of}
use Rattle.replay_model.specs.TextFault.{Above, fault_at, first_of, form_checks, line_checks, fault_by, fitting, event_of, fault_of_words, fault_of_line, ends, with_words, below, first_fault_behind, first_fault, nothing_above, is_byte_of_line}
use Rattle.replay_model.specs.declared.event.Event.{Event}
use Rattle.replay_model.specs.declared.text_fault.TextFault.{TextFault}
use Rattle.replay_model.specs.declared.text_fault.TextFault.TheVariants as fault
use Rattle.script_text.specs.Lines.{IsShorter}
use Rattle.script_text.specs.Reading.{fault_of_form, fault_of_whole, events_of, ReadsText, IsRefusal}
use Rattle.script_text.specs.declared.fault.ScriptFault.{ScriptFault}
use Rattle.script_text.proofs.Numbers.{passes}
use Rattle.script_text.proofs.Rows.{or_none}

-- the words of the lines that count
abbrev pub kept : List (List ℕ) → List (List (List ℕ))
kept lines = filter (λ (ws : List (List ℕ)). not (is_skipped ws)) (map words_of lines)

or_false : (b : Bool) → (b || false) ≡ b
or_false true = refl
or_false false = refl

-- a line that counts has a byte
pub counted_some : (line : List ℕ) → is_skipped (words_of line) ≡ false → 0 < length line
counted_some [] e = absurd (cc)
counted_some (b ∷ bs) e = omega arith

abbrev with_said : Above → Option Event → Above
with_said above said = record {
  begun = true;
  ended = ends said || above.ended;
}

module _ (above : Above) (line : List ℕ) where
  pub skipped_fault : is_skipped (words_of line) ≡ true → fault_of_line above line ≡ None
  skipped_fault e = cond-true (is_skipped (words_of line)) None (fault_of_words above line (words_of line)) e

  pub skipped_below : is_skipped (words_of line) ≡ true → below above line ≡ above
  skipped_below e = cond-true (is_skipped (words_of line)) above (with_words above (words_of line)) e

  -- a line that has no fault as a whole isn't behind the end, and its form has none
  pub whole_form : fault_of_whole above line ≡ None → (above.ended ≡ false) × (fault_of_form above.begun (words_of line) ≡ None)
  whole_form whole =
      let words = words_of line in
      let rest = fault_by (fitting words) words in
      let tests = or_none (first_of (line_checks above line words)) rest whole in
      let bytes = passes fault.Byte (list_all is_byte_of_line line) ((fault.Late, not above.ended) ∷ form_checks above.begun words) tests.0 in
      let late = passes fault.Late (not above.ended) (form_checks above.begun words) bytes.1 in
      (not-true _ late.0, ap (λ o. option_or o rest) late.1 ∙ tests.1)

  module _ (counts : is_skipped (words_of line) ≡ false) where
    pub counted_fault : fault_of_line above line ≡ fault_of_whole above line
    counted_fault = cond-false (is_skipped (words_of line)) None (fault_of_words above line (words_of line)) counts

    pub faulty : (f : TextFault) → fault_of_whole above line ≡ Some f → fault_of_line above line ≡ Some f
    faulty f e = counted_fault ∙ e

    module _ (whole : fault_of_whole above line ≡ None) (e : Event) (says : event_of (words_of line) ≡ Some e) where
      pub faultless : fault_of_line above line ≡ None
      faultless = counted_fault ∙ whole

      not_ended : above.ended ≡ false
      not_ended = (whole_form whole).0

      below_is : below above line ≡ with_said above (Some e)
      below_is =
          cond-false (is_skipped (words_of line)) above (with_words above (words_of line)) counts
          ∙ ap (with_said above) says

      pub ended_below : (below above line).ended ≡ is_end e
      ended_below = ap (λ (a : Above). a.ended) below_is ∙ ap (λ b. is_end e || b) not_ended ∙ or_false (is_end e)

-- the fault of a line, or of the lines behind it
pub one_line : (count : ℕ) (above : Above) (line : List ℕ) (more : List (List ℕ)) (o : Option TextFault) → fault_of_line above line ≡ o
    → first_fault_behind count above (line ∷ more) ≡ option_or (option_map (fault_at (count + 1)) o) (first_fault_behind (count + 1) (below above line) more)
one_line count above line more o e = ap (λ (x : Option TextFault). option_or (option_map (fault_at (count + 1)) x) (first_fault_behind (count + 1) (below above line) more)) e

-- what is read so far: no line had a fault, and these are the events
pub record ReadSoFar (text : List ℕ) (events : List Event) (count : ℕ) (ended : Bool) (lines : List (List ℕ)) : Type 0 where
  pub above : Above
  pub fault_is : first_fault text ≡ first_fault_behind count above lines
  pub events_are : events_of (lines_of_words text) ≡ events ++ events_of (kept lines)
  pub ended_is : above.ended ≡ ended

module _ {text : List ℕ} {events : List Event} {count : ℕ} {ended : Bool} {lines : List (List ℕ)} (r : ReadSoFar text events count ended lines) (line : List ℕ) (more : List (List ℕ)) (first : lines ≡ line ∷ more) where
  at_line : first_fault text ≡ first_fault_behind count r.above (line ∷ more)
  at_line = r.fault_is ∙ ap (first_fault_behind count r.above) first

  skipped_kept : is_skipped (words_of line) ≡ true → kept lines ≡ kept more
  skipped_kept e = ap kept first ∙ (rw e refl)

  counted_kept : is_skipped (words_of line) ≡ false → kept lines ≡ words_of line ∷ kept more
  counted_kept e = ap kept first ∙ (rw e refl)

  pub more_skipped : is_skipped (words_of line) ≡ true → ReadSoFar text events (count + 1) ended more
  more_skipped e = record {
    above = r.above;
    fault_is =
        at_line ∙ one_line count r.above line more None (skipped_fault r.above line e)
        ∙ ap (λ a. first_fault_behind (count + 1) a more) (skipped_below r.above line e);
    events_are = r.events_are ∙ ap (λ ws. events ++ events_of ws) (skipped_kept e);
    ended_is = r.ended_is;
  }

  -- a fault at this line
  pub fault_here : (f : TextFault) → fault_of_line r.above line ≡ Some f → first_fault text ≡ Some (fault_at (count + 1) f)
  fault_here f e = at_line ∙ one_line count r.above line more (Some f) e

  module _ (counts : is_skipped (words_of line) ≡ false) (whole : fault_of_whole r.above line ≡ None) (e : Event) (says : event_of (words_of line) ≡ Some e) where
    pub more_read : ReadSoFar text (events ++ e ∷ []) (count + 1) (is_end e) more
    more_read = record {
      above = below r.above line;
      fault_is = at_line ∙ one_line count r.above line more None (faultless r.above line counts whole e says);
      events_are =
          r.events_are ∙ ap (λ ws. events ++ events_of ws) (counted_kept counts)
          ∙ ap (λ o. events ++ cons_option o (events_of (kept more))) says
          ∙ sym (append_assoc events (e ∷ []) (events_of (kept more)));
      ended_is = ended_below r.above line counts whole e says;
    }

-- all lines are read
pub read_whole : {text : List ℕ} {events : List Event} {count : ℕ} → ReadSoFar text events count true [] → ReadsText text events
read_whole {events = events} {count = count} r = record {
  no_fault = r.fault_is ∙ ap (λ b. if b then None else Some (fault_at count fault.NoEnd)) r.ended_is;
  events_are = sym (r.events_are ∙ append-nil events);
}

pub no_end : {text : List ℕ} {events : List Event} {count : ℕ} → ReadSoFar text events count false [] → first_fault text ≡ Some (fault_at count fault.NoEnd)
no_end {count = count} r = r.fault_is ∙ ap (λ b. if b then None else Some (fault_at count fault.NoEnd)) r.ended_is

pub refusal : (text : List ℕ) (count : ℕ) (f : TextFault) (e : ScriptFault) → e ≡ record { line = count; number = number_of f } → first_fault text ≡ Some (fault_at count f) → IsRefusal text e
refusal text count f e is h = rw is h

-- the bytes of the rest of a text, and at most so many lines
abbrev pub bytes_left : Option (Bor (List ℕ)) → ℕ
bytes_left None = 0
bytes_left (Some rest) = length rest.now

abbrev pub parts_left : Option (Bor (List ℕ)) → ℕ
parts_left None = 0
parts_left (Some rest) = length rest.now + 1

pub nothing_read : (text : List ℕ) (events : List Event) → events ≡ [] → ReadSoFar text events 0 false (lines_of_text text)
nothing_read text events none = record {
  above = nothing_above;
  fault_is = refl;
  events_are = ap (λ es. es ++ events_of (kept (lines_of_text text))) (sym none);
  ended_is = refl;
}

-- the step of the two counts
pub fewer : (text line : List ℕ) (rest : Option (Bor (List ℕ))) (lines events size : ℕ) → IsShorter text line rest → lines + (length text + 1) ≤ size + 1 → events + length text ≤ size
    → (lines + 1 + parts_left rest ≤ size + 1) × (events + bytes_left rest ≤ size) × (0 < length line → events + 1 + bytes_left rest ≤ size)
fewer text line None lines events size shorter few_lines few = (omega arith, omega arith, λ some. let same = ap length shorter in omega arith)
fewer text line (Some rest) lines events size shorter few_lines few = (omega arith, omega arith, λ some. omega arith)
