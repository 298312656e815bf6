-- Ordered tests, and the first that fails.
use Rattle.std.proofs.Common.{◌≡◌, ◌≢◌, ℕ, ◌&&◌, Bool, true, false, not, List, [], ◌∷◌, Option, Some, Ok, Err, refl, ap, sym, ◌∙◌}
use Rattle.std.specs.Prelude.{filter}
use Rattle.std.specs.Option.{option_or}
use Rattle.std.specs.List.{list_all, AllByRecursion}
use Rattle.std.specs.Str.{bytes_eq}
use Rattle.std.proofs.lemmas.Bool.{and_left, false_from_ne_true}
use Rattle.std.proofs.lemmas.Slice.Eq.{bytes_eq-Decides}
use Rattle.replay_model.specs.Forms.{forms}
use Rattle.replay_model.specs.Script.{is_skipped, words_of}
use Rattle.replay_model.specs.TextFault.{Above, Checks, first_of, form_checks, fault_by, fitting, agreeing, playable, some, agrees, event_of, is_byte_of_line, is_pool}
use Rattle.replay_model.specs.declared.event.Event.{Event}
use Rattle.replay_model.specs.declared.text_fault.TextFault.{TextFault}
use Rattle.replay_model.specs.declared.text_fault.TextFault.TheVariants as fault
use Rattle.script_text.specs.Reading.{fault_of_form, fault_of_whole, ReadsLine, ReadsWords}
use Rattle.script_text.specs.Words.{text_of, asked_text_of}
use Rattle.script_text.specs.declared.verb.Verb.{Verb}
use Rattle.script_text.specs.declared.verb.Verb.TheVariants as verb
use Rattle.script_text.specs.declared.verb.CallVerb.{CallVerb}
use Rattle.script_text.specs.declared.verb.CallVerb.TheVariants as asked

pub passing : (f : TextFault) (b : Bool) (rows : Checks) (rest : Option TextFault) → b ≡ true → option_or (first_of ((f, b) ∷ rows)) rest ≡ option_or (first_of rows) rest
passing f true rows rest e = refl
passing f false rows rest e = absurd (cc)

pub failing : (f : TextFault) (b : Bool) (rows : Checks) (rest : Option TextFault) → b ≡ false → option_or (first_of ((f, b) ∷ rows)) rest ≡ Some f
failing f true rows rest e = absurd (cc)
failing f false rows rest e = refl

module _ (above : Above) (line : List ℕ) (bytes : list_all is_byte_of_line line ≡ true) where
  -- behind the end each line is too late
  pub late : above.ended ≡ true → fault_of_whole above line ≡ Some fault.Late
  late ended =
      let words = words_of line in
      let rest = fault_by (fitting words) words in
      passing fault.Byte (list_all is_byte_of_line line) ((fault.Late, not above.ended) ∷ form_checks above.begun words) rest bytes
      ∙ failing fault.Late (not above.ended) (form_checks above.begun words) rest (rw ended refl)

  -- before it a line of fine bytes has the faults of its form
  pub of_form : above.ended ≡ false → fault_of_whole above line ≡ fault_of_form above.begun (words_of line)
  of_form ended =
      let words = words_of line in
      let rest = fault_by (fitting words) words in
      passing fault.Byte (list_all is_byte_of_line line) ((fault.Late, not above.ended) ∷ form_checks above.begun words) rest bytes
      ∙ passing fault.Late (not above.ended) (form_checks above.begun words) rest (rw ended refl)

none_pass : {X : Type 0} (p : X → Bool) (xs : List X) → AllByRecursion (λ x. p x ≡ false) xs → filter p xs ≡ []
none_pass p [] h = refl
none_pass p (x ∷ xs) h = let e = h.0 in rw e (none_pass p xs h.1)

other_word : (w text : List ℕ) → w ≢ text → bytes_eq text w ≡ false
other_word w text other = false_from_ne_true _ (λ t. other (sym ((bytes_eq-Decides text w).0 t)))

no_form : (begun : Bool) (words : List (List ℕ)) → agreeing words ≡ [] → fault_of_form begun words ≡ Some fault.Word
no_form begun words none =
    failing fault.Word (some (agreeing words)) ((fault.NotYet, some (playable words)) ∷ (fault.Late, not (is_pool words && begun)) ∷ (fault.Shape, some (fitting words)) ∷ [])
    (fault_by (fitting words) words) (ap some none)

-- a line whose first word begins no form
pub unknown_word : (begun : Bool) (first : List ℕ) (more : List (List ℕ)) → ((v : Verb) → first ≢ text_of v) → fault_of_form begun (first ∷ more) ≡ Some fault.Word
unknown_word begun first more other =
    let off : (v : Verb) → bytes_eq (text_of v) first ≡ false = λ v. other_word first (text_of v) (other v) in
    let at : (v : Verb) (b : Bool) → (bytes_eq (text_of v) first && b) ≡ false = λ v b. and_left _ b (off v) in
    no_form begun (first ∷ more) (none_pass (λ f. agrees f.places (first ∷ more)) forms (
      at verb.Call _,
      (
        at verb.Call _,
        (
          at verb.Call _,
          (
            at verb.Call _,
            (
              at verb.Call _,
              (
                at verb.Call _,
                (
                  at verb.Call _,
                  (
                    at verb.Pool _,
                    (
                      at verb.Second _,
                      (
                        at verb.Bind _,
                        (
                          at verb.Tick _,
                          (
                            at verb.Tick _,
                            (
                              at verb.Deliver _,
                              (
                                at verb.Damage _,
                                (
                                  at verb.Work _,
                                  (
                                    at verb.Export _,
                                    (
                                      at verb.Withdraw _,
                                      (
                                        at verb.Restart _,
                                        (
                                          at verb.Skip _,
                                          (
                                            at verb.Show _,
                                            (at verb.Holders _, (at verb.Sweep _, (at verb.Journal _, (at verb.End _, tt)))),
                                          ),
                                        ),
                                      ),
                                    ),
                                  ),
                                ),
                              ),
                            ),
                          ),
                        ),
                      ),
                    ),
                  ),
                ),
              ),
            ),
          ),
        ),
      ),
    ))

-- a call whose fourth word is no call word
pub unknown_call : (begun : Bool) (machine process word : List ℕ) (more : List (List ℕ)) → ((v : CallVerb) → word ≢ asked_text_of v) → fault_of_form begun (text_of verb.Call ∷ machine ∷ process ∷ word ∷ more) ≡ Some fault.Word
unknown_call begun machine process word more other =
    let words = text_of verb.Call ∷ machine ∷ process ∷ word ∷ more in
    let at : (v : CallVerb) (b : Bool) → (bytes_eq (asked_text_of v) word && b) ≡ false = λ v b. and_left _ b (other_word word (asked_text_of v) (other v)) in
    no_form begun words (none_pass (λ f. agrees f.places words) forms (
      at asked.Null _,
      (
        at asked.Add _,
        (
          at asked.Bump _,
          (
            at asked.MaxArg _,
            (
              at asked.MaxResult _,
              (
                at asked.BigArg _,
                (
                  at asked.BigResult _,
                  (refl, (refl, (refl, (refl, (refl, (refl, (refl, (refl, (refl, (refl, (refl, (refl, (refl, (refl, (refl, (refl, (refl, tt))))))))))))))))),
                ),
              ),
            ),
          ),
        ),
      ),
    ))

-- no line that begins with one of the words is skipped
pub counts_from : (v : Verb) (more : List (List ℕ)) → is_skipped (text_of v ∷ more) ≡ false
counts_from verb.Pool more = refl
counts_from verb.Second more = refl
counts_from verb.Call more = refl
counts_from verb.Bind more = refl
counts_from verb.Tick more = refl
counts_from verb.Deliver more = refl
counts_from verb.Damage more = refl
counts_from verb.Work more = refl
counts_from verb.Export more = refl
counts_from verb.Withdraw more = refl
counts_from verb.Restart more = refl
counts_from verb.Skip more = refl
counts_from verb.Show more = refl
counts_from verb.Holders more = refl
counts_from verb.Sweep more = refl
counts_from verb.Journal more = refl
counts_from verb.End more = refl

module _ (line first : List ℕ) (more : List (List ℕ)) (words : words_of line ≡ first ∷ more) (counts : is_skipped (first ∷ more) ≡ false) where
  pub is_counted : is_skipped (words_of line) ≡ false
  is_counted = ap is_skipped words ∙ counts

  pub reads_byte : (above : Above) → list_all is_byte_of_line line ≡ false → ReadsLine above line (Err fault.Byte)
  reads_byte above other =
      let ws = words_of line in
      (is_counted, failing fault.Byte (list_all is_byte_of_line line) ((fault.Late, not above.ended) ∷ form_checks above.begun ws) (fault_by (fitting ws) ws) other)

  module _ (above : Above) (bytes : list_all is_byte_of_line line ≡ true) where
    pub reads_late : above.ended ≡ true → ReadsLine above line (Err fault.Late)
    reads_late ended = (is_counted, late above line bytes ended)

    module _ (open_above : above.ended ≡ false) where
      pub reads_unknown : ((v : Verb) → first ≢ text_of v) → ReadsLine above line (Err fault.Word)
      reads_unknown other =
          (is_counted, of_form above line bytes open_above ∙ ap (fault_of_form above.begun) words ∙ unknown_word above.begun first more other)

      -- what the words read as behind a first word that is known
      pub reads_event : (v : Verb) (e : Event) → first ≡ text_of v → ReadsWords above.begun (text_of v ∷ more) (Ok e) → ReadsLine above line (Ok (Some e))
      reads_event v e is h =
          let same : words_of line ≡ text_of v ∷ more = words ∙ ap (λ w. w ∷ more) is in
          (is_counted, of_form above line bytes open_above ∙ ap (fault_of_form above.begun) same ∙ h.0, ap event_of same ∙ h.1)

      pub reads_fault : (v : Verb) (f : TextFault) → first ≡ text_of v → ReadsWords above.begun (text_of v ∷ more) (Err f) → ReadsLine above line (Err f)
      reads_fault v f is h =
          let same : words_of line ≡ text_of v ∷ more = words ∙ ap (λ w. w ∷ more) is in
          (is_counted, of_form above line bytes open_above ∙ ap (fault_of_form above.begun) same ∙ h)
