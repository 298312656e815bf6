-- A text has no fault just where it is spelled by a script, which is that of its lines' events.
use Rattle.std.proofs.Common.{◌≡◌, ℕ, ◌+◌, Bool, true, false, List, [], ◌∷◌, Option, Some, None, MatchBool, ap, sym, refl, subst, ◌∙◌}
use Rattle.std.specs.Prelude.{if◌then◌else◌}
use Rattle.std.specs.Option.{option_map}
use Rattle.std.specs.List.{cons_option, AllZip}
use Rattle.replay_model.specs.Script.{Script, IsScript, Spells, EndsOnce, is_skipped, words_of, lines_of_words, lines_of_text}
use Rattle.replay_model.specs.TextFault.{Above, fault_at, fault_of_line, below, first_fault, first_fault_behind, nothing_above}
use Rattle.replay_model.specs.declared.limits.TheConstants.{SMALL_BUFFERS, LONG_BUFFERS}
use Rattle.replay_model.specs.declared.event.Event.{Event}
use Rattle.replay_model.specs.declared.text_fault.TextFault.TheVariants as fault
use Rattle.script_text.specs.Reading.{events_of}
use Rattle.script_text.proofs.LineLaw.{spelled_words, no_fault_of_words, whole_line}
use Rattle.script_text.proofs.Rows.{or_none}
use Rattle.script_text.proofs.Walking.{kept, skipped_fault, skipped_below, counted_fault, faultless, ended_below, one_line, whole_form}

-- what the events behind some lines must be, by what the lines above say
abbrev EndsFrom : Bool → List Event → Type 0
EndsFrom ended es = MatchBool ended (es ≡ []) (EndsOnce es)

record Continues (above : Above) (lines : List (List ℕ)) (es : List Event) : Type 0 where
  spelled : AllZip Spells (kept lines) es
  ends : EndsFrom above.ended es

map_none : {X Y : Type 0} (f : X → Y) (o : Option X) → option_map f o ≡ None → o ≡ None
map_none f None e = refl
map_none f (Some x) e = absurd (cc)

skipped_kept : (line : List ℕ) (more : List (List ℕ)) → is_skipped (words_of line) ≡ true → kept (line ∷ more) ≡ kept more
skipped_kept line more e = rw e refl

counted_kept : (line : List ℕ) (more : List (List ℕ)) → is_skipped (words_of line) ≡ false → kept (line ∷ more) ≡ words_of line ∷ kept more
counted_kept line more e = rw e refl

no_end_here : (count : ℕ) (above : Above) → above.ended ≡ false → first_fault_behind count above [] ≡ None → ⊥
no_end_here count above off e =
    let there : first_fault_behind count above [] ≡ Some (fault_at count fault.NoEnd) = ap (λ b. if b then None else Some (fault_at count fault.NoEnd)) off in
    cc

skipped_line : (above : Above) (line : List ℕ) (more : List (List ℕ)) → is_skipped (words_of line) ≡ true
    → Continues (below above line) more (events_of (kept more)) → Continues above (line ∷ more) (events_of (kept (line ∷ more)))
skipped_line above line more skipped rest =
    let lines : kept (line ∷ more) ≡ kept more = skipped_kept line more skipped in
    let same : below above line ≡ above = skipped_below above line skipped in
    let P : List (List (List ℕ)) → Type 0 = λ ls. AllZip Spells ls (events_of ls) in
    let E : List (List (List ℕ)) → Type 0 = λ ls. EndsFrom above.ended (events_of ls) in
    let A : Above → Type 0 = λ a. EndsFrom a.ended (events_of (kept more)) in
    record {
      spelled = subst P (sym lines) rest.spelled;
      ends = subst E (sym lines) (subst A same rest.ends);
    }

counted_line : (above : Above) (line : List ℕ) (more : List (List ℕ)) → is_skipped (words_of line) ≡ false → fault_of_line above line ≡ None
    → Continues (below above line) more (events_of (kept more)) → Continues above (line ∷ more) (events_of (kept (line ∷ more)))
counted_line above line more counts here rest =
    let whole = sym (counted_fault above line counts) ∙ here in
    let form = whole_form above line whole in
    let by = spelled_words above.begun (words_of line) form.1 in
    let e = by.event in
    let says = by.said in
    let lines : kept (line ∷ more) ≡ words_of line ∷ kept more = counted_kept line more counts in
    let events : events_of (kept (line ∷ more)) ≡ e ∷ events_of (kept more) = ap events_of lines ∙ ap (λ o. cons_option o (events_of (kept more))) says in
    let P : List (List (List ℕ)) → Type 0 = λ ls. AllZip Spells ls (e ∷ events_of (kept more)) in
    let Q : List Event → Type 0 = λ es. AllZip Spells (kept (line ∷ more)) es in
    let E : List Event → Type 0 = λ es. EndsFrom above.ended es in
    let F : Bool → Type 0 = λ b. EndsFrom b (e ∷ events_of (kept more)) in
    let G : Bool → Type 0 = λ b. EndsFrom b (events_of (kept more)) in
    let ended = ended_below above line counts whole e says in
    record {
      spelled = subst Q (sym events) (subst P (sym lines) (by.spelled, rest.spelled));
      ends = subst E (sym events) (subst F (sym form.0) (subst G ended rest.ends));
    }

-- lines without a fault spell events
spelled_lines : (count : ℕ) (above : Above) (lines : List (List ℕ)) → first_fault_behind count above lines ≡ None → Continues above lines (events_of (kept lines))
spelled_lines count above [] e =
    elim (above.ended) as (λ t. above.ended ≡ t → Continues above [] []) [
      | true ↦ λ on. record { spelled = tt; ends = (let P : Bool → Type 0 = λ b. EndsFrom b [] in subst P (sym on) refl) }
      | false ↦ λ off. absurd (no_end_here count above off e)
    ] refl
spelled_lines count above (line ∷ more) e =
    let parts = or_none (option_map (fault_at (count + 1)) (fault_of_line above line)) (first_fault_behind (count + 1) (below above line) more) e in
    let here : fault_of_line above line ≡ None = map_none (fault_at (count + 1)) (fault_of_line above line) parts.0 in
    let rest = spelled_lines (count + 1) (below above line) more parts.1 in
    elim (is_skipped (words_of line)) as (λ t. is_skipped (words_of line) ≡ t → Continues above (line ∷ more) (events_of (kept (line ∷ more)))) [
      | true ↦ λ skipped. skipped_line above line more skipped rest
      | false ↦ λ counts. counted_line above line more counts here rest
    ] refl

-- lines that spell events have no fault, and spell those of each
record NoFaults (count : ℕ) (above : Above) (lines : List (List ℕ)) (es : List Event) : Type 0 where
  none : first_fault_behind count above lines ≡ None
  same : es ≡ events_of (kept lines)

no_lines : (count : ℕ) (above : Above) (es : List Event) → Continues above [] es → NoFaults count above [] es
no_lines count above [] h =
    elim (above.ended) as (λ t. above.ended ≡ t → NoFaults count above [] []) [
      | true ↦ λ on. record { none = ap (λ b. if b then None else Some (fault_at count fault.NoEnd)) on; same = refl }
      | false ↦ λ off. absurd (let P : Bool → Type 0 = λ b. EndsFrom b [] in subst P off h.ends)
    ] refl
no_lines count above (e ∷ es) h = absurd h.spelled

not_behind_the_end : (ended : Bool) (e : Event) (es : List Event) → EndsFrom ended (e ∷ es) → ended ≡ false
not_behind_the_end true e es h = absurd (cc)
not_behind_the_end false e es h = refl

no_fault_counted : (count : ℕ) (above : Above) (line : List ℕ) (more : List (List ℕ)) (es : List Event) → is_skipped (words_of line) ≡ false
    → AllZip Spells (words_of line ∷ kept more) es → EndsFrom above.ended es
    → ((fs : List Event) → Continues (below above line) more fs → NoFaults (count + 1) (below above line) more fs) → NoFaults count above (line ∷ more) es
no_fault_counted count above line more [] counts spelled ends step = absurd spelled
no_fault_counted count above line more (e ∷ es) counts spelled ends step =
    let open_above = not_behind_the_end above.ended e es ends in
    let says = (no_fault_of_words above.begun (words_of line) e spelled.0).said in
    let whole = whole_line above line e open_above spelled.0 in
    let E : Bool → Type 0 = λ b. EndsFrom b (e ∷ es) in
    let G : Bool → Type 0 = λ b. EndsFrom b es in
    let rest = step es (record {
      spelled = spelled.1;
      ends = subst G (sym (ended_below above line counts whole e says)) (subst E open_above ends);
    }) in
    record {
      none = one_line count above line more None (faultless above line counts whole e says) ∙ rest.none;
      same =
          ap (λ fs. e ∷ fs) rest.same
          ∙ ap (λ o. cons_option o (events_of (kept more))) (sym says)
          ∙ ap events_of (sym (counted_kept line more counts));
    }

no_faults_in : (count : ℕ) (above : Above) (lines : List (List ℕ)) (es : List Event) → Continues above lines es → NoFaults count above lines es
no_faults_in count above [] es h = no_lines count above es h
no_faults_in count above (line ∷ more) es h =
    elim (is_skipped (words_of line)) as (λ t. is_skipped (words_of line) ≡ t → NoFaults count above (line ∷ more) es) [
      | true ↦ λ skipped.
          let lines = skipped_kept line more skipped in
          let same = skipped_below above line skipped in
          let P : List (List (List ℕ)) → Type 0 = λ ls. AllZip Spells ls es in
          let A : Above → Type 0 = λ a. EndsFrom a.ended es in
          let rest = no_faults_in (count + 1) (below above line) more es (record {
            spelled = subst P lines h.spelled;
            ends = subst A (sym same) h.ends;
          }) in
          record {
            none = one_line count above line more None (skipped_fault above line skipped) ∙ rest.none;
            same = rest.same ∙ ap events_of (sym lines);
          }
      | false ↦ λ counts.
          let lines = counted_kept line more counts in
          let P : List (List (List ℕ)) → Type 0 = λ ls. AllZip Spells ls es in
          no_fault_counted count above line more es counts (subst P lines h.spelled) h.ends (λ fs. no_faults_in (count + 1) (below above line) more fs)
    ] refl

abbrev pub script_in : List ℕ → Script
script_in text = record { small = SMALL_BUFFERS; long = LONG_BUFFERS; events = events_of (lines_of_words text) }

-- a text without a fault is the script of its events
pub spelled_text : (text : List ℕ) → first_fault text ≡ None → IsScript text (script_in text)
spelled_text text e =
    let all = spelled_lines 0 nothing_above (lines_of_text text) e in
    record { spelled = all.spelled; ended = all.ends; small_is = refl; long_is = refl }

whole_text : (text : List ℕ) (s : Script) → IsScript text s → NoFaults 0 nothing_above (lines_of_text text) s.events
whole_text text s h = no_faults_in 0 nothing_above (lines_of_text text) s.events (record {
  spelled = h.spelled;
  ends = h.ended;
})

pub no_fault_of_script : (text : List ℕ) (s : Script) → IsScript text s → first_fault text ≡ None
no_fault_of_script text s h = (whole_text text s h).none

same_script : (a b : Script) → a.small ≡ b.small → a.long ≡ b.long → a.events ≡ b.events → a ≡ b
same_script a b small long events =
    let f : ℕ → Script = λ n. record { small = n; long = a.long; events = a.events } in
    let g : ℕ → Script = λ n. record { small = b.small; long = n; events = a.events } in
    let h : List Event → Script = λ es. record { small = b.small; long = b.long; events = es } in
    ap f small ∙ ap g long ∙ ap h events

pub one_script : (text : List ℕ) (a b : Script) → IsScript text a → IsScript text b → a ≡ b
one_script text a b h k =
    same_script a b (h.small_is ∙ sym k.small_is) (h.long_is ∙ sym k.long_is) ((whole_text text a h).same ∙ sym (whole_text text b k).same)
