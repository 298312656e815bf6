-- Each line is skipped, has the first fault, or gives one more event.
use Rattle.std.proofs.Common.{◌≡◌, ℕ, ◌<◌, ◌≤◌, ◌+◌, length, vec_len, Bor, List, ◌∷◌, Option, Ok, IfSome, inr, ap, arith, subst, sym, ◌∙◌}
use Rattle.std.specs.List.{All}
use Rattle.std.proofs.lemmas.List.Elements.{All-nil, All-push}
use Rattle.replay_model.specs.Forms.{InRange}
use Rattle.replay_model.specs.declared.event.Event.{Event}
use Rattle.script_text.specs.Lines.{lines_of_rest}
use Rattle.script_text.specs.Reading.{ReadsLine}
use Rattle.script_text.proofs.Plain.{plain_lines, fine_first}
use Rattle.script_text.proofs.Walking.{counted_some, faulty, more_skipped, more_read, fault_here, refusal, nothing_read, fewer, parts_left, bytes_left}
use Rattle.script_text.proofs.script.read_events.Goals as goal
use Rattle.script_text.proofs.script.read_events.Goals.{After-read_line}

pub loop-rest-init : goal.loop-rest-init
loop-rest-init c = record {
  so_far = nothing_read c.args.text.now c.new-events.result.items c.new-events.ensures.items;
  few_lines = omega arith;
  few = omega arith;
  in_range = let P : List Event → Type 0 = All InRange in subst P (sym c.new-events.ensures.items) (All-nil InRange);
  fine_lines = λ e. plain_lines c.args.text.now (sym c.is_plain-plain.ensures ∙ e);
}

-- the lines of the rest
here : (c : After-read_line) → lines_of_rest c.loop-rest.rest ≡ c.first_line.result.0.now ∷ lines_of_rest c.first_line.result.1
here c = ap lines_of_rest c.in-Some.is ∙ c.first_line.ensures.lines

-- the next line of a plain text has only bytes that a line may have
pub is_fine-requires : goal.is_fine-requires
is_fine-requires c = λ e. (fine_first _ c.first_line.result.0.now (lines_of_rest c.first_line.result.1)
    (ap lines_of_rest c.in-Some.is ∙ c.first_line.ensures.lines) (c.loop-rest.invariant.fine_lines e)).0

-- the counts, one line on
counted : (c : After-read_line) → (c.loop-rest.line + 1 + parts_left c.first_line.result.1 ≤ length c.args.text.now + 1)
    × (vec_len c.loop-rest.events + bytes_left c.first_line.result.1 ≤ length c.args.text.now)
    × (0 < length c.first_line.result.0.now → vec_len c.loop-rest.events + 1 + bytes_left c.first_line.result.1 ≤ length c.args.text.now)
counted c =
    let L : Option (Bor (List ℕ)) → Type 0 = λ rest. c.loop-rest.line + parts_left rest ≤ length c.args.text.now + 1 in
    let E : Option (Bor (List ℕ)) → Type 0 = λ rest. vec_len c.loop-rest.events + bytes_left rest ≤ length c.args.text.now in
    fewer c.in-Some.text.now c.first_line.result.0.now c.first_line.result.1 c.loop-rest.line (vec_len c.loop-rest.events) (length c.args.text.now)
    c.first_line.ensures.shorter (subst L c.in-Some.is c.loop-rest.invariant.few_lines) (subst E c.in-Some.is c.loop-rest.invariant.few)

pub returns-in-Err-clause-refused : goal.returns-in-Err-clause-refused
returns-in-Err-clause-refused c =
    let r = c.loop-rest.invariant.so_far in
    let line = c.first_line.result.0.now in
    let more = lines_of_rest c.first_line.result.1 in
    let first = here (goal.at.returns-in-Err-clause-refused c).After-read_line in
    let told = c.in-Err.ensures.reads r.above r.ended_is in
    inr (refusal c.args.text.now (c.loop-rest.line + 1) c.in-Err.fault c.at.result c.at.ensures
    (fault_here r line more first c.in-Err.fault (faulty r.above line told.0 c.in-Err.fault told.1)))

pub loop-rest-preserved-in-Ok-None : goal.loop-rest-preserved-in-Ok-None
loop-rest-preserved-in-Ok-None c =
    let r = c.loop-rest.invariant.so_far in
    let line = c.first_line.result.0.now in
    let more = lines_of_rest c.first_line.result.1 in
    let first = here (goal.at.loop-rest-preserved-in-Ok-None c).After-read_line in
    let P : Option Event → Type 0 = λ o. ReadsLine r.above line (Ok o) in
    let told = subst P c.in-Ok-None.field-0-is (c.in-Ok-None.ensures.reads r.above r.ended_is) in
    record {
      so_far = more_skipped r line more first told;
      few_lines = (counted (goal.at.loop-rest-preserved-in-Ok-None c).After-read_line).0;
      few = (counted (goal.at.loop-rest-preserved-in-Ok-None c).After-read_line).1;
      in_range = c.loop-rest.invariant.in_range;
      fine_lines = λ e. (fine_first _ line more first (c.loop-rest.invariant.fine_lines e)).1;
    }

pub loop-rest-preserved : goal.loop-rest-preserved
loop-rest-preserved c =
    let r = c.loop-rest.invariant.so_far in
    let line = c.first_line.result.0.now in
    let more = lines_of_rest c.first_line.result.1 in
    let first = here (goal.at.loop-rest-preserved c).After-read_line in
    let event = c.in-Ok-Some.event in
    let P : Option Event → Type 0 = λ o. ReadsLine r.above line (Ok o) in
    let told = subst P c.in-Ok-Some.field-0-is (c.in-Ok-Some.ensures.reads r.above r.ended_is) in
    let Q : Option Event → Type 0 = λ o. IfSome o InRange in
    let in_range = subst Q c.in-Ok-Some.field-0-is c.in-Ok-Some.ensures.in_range in
    let fewer = counted (goal.at.loop-rest-preserved c).After-read_line in
    record {
      so_far = rw (c.in_ok-push-in-Ok-Some.ensures.items, c.is_end-ended.ensures) (more_read r line more first told.0 told.1 event told.2);
      few_lines = fewer.0;
      few = let pushed = c.in_ok-push-in-Ok-Some.ensures.len in rw pushed (fewer.2 (counted_some line told.0));
      in_range = rw c.in_ok-push-in-Ok-Some.ensures.items (All-push InRange c.loop-rest.events.items event c.loop-rest.invariant.in_range in_range);
      fine_lines = λ e. (fine_first _ line more first (c.loop-rest.invariant.fine_lines e)).1;
    }
