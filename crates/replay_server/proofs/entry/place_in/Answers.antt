use Rattle.std.proofs.Common.{◌≡◌, ℕ, ◌≤◌, List, length, Some, None, Bool, true, false, cond, set, refl, arith}
use Rattle.std.specs.Prelude.{slice_get}
use Rattle.std.proofs.lemmas.Option.{slice_get_past}
use Rattle.std.proofs.lemmas.List.{set_past}
use Rattle.call_rules.specs.Entry.{Entry}
use Rattle.replay_model.specs.World.{is_entry_activity, entry_place}
use Rattle.replay_server.proofs.entry.place_in.Goals as goal

-- a place past the entries
past_entry : (inside : Bool) (es : List Entry) (i k : ℕ) → Some i ≡ cond inside (Some k) None → length es ≤ i → cond inside (slice_get es k) None ≡ None
past_entry true es i k is past =
    let same : i ≡ k = cc in
    slice_get_past es k (omega arith)
past_entry false es i k is past = refl

past_set : (inside : Bool) (es : List Entry) (i k : ℕ) (e : Entry) → Some i ≡ cond inside (Some k) None → length es ≤ i → cond inside (set es k e) es ≡ es
past_set true es i k e is past =
    let same : i ≡ k = cc in
    set_past es k e (omega arith)
past_set false es i k e is past = refl

pub returns-else-place-entries : goal.returns-else-place-entries
returns-else-place-entries c =
    let past : length c.args.entries.now ≤ c.in_ok-place.place = omega arith in (
      past_entry (is_entry_activity c.args.activity) c.args.entries.now c.in_ok-place.place (entry_place c.args.activity) c.in_ok-place.ensures past,
      λ e. past_set (is_entry_activity c.args.activity) c.args.entries.now c.in_ok-place.place (entry_place c.args.activity) e c.in_ok-place.ensures past,
    )
