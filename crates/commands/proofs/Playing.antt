-- A script that is being played: how far, what is kept and what was written.
use Rattle.std.specs.Prelude.{All}
use Rattle.std.proofs.Common.{◌≡◌, ◌⊎◌, ℕ, ◌+◌, ◌*◌, ◌<◌, List, [], ◌∷◌, ◌++◌, length, take, drop, get_or, refl, sym, ap, subst, ◌∙◌, inl, inr, append_assoc, append-nil, arith, add-one}
use Rattle.std.proofs.Math.Seq.{take-length, take-suc}
use Rattle.std.proofs.lemmas.List.{take-append-drop}
use Rattle.std.proofs.lemmas.List.Elements.{All-take, All-get_or}
use Rattle.replay_model.specs.declared.event.Event.{Event}
use Rattle.replay_model.specs.declared.event.Event.TheVariants as event
use Rattle.replay_model.specs.Lines.{EndsLine}
use Rattle.replay_model.specs.Record.{Counts, counts_of, no_records}
use Rattle.replay_model.specs.World as model
use Rattle.replay_model.specs.Forms.{InRange}
use Rattle.replay_model.specs.Script.{Script}
use Rattle.replay_model.specs.Step.{step, outcome, run}
use Rattle.replay_model.specs.Transcript.{transcript, lines, lines_from}
use Rattle.replay_world.specs.Kept.{HasNamed}
use Rattle.replay_world.specs.Stands.{Stands}
use Rattle.replay_world.specs.Stored.{Stored, AllBelow, RoseByAtMost}
use Rattle.commands.specs.Outside.{Output, Wrote, Flushed}
use Rattle.commands.specs.Replay.{world_of, PlayedInPart, WroteLines, WroteFront}
use Rattle.commands.proofs.Laws.{OnceLaw, Nothing, InTurn, WholeLines, LinesJoin}

-- the first index events were played
pub record Playing (s : Script) (index : ℕ) (world : Stored) (out : List ℕ) (old new : Output) : Type 0 where
  pub stands : Stands world (run (world_of s) (take index s.events))
  -- what was written, and what is kept, are whole lines
  pub shown : List ℕ
  pub shown_ends : EndsLine shown
  pub out_ends : EndsLine out
  pub written : Wrote shown old new
  pub still : new.faults ≡ old.faults
  pub printed : lines_from (world_of s) (take index s.events) ≡ shown ++ out
  pub small : AllBelow (1000 * index + 1) world
  pub has_all : world.forgotten ≡ 0

-- nothing was sent or counted yet
below_one : (world : Stored) → world.bag ≡ [] → world.forgotten ≡ 0 → world.counts ≡ counts_of no_records → world.started ≡ 0 → world.lost ≡ 0 → AllBelow 1 world
below_one world bag forgotten counts started lost =
    let packets : length world.bag ≡ 0 = ap length bag in
    let runs : world.counts.runs ≡ 0 = ap (λ (c : Counts). c.runs) counts in
    let returned : world.counts.returned ≡ 0 = ap (λ (c : Counts). c.returned) counts in
    let signalled : world.counts.signalled ≡ 0 = ap (λ (c : Counts). c.signalled) counts in
    let failed : world.counts.failed ≡ 0 = ap (λ (c : Counts). c.failed) counts in
    let refused : world.counts.refused ≡ 0 = ap (λ (c : Counts). c.refused) counts in
    (omega (arith, packets), omega (arith, runs), omega (arith, returned), omega (arith, signalled), omega (arith, failed), omega (arith, refused), omega arith, omega arith)

-- one more event
below_more : (i : ℕ) (old new : Stored) → AllBelow (1000 * i + 1) old → RoseByAtMost 1000 old new → AllBelow (1000 * (i + 1) + 1) new
below_more i old new b r =
    (omega (arith, b.0, r.0), omega (arith, b.1, r.1.0), omega (arith, b.2, r.1.1), omega (arith, b.3, r.1.2), omega (arith, b.4, r.1.3), omega (arith, b.5, r.1.4), omega (arith, b.6, r.2), omega (arith, b.7, r.3))

pub Playing-start : Nothing → (s : Script) (world : Stored) (x : Output) → Stands world (model.first_world s.small s.long)
    → world.bag ≡ [] → world.forgotten ≡ 0 → world.counts ≡ counts_of no_records → world.started ≡ 0 → world.lost ≡ 0 → Playing s 0 world [] x x
Playing-start nothing s world x stands bag forgotten counts started lost = record {
  stands = stands;
  shown = [];
  shown_ends = inl refl;
  out_ends = inl refl;
  written = nothing x.written;
  still = refl;
  printed = refl;
  small = below_one world bag forgotten counts started lost;
  has_all = forgotten;
}

-- no event names a packet that is forgotten, where none is
has_named : (world : Stored) (e : Event) → world.forgotten ≡ 0 → InRange e → HasNamed world e
has_named world (event.Deliver packet) none range = omega (arith, range.0)
has_named world (event.Damage packet bit) none range = omega (arith, range.0)
has_named world (event.Show packet) none range = omega (arith, range.0)
has_named world _ none range = tt

pub Playing-named : (s : Script) (i : ℕ) (world : Stored) (events : List Event) (e : Event) (out : List ℕ) (old new : Output) → All InRange s.events
    → Playing s i world out old new → i < length s.events → events ≡ s.events → e ≡ get_or events i e → HasNamed world e
Playing-named s i world events e out old new ranges p below same is =
    let one : get_or s.events i e ≡ e = sym (is ∙ ap (λ xs. get_or xs i e) same) in
    has_named world e p.has_all (subst InRange one (All-get_or InRange s.events i e below ranges))

-- the events so far, and one more
run-push : (w : model.World) (events : List Event) (e : Event) → run w (events ++ e ∷ []) ≡ step (run w events) e
run-push w [] e = refl
run-push w (x ∷ events) e = run-push (step w x) events e

lines_from-append : (w : model.World) (these those : List Event) → lines_from w (these ++ those) ≡ lines_from w these ++ lines_from (run w these) those
lines_from-append w [] those = refl
lines_from-append w (x ∷ these) those =
    ap (λ more. lines w x ++ more) (lines_from-append (step w x) these those)
    ∙ sym (append_assoc (lines w x) (lines_from (step w x) these) (lines_from (run (step w x) these) those))

lines_end : WholeLines → (w : model.World) (e : Event) → EndsLine (lines w e)
unfolding lines
lines_end whole w e = whole (outcome w e).acts

pub Playing-event : WholeLines → LinesJoin → (s : Script) (i : ℕ) (world world' : Stored) (events : List Event) (e : Event) (out out' : List ℕ) (old new : Output)
    → Playing s i world out old new → i < length s.events → events ≡ s.events → e ≡ get_or events i e
    → out' ≡ out ++ lines (run (world_of s) (take i s.events)) e
    → Stands world' (step (run (world_of s) (take i s.events)) e) → RoseByAtMost 1000 world world' → world'.forgotten ≡ world.forgotten
    → Playing s (i + 1) world' out' old new
Playing-event whole joins s i world world' events e out out' old new p below same is printed stands small keeps =
    let at : model.World = run (world_of s) (take i s.events) in
    let one : e ∷ [] ≡ get_or s.events i e ∷ [] = ap (λ x. x ∷ []) is ∙ ap (λ xs. get_or xs i e ∷ []) same in
    let next : take (i + 1) s.events ≡ take i s.events ++ e ∷ [] =
    rw add-one (take-suc s.events i e below ∙ ap (λ x. take i s.events ++ x) (sym one)) in
    let reached : run (world_of s) (take (i + 1) s.events) ≡ step at e =
    ap (run (world_of s)) next ∙ run-push (world_of s) (take i s.events) e in
    record {
      stands = subst (Stands world') (sym reached) stands;
      shown = p.shown;
      shown_ends = p.shown_ends;
      out_ends = subst EndsLine (sym printed) (joins out (lines at e) p.out_ends (lines_end whole at e));
      written = p.written;
      still = p.still;
      printed =
          ap (lines_from (world_of s)) next ∙ lines_from-append (world_of s) (take i s.events) (e ∷ [])
          ∙ ap (λ x. x ++ (lines at e ++ [])) p.printed
          ∙ ap (λ x. (p.shown ++ out) ++ x) (append-nil (lines at e))
          ∙ append_assoc p.shown out (lines at e)
          ∙ ap (λ x. p.shown ++ x) (sym printed);
      small = below_more i world world' p.small small;
      has_all = keeps ∙ p.has_all;
    }

-- the front that was written ends a line, and so does what is kept
front_ends : (out front after : List ℕ) → EndsLine out → out ≡ front ++ after → (front ≡ []) ⊎ (after ≡ []) → EndsLine front × EndsLine after
front_ends out front after ends parts (inl none) = (inl none, subst EndsLine (parts ∙ ap (λ x. x ++ after) none) ends)
front_ends out front after ends parts (inr none) =
    (subst EndsLine (parts ∙ ap (λ x. front ++ x) none ∙ append-nil front) ends, inl none)

pub Playing-flush : LinesJoin → InTurn → (s : Script) (i : ℕ) (world : Stored) (out out' : List ℕ) (old mid new : Output)
    → Playing s i world out old mid → Flushed out out' mid new → new.faults ≡ mid.faults → Playing s i world out' old new
Playing-flush joins turn s i world out out' old mid new p f still =
    let ends : EndsLine f.front × EndsLine out' = front_ends out f.front out' p.out_ends f.parts f.none_or_all in
    record {
      stands = p.stands;
      shown = p.shown ++ f.front;
      shown_ends = joins p.shown f.front p.shown_ends ends.0;
      out_ends = ends.1;
      written = turn p.shown f.front old.written mid.written new.written p.written f.written;
      still = still ∙ p.still;
      printed = p.printed ∙ ap (λ x. p.shown ++ x) f.parts ∙ sym (append_assoc p.shown f.front out');
      small = p.small;
      has_all = p.has_all;
    }

-- no events
none_ranges : All InRange []
none_ranges k d within = absurd (omega (arith, within))

-- the lines of the events so far, cut in two
part_of : OnceLaw → (s : Script) → All InRange s.events → (i : ℕ) (shown more : List ℕ) → lines_from (world_of s) (take i s.events) ≡ shown ++ more → PlayedInPart s shown
part_of law s ranges i shown more printed =
    let played : List Event = take i s.events in
    let later : List Event = drop i s.events in
    let parts : s.events ≡ played ++ later = sym (take-append-drop i s.events) in
    let behind : List ℕ = lines_from (run (world_of s) played) later in
    record {
      played = played;
      later = later;
      parts = parts;
      more = more;
      printed = printed;
      rest = more ++ behind;
      front = ap (lines_from (world_of s)) parts ∙ lines_from-append (world_of s) played later ∙ ap (λ x. x ++ behind) printed
          ∙ append_assoc shown more behind;
      once = law s.small s.long played (All-take InRange i s.events ranges);
    }

-- nothing was played
pub nothing_played : OnceLaw → (s : Script) → PlayedInPart s []
nothing_played law s = record {
  played = [];
  later = s.events;
  parts = refl;
  more = [];
  printed = refl;
  rest = transcript s;
  front = refl;
  once = law s.small s.long [] none_ranges;
}

pub nothing_shown : OnceLaw → Nothing → (s : Script) (x : Output) → WroteLines s x x
nothing_shown law nothing s x =
    record { shown = []; whole_lines = inl refl; of_script = nothing_played law s; written = nothing x.written; still = refl }

-- memory ran out
pub Playing-stop : OnceLaw → (s : Script) → All InRange s.events → (i : ℕ) (world : Stored) (out : List ℕ) (old new : Output) → Playing s i world out old new → WroteLines s old new
Playing-stop law s ranges i world out old new p = record {
  shown = p.shown;
  whole_lines = p.shown_ends;
  of_script = part_of law s ranges i p.shown out p.printed;
  written = p.written;
  still = p.still;
}

-- a write failed
pub Playing-fail : OnceLaw → InTurn → (s : Script) → All InRange s.events → (i : ℕ) (world : Stored) (out : List ℕ) (old mid new : Output) (n : ℕ)
    → Playing s i world out old mid → Wrote (take n out) mid new → WroteFront s old new
Playing-fail law turn s ranges i world out old mid new n p part =
    let cut : p.shown ++ out ≡ (p.shown ++ take n out) ++ drop n out =
    ap (λ x. p.shown ++ x) (sym (take-append-drop n out)) ∙ sym (append_assoc p.shown (take n out) (drop n out)) in
    record {
      shown = p.shown ++ take n out;
      of_script = part_of law s ranges i (p.shown ++ take n out) (drop n out) (p.printed ∙ cut);
      written = turn p.shown (take n out) old.written mid.written new.written p.written part;
    }

-- all was played
pub Playing-end : InTurn → (s : Script) (i : ℕ) (world : Stored) (out : List ℕ) (old mid new : Output)
    → Playing s i world out old mid → i ≡ length s.events → Wrote out mid new → Wrote (transcript s) old new
Playing-end turn s i world out old mid new p all rest =
    let whole : take i s.events ≡ s.events = ap (λ n. take n s.events) all ∙ take-length s.events in
    subst (λ x. Wrote x old new) (sym (ap (lines_from (world_of s)) (sym whole) ∙ p.printed))
    (turn p.shown out old.written mid.written new.written p.written rest)
