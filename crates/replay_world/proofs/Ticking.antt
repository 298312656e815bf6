-- Ticks, one after another.
use Rattle.std.proofs.Common.{◌≡◌, ℕ, suc, ◌+◌, List, [], ◌∷◌, ◌++◌, Bool, true, false, ◌&&◌, ap, sym, subst, refl, ◌∙◌, arith}
use Rattle.std.proofs.lemmas.List.{append-nil, append_assoc}
use Rattle.replay_model.specs.Record.{Act, Records, Quiet, recorded, recorded_all}
use Rattle.replay_model.specs.World.{World}
use Rattle.replay_model.specs.Step.{Outcome, tick, ticks, tick_event, quiet_if_none, settled}
use Rattle.replay_model.specs.Lines.{lines_of, lines_of_act}
use Rattle.replay_lines.specs.Page.{Page, written}
use Rattle.replay_world.specs.Stored.{Stored}
use Rattle.replay_world.specs.Stands.{Stands}
use Rattle.replay_world.specs.Played.{Plays, PlaysTick, is_silent}
use Rattle.replay_world.proofs.Pages.{written-joined, written-nothing}

lines_of-append : (xs ys : List Act) → lines_of (xs ++ ys) ≡ lines_of xs ++ lines_of ys
lines_of-append [] ys = refl
lines_of-append (x ∷ xs) ys = ap (λ (t : List ℕ). lines_of_act x ++ t) (lines_of-append xs ys) ∙ sym (append_assoc (lines_of_act x) (lines_of xs) (lines_of ys))

recorded_all-append : (r : Records) (xs ys : List Act) → recorded_all r (xs ++ ys) ≡ recorded_all (recorded_all r xs) ys
recorded_all-append r [] ys = refl
recorded_all-append r (x ∷ xs) ys = recorded_all-append (recorded r x) xs ys

is_silent-append : (xs ys : List Act) → is_silent (xs ++ ys) ≡ (is_silent xs && is_silent ys)
is_silent-append [] ys = refl
is_silent-append (x ∷ xs) ys = refl

-- so many ticks have passed: what happened in them, and the world after them, from which further ticks go on
pub record Passed (w : World) (m p done : ℕ) (before after : Page) (s : Stored) (quiet : Bool) : Type 0 where
  pub now : World
  pub acts : List Act
  pub stands : Stands s now
  pub printed : after ≡ written before (lines_of acts)
  pub silent : quiet ≡ is_silent acts
  pub more_acts : (k : ℕ) → (ticks w m p (done + k)).acts ≡ acts ++ (ticks now m p k).acts
  pub more_world : (k : ℕ) → settled w (ticks w m p (done + k)) ≡ settled now (ticks now m p k)

pub none_passed : (w : World) (m p : ℕ) (before : Page) (s : Stored) → Stands s w → Passed w m p 0 before before s true
none_passed w m p before s h =
    let at : (k : ℕ) → 0 + k ≡ k = λ k. omega arith in
    record {
      now = w;
      acts = [];
      stands = h;
      printed = sym (written-nothing before);
      silent = refl;
      more_acts = λ k. ap (λ (n : ℕ). (ticks w m p n).acts) (at k);
      more_world = λ k. ap (λ (n : ℕ). settled w (ticks w m p n)) (at k);
    }

-- one tick more
pub one_passed : {w : World} {m p done : ℕ} {before after : Page} {s : Stored} {quiet : Bool} → (x : Passed w m p done before after s quiet) → (later : Page) (s' : Stored) (passed_quietly : Bool)
    → PlaysTick passed_quietly after later s' x.now.records (tick x.now m p) → Passed w m p (done + 1) before later s' (quiet && passed_quietly)
one_passed {w} {m} {p} {done} {before} {after} {s} {quiet} x later s' passed_quietly played =
    let one : Outcome = tick x.now m p in
    let next : World = settled x.now one in
    let at : (k : ℕ) → done + 1 + k ≡ done + suc k = λ k. omega arith in
    record {
      now = next;
      acts = x.acts ++ one.acts;
      stands = played.plays.stands;
      printed =
          played.plays.printed ∙ (ap (λ (p : Page). written p (lines_of one.acts)) x.printed
          ∙ (written-joined before (lines_of x.acts) (lines_of one.acts) ∙ ap (written before) (sym (lines_of-append x.acts one.acts))));
      silent = ap (λ (b : Bool). b && passed_quietly) x.silent ∙ (ap (λ (b : Bool). is_silent x.acts && b) played.silent ∙ sym (is_silent-append x.acts one.acts));
      more_acts = λ k.
          ap (λ (n : ℕ). (ticks w m p n).acts) (at k)
          ∙ (x.more_acts (suc k) ∙ sym (append_assoc x.acts one.acts (ticks next m p k).acts));
      more_world = λ k.
          ap (λ (n : ℕ). settled w (ticks w m p n)) (at k)
          ∙ (x.more_world (suc k)
          ∙ ap (λ (r : Records). record (ticks next m p k).world { records = r }) (recorded_all-append x.now.records one.acts (ticks next m p k).acts));
    }

-- what a line of ticks does, by its ticks
record Whole (w : World) (m p count : ℕ) (now : World) (acts : List Act) : Type 0 where
  same_acts : (ticks w m p count).acts ≡ acts
  same_world : settled w (ticks w m p count) ≡ now

whole : {w : World} {m p done : ℕ} {before after : Page} {s : Stored} {quiet : Bool} → (x : Passed w m p done before after s quiet) → Whole w m p done x.now x.acts
whole {w} {m} {p} {done} x =
    let at : done ≡ done + 0 = omega arith in
    record {
      same_acts = ap (λ (n : ℕ). (ticks w m p n).acts) at ∙ (x.more_acts 0 ∙ append-nil x.acts);
      same_world = ap (λ (n : ℕ). settled w (ticks w m p n)) at ∙ x.more_world 0;
    }

-- where something happened, it was printed
loud : (w : World) (m p count : ℕ) (before after : Page) (s : Stored) (acts : List Act) → is_silent acts ≡ false → (ticks w m p count).acts ≡ acts
    → after ≡ written before (lines_of acts) → Stands s (settled w (ticks w m p count)) → Plays before after s w.records (tick_event w m p count)
unfolding tick_event
loud w m p count before after s [] some same e h = absurd (cc)
loud w m p count before after s (a ∷ acts) some same e h =
    let told : quiet_if_none (ticks w m p count).acts ≡ a ∷ acts = ap quiet_if_none same in
    record {
      printed = e ∙ ap (λ (xs : List Act). written before (lines_of xs)) (sym told);
      stands = let P : List Act → Type 0 = λ xs. Stands s (record (ticks w m p count).world { records = recorded_all w.records xs }) in subst P (same ∙ sym told) h;
    }

-- where nothing happened, the line is quiet
silent : (w : World) (m p count : ℕ) (before after : Page) (s : Stored) (acts : List Act) → is_silent acts ≡ true → (ticks w m p count).acts ≡ acts
    → after ≡ written before (lines_of_act Quiet) → Stands s (settled w (ticks w m p count)) → Plays before after s w.records (tick_event w m p count)
unfolding tick_event
silent w m p count before after s (a ∷ acts) none same e h = absurd (cc)
silent w m p count before after s [] none same e h =
    let told : quiet_if_none (ticks w m p count).acts ≡ Quiet ∷ [] = ap quiet_if_none same in
    record {
      printed = e ∙ (ap (written before) (sym (append-nil (lines_of_act Quiet))) ∙ ap (λ (xs : List Act). written before (lines_of xs)) (sym told));
      stands =
          let P : List Act → Type 0 = λ xs. Stands s (record (ticks w m p count).world { records = recorded_all w.records xs }) in
          subst P (sym told) (subst P same h);
    }

pub all_passed_loudly : {w : World} {m p count : ℕ} {before after : Page} {s : Stored} → Passed w m p count before after s false → Plays before after s w.records (tick_event w m p count)
all_passed_loudly {w} {m} {p} {count} {before} {after} {s} x =
    let all = whole x in
    let P : World → Type 0 = λ v. Stands s v in
    loud w m p count before after s x.acts (sym x.silent) all.same_acts x.printed (subst P (sym all.same_world) x.stands)

-- nothing was printed before
nothing_printed : (before after : Page) (acts : List Act) → is_silent acts ≡ true → after ≡ written before (lines_of acts) → after ≡ before
nothing_printed before after [] none e = e ∙ written-nothing before
nothing_printed before after (a ∷ acts) none e = absurd (cc)

pub all_passed_quietly : {w : World} {m p count : ℕ} {before middle : Page} {s : Stored} → Passed w m p count before middle s true → (after : Page) → after ≡ written middle (lines_of_act Quiet)
    → Plays before after s w.records (tick_event w m p count)
all_passed_quietly {w} {m} {p} {count} {before} {middle} {s} x after e =
    let all = whole x in
    let P : World → Type 0 = λ v. Stands s v in
    let same = nothing_printed before middle x.acts (sym x.silent) x.printed in
    silent w m p count before after s x.acts (sym x.silent) all.same_acts (e ∙ ap (λ (p : Page). written p (lines_of_act Quiet)) same) (subst P (sym all.same_world) x.stands)
