-- What is printed of anything that happens is whole lines.
use Rattle.std.proofs.Common.{ℕ, ◌+◌, List, [], ◌∷◌, ◌++◌, refl, sym, ap, ◌∙◌, inl, inr, append_assoc, append-nil}
use Rattle.std.specs.Prelude.{codes}
use Rattle.std.specs.Fmt.{decimal}
use Rattle.replay_model.specs.Digests.{RunDigest}
use Rattle.replay_model.specs.Record.{Act}
use Rattle.replay_model.specs.Lines.{EndsLine, Printed, Silent, OneLine, Runs, printed_of, lines_printed, lines_of_act, lines_of, journal_lines, run_lines, run_line, run_text, newline, blank}

pub EndsLine-append : (these those : List ℕ) → EndsLine these → EndsLine those → EndsLine (these ++ those)
EndsLine-append these those p (inl none) =
    elim p [
      | inl empty ↦ inl (ap (λ x. x ++ those) empty ∙ none)
      | inr ends ↦ inr (ends.0, ap (λ x. these ++ x) none ∙ append-nil these ∙ ends.1)
    ]
EndsLine-append these those p (inr ends) =
    inr (these ++ ends.0, ap (λ x. these ++ x) ends.1 ∙ sym (append_assoc these ends.0 newline))

ends : (front : List ℕ) → EndsLine (front ++ newline)
ends front = inr (front, refl)

runs_end : (i : ℕ) (rs : List RunDigest) → EndsLine (run_lines i rs)
runs_end i [] = inl refl
runs_end i (r ∷ rs) =
    EndsLine-append (run_line i r) (run_lines (i + 1) rs) (ends (codes "run " ++ decimal i ++ blank ++ run_text r)) (runs_end (i + 1) rs)

journal_ends : (rs : List RunDigest) → EndsLine (journal_lines rs)
journal_ends [] = ends (codes "journal empty")
journal_ends (r ∷ rs) = runs_end 1 (r ∷ rs)

printed_ends : (p : Printed) → EndsLine (lines_printed p)
printed_ends Silent = inl refl
printed_ends (OneLine text) = ends text
printed_ends (Runs runs) = journal_ends runs

pub act_ends : (a : Act) → EndsLine (lines_of_act a)
act_ends a = printed_ends (printed_of a)

pub acts_end : (acts : List Act) → EndsLine (lines_of acts)
acts_end [] = inl refl
acts_end (a ∷ acts) = EndsLine-append (lines_of_act a) (lines_of acts) (act_ends a) (acts_end acts)
