-- From what the parts of `replay` say to what its status says.
use Rattle.std.proofs.Common.{◌≡◌, ℕ, zero, suc, ◌≤◌, List, [], ◌++◌, take, refl, subst, ◌∙◌, inl, append-nil, arith}
use Rattle.std.specs.Prelude.{Result, Ok, Err, OnOk, OnErr, ◌<◌, length}
use Rattle.ff_io.specs.Count.{Rose}
use Rattle.replay_model.specs.Script.{Script, IsScript}
use Rattle.commands.specs.declared.status.Status.{Status}
use Rattle.commands.specs.declared.status.Status.TheVariants as status
use Rattle.commands.specs.Status.{fault_line}
use Rattle.commands.specs.Outside.{Input, Output, WriteFailed, ReadToEnd, Wrote, WroteUnlessFailed, All, Part}
use Rattle.commands.specs.Replay.{PlayedInPart, IsWithin, Unread, Stopped, Says}
use Rattle.commands.proofs.Laws.{OnceLaw, OneReading, InTurn}
use Rattle.commands.proofs.Completeness.{not_both}
use Rattle.commands.proofs.Playing.{nothing_played}

-- what a write of all bytes says
pub as_written : {A E : Type 0} (r : Result A E) (bytes : List ℕ) (old new : Output) → OnOk r (Wrote bytes old new)
    → OnErr r ((n : ℕ) × (n < length bytes) × Wrote (take n bytes) old new) → OnErr r (WriteFailed old new) → OnOk r (new.faults ≡ old.faults)
    → WroteUnlessFailed [] bytes old new
as_written (Ok done) bytes old new all part failed still = All all still
as_written (Err e) bytes old new all part failed still = Part part.0 part.2 failed

-- no script was read, and then the fault line was written
pub says_unread : OnceLaw → (st : Status) (text : List ℕ) (from to : Input) (old new : Output) → Unread st text from to
    → WroteUnlessFailed [] (fault_line st) old new → Says st text from to old new
says_unread law (status.BadText line number) text from to old new p w = (p, w)
says_unread law status.ReadFault text from to old new p w = (p, w)
says_unread law status.TooLong text from to old new p w = (p, w)
says_unread law status.NoMemory text from to old new p w = record {
  shown = [];
  whole_lines = inl refl;
  of_script = λ s _. nothing_played law s;
  of_no_script = λ _. refl;
  of_long = λ _. refl;
  written = w;
}
says_unread law status.Ok text from to old new p w = absurd p
says_unread law status.Usage text from to old new p w = absurd p
says_unread law status.WriteFault text from to old new p w = absurd p
says_unread law status.LinkFault text from to old new p w = absurd p
says_unread law status.CallsFailed text from to old new p w = absurd p
says_unread law status.ClockFault text from to old new p w = absurd p

take-none : (n : ℕ) → take {A = ℕ} n [] ≡ []
take-none zero = refl
take-none (suc n) = refl

-- the line of a status that has none
no_line : (old new : Output) → WroteUnlessFailed [] [] old new → Wrote [] old new
no_line old new (All p still) = p
no_line old new (Part n p failed) = subst (λ x. Wrote x old new) (take-none n) p

-- the line stands behind what was written
behind : InTurn → (shown line : List ℕ) (old mid new : Output) → Wrote shown old mid → mid.faults ≡ old.faults
    → WroteUnlessFailed [] line mid new → WroteUnlessFailed shown line old new
behind turn shown line old mid new p still (All q rest) = All (turn shown line old.written mid.written new.written p q) (rest ∙ still)
behind turn shown line old mid new p still (Part n q failed) =
    Part n (turn shown (take n line) old.written mid.written new.written p q) (subst (λ k. Rose k new.faults) still failed)

-- the script was played in part, and then the fault line was written
pub says_stopped : OneReading → InTurn → (st : Status) (text : List ℕ) (s : Script) (from to : Input) (old mid new : Output)
    → IsScript text s → IsWithin text → ReadToEnd to → old.faults ≤ mid.faults → mid.faults ≤ new.faults
    → Stopped st s old mid → WroteUnlessFailed [] (fault_line st) mid new → Says st text from to old new
unfolding fault_line
says_stopped one turn status.WriteFault text s from to old mid new is within ended before after p w =
    let fails : WriteFailed old new = λ h. omega (arith, p.0 (omega arith)) in
    let all : Wrote (p.1.shown ++ []) old new = turn p.1.shown [] old.written mid.written new.written p.1.written (no_line mid new w) in (
      fails,
      ended,
      record {
        script = s;
        is_script = is;
        within = within;
        front = record {
          shown = p.1.shown;
          of_script = p.1.of_script;
          written = subst (λ x. Wrote x old new) (append-nil p.1.shown) all;
        };
      },
    )
says_stopped one turn status.NoMemory text s from to old mid new is within ended before after p w = record {
  shown = p.shown;
  whole_lines = p.whole_lines;
  of_script = λ t is_too. subst (λ x. PlayedInPart x p.shown) (one text s t is is_too) p.of_script;
  of_no_script = λ none. absurd (none s is);
  of_long = λ long. absurd (not_both text long within);
  written = behind turn p.shown (fault_line status.NoMemory) old mid new p.written p.still w;
}
says_stopped one turn status.Ok text s from to old mid new is within ended before after p w = absurd p
says_stopped one turn status.Usage text s from to old mid new is within ended before after p w = absurd p
says_stopped one turn (status.BadText line number) text s from to old mid new is within ended before after p w = absurd p
says_stopped one turn status.ReadFault text s from to old mid new is within ended before after p w = absurd p
says_stopped one turn status.LinkFault text s from to old mid new is within ended before after p w = absurd p
says_stopped one turn status.CallsFailed text s from to old mid new is within ended before after p w = absurd p
says_stopped one turn status.TooLong text s from to old mid new is within ended before after p w = absurd p
says_stopped one turn status.ClockFault text s from to old mid new is within ended before after p w = absurd p
