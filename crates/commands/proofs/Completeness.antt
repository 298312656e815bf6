-- Which status comes, where no call of the source or the sink failed.
use Rattle.std.proofs.Common.{◌≡◌, ◌⊎◌, List, ℕ, refl, ap, subst, inl, inr, arith}
use Rattle.std.specs.Prelude.{IfSome, None, Some}
use Rattle.replay_model.specs.Script.{Script, IsScript}
use Rattle.replay_model.specs.Transcript.{transcript}
use Rattle.commands.specs.declared.status.Status.{Status}
use Rattle.commands.specs.declared.status.Status.TheVariants as status
use Rattle.commands.specs.Outside.{Input, Output, ReadFailed, WriteFailed, Wrote}
use Rattle.replay_model.specs.TextFault.{FaultAt, first_fault}
use Rattle.commands.specs.Replay.{IsWithin, IsLong, Says, Replays}
use Rattle.commands.proofs.Laws.{OneReading, NoFault}

pub not_both : (text : List ℕ) → IsLong text → IsWithin text → ⊥
not_both text (inl long) within = omega (arith, long, within.bytes)
not_both text (inr long) within = omega (arith, long, within.lines)

script_without_fault : NoFault → (text : List ℕ) (s : Script) (f : FaultAt) → IsScript text s → first_fault text ≡ Some f → ⊥
script_without_fault clean text s f is fault = let none : first_fault text ≡ None = clean text s is in cc

-- a script within the limits
pub plays : OneReading → NoFault → (st : Status) (text : List ℕ) (s : Script) (from to : Input) (old new : Output)
    → Says st text from to old new → IsScript text s → IsWithin text → (ReadFailed from to → ⊥) → (WriteFailed old new → ⊥)
    → ((st ≡ status.Ok) × Wrote (transcript s) old new) ⊎ (st ≡ status.NoMemory)
plays one clean status.Ok text s from to old new p is short reads writes =
    inl (refl, subst (λ x. Wrote (transcript x) old new) (one text p.1.script s p.1.is_script is) p.1.written)
plays one clean (status.BadText line number) text s from to old new p is short reads writes = absurd (script_without_fault clean text s _ is p.0.0)
plays one clean status.ReadFault text s from to old new p is short reads writes = absurd (reads p.0)
plays one clean status.WriteFault text s from to old new p is short reads writes = absurd (writes p.0)
plays one clean status.TooLong text s from to old new p is short reads writes = absurd (not_both text p.0 short)
plays one clean status.NoMemory text s from to old new p is short reads writes = inr refl
plays one clean status.Usage text s from to old new p is short reads writes = absurd p
plays one clean status.LinkFault text s from to old new p is short reads writes = absurd p
plays one clean status.CallsFailed text s from to old new p is short reads writes = absurd p
plays one clean status.ClockFault text s from to old new p is short reads writes = absurd p

-- a text within the limits that has a fault
pub refuses : NoFault → (st : Status) (text : List ℕ) (f : FaultAt) (from to : Input) (old new : Output) → Says st text from to old new
    → first_fault text ≡ Some f → IsWithin text → (ReadFailed from to → ⊥) → (st ≡ status.BadText f.line f.number) ⊎ (st ≡ status.NoMemory)
refuses clean status.Ok text f from to old new p fault short reads =
    absurd (script_without_fault clean text p.1.script f p.1.is_script fault)
refuses clean (status.BadText line number) text f from to old new p fault short reads =
    let told : first_fault text ≡ Some (record { line = line; number = number }) = p.0.0 in
    let same : record { line = line; number = number } ≡ f = cc in
    let at : line ≡ f.line = ap (λ x. x.line) same in
    let why : number ≡ f.number = ap (λ x. x.number) same in
    inl (cc)
refuses clean status.ReadFault text f from to old new p fault short reads = absurd (reads p.0)
refuses clean status.WriteFault text f from to old new p fault short reads =
    absurd (script_without_fault clean text p.2.script f p.2.is_script fault)
refuses clean status.TooLong text f from to old new p fault short reads = absurd (not_both text p.0 short)
refuses clean status.NoMemory text f from to old new p fault short reads = inr refl
refuses clean status.Usage text f from to old new p fault short reads = absurd p
refuses clean status.LinkFault text f from to old new p fault short reads = absurd p
refuses clean status.CallsFailed text f from to old new p fault short reads = absurd p
refuses clean status.ClockFault text f from to old new p fault short reads = absurd p

-- a text beyond the limits
pub stops : (st : Status) (text : List ℕ) (from to : Input) (old new : Output) → Says st text from to old new → IsLong text
    → (ReadFailed from to → ⊥) → (st ≡ status.TooLong) ⊎ (st ≡ status.NoMemory)
stops status.Ok text from to old new p long reads = absurd (not_both text long p.1.within)
stops (status.BadText line number) text from to old new p long reads = absurd (not_both text long p.0.1)
stops status.ReadFault text from to old new p long reads = absurd (reads p.0)
stops status.WriteFault text from to old new p long reads = absurd (not_both text long p.2.within)
stops status.TooLong text from to old new p long reads = inl refl
stops status.NoMemory text from to old new p long reads = inr refl
stops status.Usage text from to old new p long reads = absurd p
stops status.LinkFault text from to old new p long reads = absurd p
stops status.CallsFailed text from to old new p long reads = absurd p
stops status.ClockFault text from to old new p long reads = absurd p

-- when each status comes follows from what it says
pub replays_from : OneReading → NoFault → (st : Status) (text : List ℕ) (from to : Input) (old new : Output)
    → IfSome from.left (λ left. left ≡ text) → Says st text from to old new → Replays st from to old new
replays_from one clean st text from to old new is says = record {
  text = text;
  is_text = is;
  says = says;
  plays = λ s is_script within reads writes. plays one clean st text s from to old new says is_script within reads writes;
  refuses = λ f fault within reads. refuses clean st text f from to old new says fault within reads;
  stops = λ long reads. stops st text from to old new says long reads;
}
