-- From what the parts of `stubs` say to what its status says.
use Rattle.std.proofs.Common.{◌≡◌, ◌<◌, ◌+◌, ℕ, Bool, true, false, cond, List, [], length, get_or, refl, sym, ap, subst, ◌∙◌, ◌⊎◌, inl, inr, arith}
use Rattle.std.specs.Prelude.{Result, Ok, Err, Some, None, IfSome, ◌==◌}
use Rattle.std.proofs.lemmas.Bool.Decides.{nat_tests}
use Rattle.std.specs.declared.alloc.Global.{Global}
use Rattle.std.specs.declared.vec.Vec.{Vec}
use Rattle.ff_io.specs.Told.{Gave}
use Rattle.ff_io.specs.declared.reading.ReadAll.{ReadAll}
use Rattle.ff_io.specs.declared.reading.ReadAll.TheVariants.{Failed, TooLong, Memory}
use Rattle.interface_text.specs.Interfaces.{DeclaredInterface}
use Rattle.interface_text.specs.States.{interface_view}
use Rattle.interface_text.specs.Texts.{Declares, IsFirstFault}
use Rattle.interface_text.specs.declared.fault.TextFault.{TextFault}
use Rattle.interface_text.specs.declared.interface.Interface.{Interface}
use Rattle.interface_text.specs.declared.interface.Procedure.{Procedure}
use Rattle.interface_tokens.specs.Outcome.{Outcome}
use Rattle.marshal_plans.specs.Lengths.{too_long}
use Rattle.marshal_plans.specs.declared.fault.PlanFault.TheVariants as plan_fault
use Rattle.replay_model.specs.TextFault.{FaultAt}
use Rattle.commands.specs.declared.status.Status.{Status}
use Rattle.commands.specs.declared.status.Status.TheVariants as status
use Rattle.commands.specs.Outside.{Input, Output, ReadFailed, WriteFailed, ReadToEnd, Wrote, WroteUnlessFailed}
use Rattle.commands.specs.PlanText.{text_of}
use Rattle.commands.specs.Replay.{IsWithin, IsLong}
use Rattle.commands.specs.Status.{fault_line, status_of_interface, status_of_reading}
use Rattle.commands.specs.declared.replay.TheConstants.{INPUT_LIMIT}
use Rattle.commands.specs.Stubs.{first_fault, fault_of, long_fault, IsPlanText, PlanTextOf, ReadsPlans, Unplanned, Says, Stubs}
use Rattle.commands.proofs.Completeness.{not_both}
use Rattle.commands.proofs.Reading.{told as told_text, told_is, long_text}
use Rattle.commands.proofs.Planning.{first_long, none_long}

-- a text that is no interface
pub no_interface : (text : List ℕ) (fault : TextFault) → (0 < fault.number → IsFirstFault text fault) → PlanTextOf (Err (status_of_interface fault)) text
no_interface text fault h = by (fault.number == 0) refl
  where
    by : (b : Bool) → (fault.number == 0) ≡ b → PlanTextOf (Err (cond b status.NoMemory (status.BadText fault.line fault.number))) text
    by true e = tt
    by false e =
        let f = h (grind (arith, nat_tests)) in
        ap fault_of f.2 ∙ ap (λ (x : TextFault). Some (record { line = x.line; number = x.number })) (sym f.3)

-- an interface one of whose plans is too long
pub too_long_is : (text : List ℕ) (i : Interface) (n b m line : ℕ) → Declares text (interface_view i) → too_long 0 i.procedures ≡ Some (plan_fault.TooLong n b)
    → ((d : Procedure) → line ≡ (get_or i.procedures m d).line) → n ≡ m → first_fault text ≡ Some (record { line = line; number = 12 })
too_long_is text i n b m line declared long is same =
    let first = first_long 0 i.procedures n b long in
    let at : first.at ≡ m = omega (arith, first.numbered, same) in
    let there : (get_or i.procedures first.at first.some_procedure).line ≡ line =
    ap (λ (k : ℕ). (get_or i.procedures k first.some_procedure).line) at ∙ sym (is first.some_procedure) in
    ap fault_of declared ∙ ap long_fault (first.line ∙ ap (λ (l : ℕ). Some l) there)

-- an interface all of whose plans are short enough
pub planned : (text : List ℕ) (i : Interface) (out : List ℕ) → Declares text (interface_view i) → too_long 0 i.procedures ≡ None
    → out ≡ text_of (interface_view i) → IsPlanText text out
planned text i out declared short is =
    record { interface = interface_view i; declared = declared; short = (none_long 0 i.procedures short).1; told = is }

fine : DeclaredInterface → Outcome DeclaredInterface
fine i = Ok i

one_interface : (i j : DeclaredInterface) → fine i ≡ fine j → i ≡ j
unfolding fine
one_interface i j h = cc

one_plan_text : (text a b : List ℕ) → IsPlanText text a → IsPlanText text b → a ≡ b
unfolding fine
one_plan_text text a b p q = p.told ∙ ap text_of (one_interface p.interface q.interface (sym p.declared ∙ q.declared)) ∙ sym q.told

no_fault : (text out : List ℕ) (f : FaultAt) → IsPlanText text out → first_fault text ≡ Some f → ⊥
no_fault text out f p h = let none : first_fault text ≡ None = ap fault_of p.declared ∙ ap long_fault p.short in cc

-- why the input wasn't read to its end
pub unplanned : (e : ReadAll) (from to : Input) (bytes : List ℕ) → Gave bytes from.left to.left → (e ≡ TooLong → length bytes ≡ INPUT_LIMIT + 1)
    → (e ≡ Failed → ReadFailed from to) → (text : List ℕ) × IfSome from.left (λ left. left ≡ text) × Unplanned (status_of_reading e) text from to
unplanned Failed from to bytes gave many failed = (told_text from.left, told_is from.left, failed refl)
unplanned TooLong from to bytes gave many failed = long_text bytes from.left to.left gave (many refl)
unplanned Memory from to bytes gave many failed = (told_text from.left, told_is from.left, tt)

-- what was made of a text that was read to its end
pub planned_within : (r : Result (Vec ℕ Global) Status) (text : List ℕ) (from to : Input) → PlanTextOf r text → IsWithin text → ReadToEnd to
    → ReadsPlans r text from to
planned_within (Ok out) text from to p w e = (p, w, e)
planned_within (Err (status.BadText line number)) text from to p w e = (p, w, e)
planned_within (Err status.NoMemory) text from to p w e = tt
planned_within (Err status.Ok) text from to p w e = absurd p
planned_within (Err status.Usage) text from to p w e = absurd p
planned_within (Err status.ReadFault) text from to p w e = absurd p
planned_within (Err status.WriteFault) text from to p w e = absurd p
planned_within (Err status.LinkFault) text from to p w e = absurd p
planned_within (Err status.CallsFailed) text from to p w e = absurd p
planned_within (Err status.TooLong) text from to p w e = absurd p
planned_within (Err status.ClockFault) text from to p w e = absurd p

-- no plan text was made, and then the fault line was written
pub says_unplanned : (st : Status) (text : List ℕ) (from to : Input) (old new : Output) → Unplanned st text from to
    → WroteUnlessFailed [] (fault_line st) old new → Says st text from to old new
says_unplanned (status.BadText line number) text from to old new p w = (p, w)
says_unplanned status.ReadFault text from to old new p w = (p, w)
says_unplanned status.TooLong text from to old new p w = (p, w)
says_unplanned status.NoMemory text from to old new p w = w
says_unplanned status.Ok text from to old new p w = absurd p
says_unplanned status.Usage text from to old new p w = absurd p
says_unplanned status.WriteFault text from to old new p w = absurd p
says_unplanned status.LinkFault text from to old new p w = absurd p
says_unplanned status.CallsFailed text from to old new p w = absurd p
says_unplanned status.ClockFault text from to old new p w = absurd p

prints : (st : Status) (text out : List ℕ) (from to : Input) (old new : Output) → Says st text from to old new → IsPlanText text out → IsWithin text
    → (ReadFailed from to → ⊥) → (WriteFailed old new → ⊥) → ((st ≡ status.Ok) × Wrote out old new) ⊎ (st ≡ status.NoMemory)
prints status.Ok text out from to old new p is short reads writes =
    inl (refl, subst (λ x. Wrote x old new) (one_plan_text text p.1.out out p.1.is_plan_text is) p.1.written)
prints (status.BadText line number) text out from to old new p is short reads writes = absurd (no_fault text out _ is p.0.0)
prints status.ReadFault text out from to old new p is short reads writes = absurd (reads p.0)
prints status.WriteFault text out from to old new p is short reads writes = absurd (writes p.0)
prints status.TooLong text out from to old new p is short reads writes = absurd (not_both text p.0 short)
prints status.NoMemory text out from to old new p is short reads writes = inr refl
prints status.Usage text out from to old new p is short reads writes = absurd p
prints status.LinkFault text out from to old new p is short reads writes = absurd p
prints status.CallsFailed text out from to old new p is short reads writes = absurd p
prints status.ClockFault text out from to old new p is short reads writes = absurd p

refuses : (st : Status) (text : List ℕ) (f : FaultAt) (from to : Input) (old new : Output) → Says st text from to old new
    → first_fault text ≡ Some f → IsWithin text → (ReadFailed from to → ⊥) → (st ≡ status.BadText f.line f.number) ⊎ (st ≡ status.NoMemory)
refuses status.Ok text f from to old new p fault short reads = absurd (no_fault text p.1.out f p.1.is_plan_text fault)
refuses (status.BadText line number) text f from to old new p fault short reads =
    let is : first_fault text ≡ Some (record { line = line; number = number }) = p.0.0 in
    let same : record { line = line; number = number } ≡ f = cc in
    let at : line ≡ f.line = ap (λ x. x.line) same in
    let why : number ≡ f.number = ap (λ x. x.number) same in
    inl (cc)
refuses status.ReadFault text f from to old new p fault short reads = absurd (reads p.0)
refuses status.WriteFault text f from to old new p fault short reads = absurd (no_fault text p.2.out f p.2.is_plan_text fault)
refuses status.TooLong text f from to old new p fault short reads = absurd (not_both text p.0 short)
refuses status.NoMemory text f from to old new p fault short reads = inr refl
refuses status.Usage text f from to old new p fault short reads = absurd p
refuses status.LinkFault text f from to old new p fault short reads = absurd p
refuses status.CallsFailed text f from to old new p fault short reads = absurd p
refuses status.ClockFault text f from to old new p fault short reads = absurd p

stops : (st : Status) (text : List ℕ) (from to : Input) (old new : Output) → Says st text from to old new → IsLong text
    → (ReadFailed from to → ⊥) → (st ≡ status.TooLong) ⊎ (st ≡ status.NoMemory)
stops status.Ok text from to old new p long reads = absurd (not_both text long p.1.within)
stops (status.BadText line number) text from to old new p long reads = absurd (not_both text long p.0.1)
stops status.ReadFault text from to old new p long reads = absurd (reads p.0)
stops status.WriteFault text from to old new p long reads = absurd (not_both text long p.2.within)
stops status.TooLong text from to old new p long reads = inl refl
stops status.NoMemory text from to old new p long reads = inr refl
stops status.Usage text from to old new p long reads = absurd p
stops status.LinkFault text from to old new p long reads = absurd p
stops status.CallsFailed text from to old new p long reads = absurd p
stops status.ClockFault text from to old new p long reads = absurd p

-- when each status comes follows from what it says
pub stubs_from : (st : Status) (text : List ℕ) (from to : Input) (old new : Output)
    → IfSome from.left (λ left. left ≡ text) → Says st text from to old new → Stubs st from to old new
stubs_from st text from to old new is says = record {
  text = text;
  is_text = is;
  says = says;
  prints = λ out. prints st text out from to old new says;
  refuses = λ f. refuses st text f from to old new says;
  stops = stops st text from to old new says;
}
