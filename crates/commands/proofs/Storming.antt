-- From the rounds that were played and what was written to what the status of a storm says.
use Rattle.std.proofs.Common.{◌≡◌, ◌⊎◌, ℕ, ◌<◌, ◌≤◌, List, [], length, take, refl, subst, inl, inr, arith}
use Rattle.replay_model.specs.declared.limits.TheConstants.{SMALL_BUFFERS, LONG_BUFFERS}
use Rattle.replay_model.specs.Once.{Once}
use Rattle.replay_model.specs.declared.options.TheConstants.{MOST_CALLS}
use Rattle.replay_model.specs.Rounds.{after_rounds, rounds_of, storm, world_of}
use Rattle.replay_model.specs.Summary.{IsBalanced, storm_text, summary_of}
use Rattle.commands.specs.declared.status.Status.{Status}
use Rattle.commands.specs.declared.status.Status.TheVariants as status
use Rattle.commands.specs.Outside.{Output, WriteFailed, Wrote, WroteUnlessFailed}
use Rattle.commands.specs.Status.{fault_line}
use Rattle.commands.specs.Storm.{Says, Stormed, StormedInPart, Storms}
use Rattle.commands.proofs.Laws.{OnceLaw}
use Rattle.commands.proofs.PlayedRounds.{PacketsHaveSpellings, SpellingIsShort}
use Rattle.commands.proofs.RangedRounds.{storm_in_range}

-- after each round of a storm Once holds
pub once_at : OnceLaw → SpellingIsShort → PacketsHaveSpellings → (seed calls : ℕ) → calls ≤ MOST_CALLS → (rounds : ℕ) → rounds ≤ rounds_of calls
    → Once (world_of (after_rounds seed calls rounds))
once_at once count spelled seed calls most rounds within =
    once SMALL_BUFFERS LONG_BUFFERS (after_rounds seed calls rounds).played (storm_in_range count spelled seed calls rounds most within)

pub once_at_end : OnceLaw → SpellingIsShort → PacketsHaveSpellings → (seed calls : ℕ) → calls ≤ MOST_CALLS → Once (world_of (storm seed calls))
unfolding storm
once_at_end once count spelled seed calls most = once_at once count spelled seed calls most (rounds_of calls) (omega arith)

pub stormed : (seed calls : ℕ) (old new : Output) → Once (world_of (storm seed calls)) → IsBalanced (summary_of seed calls)
    → (text : List ℕ) → text ≡ storm_text seed calls → Wrote text old new → Stormed seed calls old new
stormed seed calls old new once balanced text is written = record {
  written = subst (λ (t : List ℕ). Wrote t old new) is written;
  balanced = balanced;
  once = once;
}

pub stormed_in_part : (seed calls : ℕ) (old new : Output) → Once (world_of (storm seed calls))
    → (text : List ℕ) → text ≡ storm_text seed calls → (count : ℕ) → count < length text → Wrote (take count text) old new → StormedInPart seed calls old new
stormed_in_part seed calls old new once text is count part written = record {
  count = count;
  part = subst (λ (t : List ℕ). count < length t) is part;
  written = subst (λ (t : List ℕ). Wrote (take count t) old new) is written;
  once = once;
}

prints : (st : Status) (seed calls : ℕ) (old new : Output) → Says st seed calls old new → (WriteFailed old new → ⊥)
    → ((st ≡ status.Ok) × Wrote (storm_text seed calls) old new) ⊎ (st ≡ status.NoMemory)
prints status.Ok seed calls old new says never = inl (refl, says.written)
prints status.WriteFault seed calls old new says never = absurd (never says.0)
prints status.NoMemory seed calls old new says never = inr refl
prints status.Usage seed calls old new says never = absurd says
prints (status.BadText line number) seed calls old new says never = absurd says
prints status.ReadFault seed calls old new says never = absurd says
prints status.LinkFault seed calls old new says never = absurd says
prints status.CallsFailed seed calls old new says never = absurd says
prints status.TooLong seed calls old new says never = absurd says
prints status.ClockFault seed calls old new says never = absurd says

-- when each status comes follows from what it says
pub storms_from : (st : Status) (seed calls : ℕ) (old new : Output) → Says st seed calls old new → Storms st seed calls old new
storms_from st seed calls old new says = record { says = says; prints = prints st seed calls old new says }
