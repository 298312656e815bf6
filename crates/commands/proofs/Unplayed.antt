-- What the statuses say where memory ran out for the words of the program: nothing was read.
use Rattle.std.proofs.Common.{◌≡◌, ℕ, [], inr, refl}
use Rattle.commands.specs.Outside.{Input, Output, WroteUnlessFailed}
use Rattle.commands.specs.Replay.{Replays}
use Rattle.commands.specs.Status.{fault_line}
use Rattle.commands.specs.Storm.{Storms}
use Rattle.commands.specs.Stubs.{Stubs}
use Rattle.commands.specs.declared.status.Status.TheVariants as status
use Rattle.commands.proofs.Completeness.{replays_from}
use Rattle.commands.proofs.Laws.{NoFault, OnceLaw, OneReading}
use Rattle.commands.proofs.PlayedRounds.{PacketsHaveSpellings, SpellingIsShort}
use Rattle.commands.proofs.Reading.{told, told_is}
use Rattle.commands.proofs.Saying.{says_unread}
use Rattle.commands.proofs.Storming.{once_at}
use Rattle.commands.proofs.Stubbing.{says_unplanned, stubs_from}

-- only the fault line was written
pub replays_without_memory : OneReading → NoFault → OnceLaw → (from : Input) (old new : Output)
    → WroteUnlessFailed [] (fault_line status.NoMemory) old new → Replays status.NoMemory from from old new
replays_without_memory one clean law from old new line =
    replays_from one clean status.NoMemory (told from.left) from from old new (told_is from.left)
    (says_unread law status.NoMemory (told from.left) from from old new tt line)

pub stubs_without_memory : (from : Input) (old new : Output)
    → WroteUnlessFailed [] (fault_line status.NoMemory) old new → Stubs status.NoMemory from from old new
stubs_without_memory from old new line =
    stubs_from status.NoMemory (told from.left) from from old new (told_is from.left)
    (says_unplanned status.NoMemory (told from.left) from from old new tt line)

pub storms_without_memory : OnceLaw → SpellingIsShort → PacketsHaveSpellings → (seed calls : ℕ) (old new : Output)
    → WroteUnlessFailed [] (fault_line status.NoMemory) old new → Storms status.NoMemory seed calls old new
storms_without_memory law count spelled seed calls old new line = record {
  says = record { once = once_at law count spelled seed calls; written = line };
  prints = λ writes. inr refl;
}
