-- The summary of a storm: what became of the calls that were started, and how many packets were sent.
use Rattle.std.specs.Prelude.{◌≡◌, ℕ, ◌+◌, List, [], ◌∷◌, ◌++◌, length, codes}
use Rattle.std.specs.Fmt.{decimal}
use Rattle.replay_model.specs.declared.event.Event.{Event}
use Rattle.replay_model.specs.Record.{counts_of}
use Rattle.replay_model.specs.Step.{run}
use Rattle.replay_model.specs.World.{World}
use Rattle.replay_model.specs.OpenCalls.{lost_over, open_calls}
use Rattle.replay_model.specs.Rounds.{calm, storm}

-- the accepted starts of calls; the runs of bodies; the calls that returned, without a signal and by one; those that
-- failed unanswered, and that were refused; those that were open at their client's restart; those that are open
-- now; the packets that were sent
pub record Summary : Type 0 where
  pub started : ℕ
  pub runs : ℕ
  pub returned : ℕ
  pub signalled : ℕ
  pub failed : ℕ
  pub refused : ℕ
  pub lost : ℕ
  pub still_open : ℕ
  pub packets : ℕ

-- of events that were played from a world
abbrev pub summary_over : World → List Event → Summary
summary_over w events =
    let last : World = run w events in
    record {
      started = length last.records.started;
      runs = (counts_of last.records).runs;
      returned = (counts_of last.records).returned;
      signalled = (counts_of last.records).signalled;
      failed = (counts_of last.records).failed;
      refused = (counts_of last.records).refused;
      lost = lost_over w events;
      still_open = open_calls last;
      packets = length last.bag;
    }

-- each call that was started has come to one end, or is open
abbrev pub IsBalanced : Summary → Type 0
IsBalanced s = s.started ≡ s.returned + s.signalled + s.failed + s.refused + s.lost + s.still_open

abbrev pub newline : List ℕ
newline = 10 ∷ []

-- a line with a name and a number
abbrev pub count_line : List ℕ → ℕ → List ℕ
count_line name n = name ++ codes " " ++ decimal n ++ newline

unfoldable pub summary_text : (seed calls : ℕ) → Summary → List ℕ
summary_text seed calls s =
    codes "storm " ++ decimal seed ++ codes " " ++ decimal calls ++ newline
    ++ count_line (codes "started") s.started
    ++ count_line (codes "runs") s.runs
    ++ count_line (codes "returned") s.returned
    ++ count_line (codes "signalled") s.signalled
    ++ count_line (codes "failed") s.failed
    ++ count_line (codes "refused") s.refused
    ++ count_line (codes "lost") s.lost
    ++ count_line (codes "open") s.still_open
    ++ count_line (codes "packets") s.packets

abbrev pub summary_of : (seed calls : ℕ) → Summary
summary_of seed calls = summary_over calm (storm seed calls).played

-- what a storm prints
unfoldable pub storm_text : (seed calls : ℕ) → List ℕ
storm_text seed calls = summary_text seed calls (summary_of seed calls)
