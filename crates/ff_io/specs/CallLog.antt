-- The calls of an object in memory: the k-th, counted from 1, fails where k stands in the list that it was made with.
use Rattle.std.specs.Prelude.{ℕ, ◌+◌, List, Bool, Contains, if◌then◌else◌}
use Rattle.ff_io.specs.Count.{next_count}

-- the numbers of the calls that fail, and how many calls were made and have failed
pub record CallLog : Type 0 where
  pub fail : List ℕ
  pub made : ℕ
  pub faults : ℕ

-- before the first call
abbrev pub no_calls : List ℕ → CallLog
no_calls fail = record { fail = fail; made = 0; faults = 0 }

-- the list makes the next call fail
abbrev pub NextFails : CallLog → Type 0
NextFails log = Contains log.fail (log.made + 1)

-- after one more call, which failed or not
abbrev pub called : Bool → CallLog → CallLog
called failed log = record {
  fail = log.fail;
  made = next_count log.made;
  faults = if failed then next_count log.faults else log.faults;
}
