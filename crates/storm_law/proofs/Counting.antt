-- How many calls the acts of an event start and end, and what that makes of the records.
use Rattle.std.proofs.Common.{◌≡◌, ℕ, ◌+◌, List, [], ◌∷◌, ◌++◌, length, arith, length-append}
use Rattle.replay_model.specs.Record.{Records, Act, Starts, Returns, Fails, recorded, recorded_all}
use Rattle.replay_model.specs.Step.{Outcome}
use Rattle.replay_model.specs.World.{World}
use Rattle.replay_model.specs.OpenCalls.{open_calls}

abbrev pub started_by : Act → ℕ
started_by (Starts s) = 1
started_by _ = 0

abbrev pub ended_by : Act → ℕ
ended_by (Returns x) = 1
ended_by (Fails call cause) = 1
ended_by _ = 0

abbrev pub started_by_all : List Act → ℕ
started_by_all [] = 0
started_by_all (a ∷ acts) = started_by a + started_by_all acts

abbrev pub ended_by_all : List Act → ℕ
ended_by_all [] = 0
ended_by_all (a ∷ acts) = ended_by a + ended_by_all acts

-- the calls whose end is recorded
abbrev pub ended : Records → ℕ
ended r = length r.returns + length r.failures

-- what is recorded, after the records r, of acts that start and end so many calls
pub record Counts (r after : Records) (starts ends : ℕ) : Type 0 where
  pub started : length after.started ≡ length r.started + starts
  pub ended : ended after ≡ ended r + ends

counts_one : (r : Records) (a : Act) → Counts r (recorded r a) (started_by a) (ended_by a)
counts_one r (Starts s) = record { started = length-append r.started (s ∷ []); ended = omega arith }
counts_one r (Returns x) = record { started = omega arith; ended = omega (arith, length-append r.returns (x ∷ [])) }
counts_one r (Fails call cause) = record { started = omega arith; ended = omega (arith, length-append r.failures (record { call = call; cause = cause; marks = r.marks } ∷ [])) }
counts_one r _ = record { started = omega arith; ended = omega arith }

pub counts_all : (r : Records) (acts : List Act) → Counts r (recorded_all r acts) (started_by_all acts) (ended_by_all acts)
counts_all r [] = record { started = omega arith; ended = omega arith }
counts_all r (a ∷ acts) =
    let one = counts_one r a in
    let more = counts_all (recorded r a) acts in
    record { started = omega arith; ended = omega arith }

pub started_by_both : (xs ys : List Act) → started_by_all (xs ++ ys) ≡ started_by_all xs + started_by_all ys
started_by_both [] ys = omega arith
started_by_both (x ∷ xs) ys = omega (arith, started_by_both xs ys)

pub ended_by_both : (xs ys : List Act) → ended_by_all (xs ++ ys) ≡ ended_by_all xs + ended_by_all ys
ended_by_both [] ys = omega arith
ended_by_both (x ∷ xs) ys = omega (arith, ended_by_both xs ys)

-- An outcome accounts for its calls: those that it starts and those that were open before have ended, are lost, or are
-- open after it. begun are calls whose start is told before the outcome.
pub record Accounts (begun lost : ℕ) (w : World) (o : Outcome) : Type 0 where
  pub balanced : begun + started_by_all o.acts + open_calls w ≡ ended_by_all o.acts + lost + open_calls o.world
