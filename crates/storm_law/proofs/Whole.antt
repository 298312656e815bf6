-- The calls that are started add up after any events.
use Rattle.std.proofs.Common.{◌≡◌, ℕ, ◌+◌, List, [], ◌∷◌, length, not, filter, refl, arith}
use Rattle.std.specs.List.{range_with_len}
use Rattle.std.proofs.lemmas.List.Filters.{length-filter_both}
use Rattle.replay_model.specs.declared.event.Event.{Event}
use Rattle.replay_model.specs.declared.limits.TheConstants.{FIRST_CLIENT, CLIENTS}
use Rattle.replay_model.specs.Record.{Return, Failure, is_unanswered}
use Rattle.replay_model.specs.Step.{outcome, step, run}
use Rattle.replay_model.specs.World.{World, first_world}
use Rattle.replay_model.specs.OpenCalls.{open_calls, lost_in, lost_over}
use Rattle.replay_model.specs.Summary.{IsBalanced, summary_over}
use Rattle.storm_law.proofs.Counting.{ended, counts_all}
use Rattle.storm_law.proofs.Events.{event_accounts, none_open}

-- From one world to a later one: what was started in between, and was open before, has ended, is lost or is open.
record Balances (before after : World) (lost : ℕ) : Type 0 where
  pub balanced : length after.records.started + open_calls before + ended before.records ≡ length before.records.started + ended after.records + lost + open_calls after

step_balances : (w : World) (e : Event) → Balances w (step w e) (lost_in w e)
unfolding step
step_balances w e =
    let counts = counts_all w.records (outcome w e).acts in
    record { balanced = omega (arith, counts.started, counts.ended, (event_accounts w e).balanced) }

run_balances : (w : World) (es : List Event) → Balances w (run w es) (lost_over w es)
run_balances w [] = record { balanced = omega arith }
run_balances w (e ∷ es) =
    record { balanced = omega (arith, (step_balances w e).balanced, (run_balances (step w e) es).balanced) }

-- the calls that have returned, by their kinds
returned_or_signalled : (xs : List Return) → length (filter (λ (x : Return). not x.signal) xs) + length (filter (λ (x : Return). x.signal) xs) ≡ length xs
returned_or_signalled xs = omega (arith, length-filter_both (λ (x : Return). x.signal) (λ (x : Return). not x.signal) (λ x. refl) xs)

-- the calls that have failed, by their causes
failed_or_refused : (fs : List Failure) → length (filter (λ (f : Failure). is_unanswered f.cause) fs) + length (filter (λ (f : Failure). not (is_unanswered f.cause)) fs) ≡ length fs
failed_or_refused fs = length-filter_both (λ (f : Failure). is_unanswered f.cause) (λ (f : Failure). not (is_unanswered f.cause)) (λ f. refl) fs

-- the first world has no call open
none_open_at_first : (small long : ℕ) → open_calls (first_world small long) ≡ 0
none_open_at_first small long = none_open 1 (range_with_len FIRST_CLIENT CLIENTS)

pub balanced_after : (small long : ℕ) (events : List Event) → IsBalanced (summary_over (first_world small long) events)
balanced_after small long events =
    let last : World = run (first_world small long) events in
    let whole = run_balances (first_world small long) events in
    omega (arith, whole.balanced, none_open_at_first small long, returned_or_signalled last.records.returns, failed_or_refused last.records.failures)
