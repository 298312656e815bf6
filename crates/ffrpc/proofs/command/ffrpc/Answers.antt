use Rattle.std.proofs.Common.{◌≡◌, subst, refl}
use Rattle.commands.specs.declared.status.Status.{Status}
use Rattle.commands.specs.declared.status.Status.TheVariants as status
use Rattle.commands.specs.Outside.{Input, Output}
use Rattle.commands.specs.Replay.{Replays, Says}
use Rattle.ffrpc.proofs.command.ffrpc.Goals as goal

-- what a replay answers isn't that its words are refused
never_usage : (st : Status) (from to : Input) (old new : Output) → Replays st from to old new → st ≡ status.Usage → ⊥
never_usage st from to old new replays is = subst (λ (x : Status). Says x replays.text from to old new) is replays.says

pub returns-in-Ok-Replay-clause-replays : goal.returns-in-Ok-Replay-clause-replays
returns-in-Ok-Replay-clause-replays g c = λ _. c.run_replay.ensures.replays

pub returns-in-Ok-Replay-clause-usage : goal.returns-in-Ok-Replay-clause-usage
returns-in-Ok-Replay-clause-usage g c = λ is. absurd (never_usage _ _ _ _ _ c.run_replay.ensures.replays is)

pub returns-in-Ok-Replay-clause-read_still : goal.returns-in-Ok-Replay-clause-read_still
returns-in-Ok-Replay-clause-read_still g c = c.run_replay.ensures.read_still

pub returns-in-Ok-Replay-clause-write_still : goal.returns-in-Ok-Replay-clause-write_still
returns-in-Ok-Replay-clause-write_still g c = c.run_replay.ensures.write_still

pub returns-in-Err-Usage-clause-unread : goal.returns-in-Err-Usage-clause-unread
returns-in-Err-Usage-clause-unread g c = λ _. refl

pub returns-in-Err-Usage-clause-read_still : goal.returns-in-Err-Usage-clause-read_still
returns-in-Err-Usage-clause-read_still g c = λ _. refl

pub returns-in-Err-Usage-clause-refused_line : goal.returns-in-Err-Usage-clause-refused_line
returns-in-Err-Usage-clause-refused_line g c = λ refused. rw c.end_with.ensures.same c.end_with.ensures.line
