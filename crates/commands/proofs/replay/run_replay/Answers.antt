use Rattle.script_text.specs.Reading.{script_of}
use Rattle.commands.specs.declared.status.Status.TheVariants as status
use Rattle.commands.proofs.Saying.{says_unread, says_stopped}
use Rattle.commands.proofs.Completeness.{replays_from}
use Rattle.commands.proofs.replay.run_replay.Goals as goal

pub returns-in-Err-clause-replays : goal.returns-in-Err-clause-replays
returns-in-Err-clause-replays g c =
    let read = c.in-Err.ensures.read in
    rw c.end_with.ensures.same (replays_from c.one_reading.ensures c.no_fault_where_spelled.ensures.no_fault _ read.0 _ _ _ _ read.1
    (says_unread c.once_after_any_events.ensures _ read.0 _ _ _ _ read.2 c.end_with.ensures.line))

pub returns-in-Ok-play-clause-replays : goal.returns-in-Ok-play-clause-replays
returns-in-Ok-play-clause-replays g c =
    let read = c.in-Ok.ensures.read in
    replays_from c.one_reading.ensures c.no_fault_where_spelled.ensures.no_fault status.Ok read.0 _ _ _ _ read.1 (
      read.2.2,
      record {
        script = script_of c.in-Ok.script;
        is_script = read.2.0;
        within = read.2.1;
        written = c.in-Ok-play.ensures.ok;
        once = c.once_after_any_events.ensures c.in-Ok.script.small c.in-Ok.script.long c.in-Ok.script.events c.in-Ok.ensures.in_range;
      },
    )

pub returns-clause-replays : goal.returns-clause-replays
returns-clause-replays g c =
    let read = c.in-Ok.ensures.read in
    rw c.end_with-in-Err-play.ensures.same (replays_from c.one_reading.ensures c.no_fault_where_spelled.ensures.no_fault _ read.0 _ _ _ _ read.1
    (says_stopped c.one_reading.ensures c.told_laws.ensures.appended_in_turn _ read.0 (script_of c.in-Ok.script) _ _ _ _ _ read.2.0 read.2.1 read.2.2
    c.in-Err-play.ensures.count c.end_with-in-Err-play.ensures.count c.in-Err-play.ensures.err c.end_with-in-Err-play.ensures.line))
