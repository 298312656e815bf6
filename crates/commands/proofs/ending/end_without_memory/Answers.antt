use Rattle.commands.proofs.Unplayed.{replays_without_memory, storms_without_memory, stubs_without_memory}
use Rattle.commands.proofs.ending.end_without_memory.Goals as goal

pub returns-clause-replays : goal.returns-clause-replays
returns-clause-replays g c =
    rw c.end_with.ensures.same
    (replays_without_memory c.one_reading.ensures c.no_fault_where_spelled.ensures.no_fault c.once_after_any_events.ensures _ _ _ c.end_with.ensures.line)

pub returns-clause-stubs : goal.returns-clause-stubs
returns-clause-stubs g c = rw c.end_with.ensures.same (stubs_without_memory _ _ _ c.end_with.ensures.line)

pub returns-clause-storms : goal.returns-clause-storms
returns-clause-storms g c = λ seed calls.
    rw c.end_with.ensures.same
    (storms_without_memory c.once_after_any_events.ensures c.a_spelling_is_32_bytes.ensures.count c.packets_survive_any_events.ensures.spelled seed calls _ _ c.end_with.ensures.line)

pub returns-clause-line : goal.returns-clause-line
returns-clause-line g c = rw c.end_with.ensures.same c.end_with.ensures.line
