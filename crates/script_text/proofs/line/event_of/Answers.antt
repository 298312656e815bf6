-- Calls, binds, ticks and skipped numbers are read by their own words.
use Rattle.script_text.proofs.line.event_of.Goals as goal

pub returns-in-Call-clause-reads : goal.returns-in-Call-clause-reads
returns-in-Call-clause-reads c = λ begun. rw c.in-Call.is (c.call_of.ensures.reads begun)

pub returns-in-Bind-clause-reads : goal.returns-in-Bind-clause-reads
returns-in-Bind-clause-reads c = λ begun. rw c.in-Bind.is (c.bind_of.ensures.reads begun)

pub returns-in-Tick-clause-reads : goal.returns-in-Tick-clause-reads
returns-in-Tick-clause-reads c = λ begun. rw c.in-Tick.is (c.ticks_of.ensures.reads begun)

pub returns-in-Skip-clause-reads : goal.returns-in-Skip-clause-reads
returns-in-Skip-clause-reads c = λ begun. rw c.in-Skip.is (c.skip_of.ensures.reads begun)
