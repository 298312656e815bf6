-- How the counts of calls go on.
use Rattle.std.specs.Prelude.{◌+◌, Bool, true, false}
use Rattle.replay_model.specs.Record.{Counts}

-- the counts after one more run
abbrev pub counts_run : Counts → Counts
counts_run c = record c { runs = c.runs + 1 }

-- the counts after one more return, by a signal or not
abbrev pub counts_return : Counts → Bool → Counts
counts_return c true = record c { signalled = c.signalled + 1 }
counts_return c false = record c { returned = c.returned + 1 }

-- the counts after one more call that nobody answered, or that the server refused
abbrev pub counts_failure : Counts → Counts
counts_failure c = record c { failed = c.failed + 1 }

abbrev pub counts_refusal : Counts → Counts
counts_refusal c = record c { refused = c.refused + 1 }
