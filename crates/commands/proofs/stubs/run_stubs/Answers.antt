use Rattle.commands.proofs.Stubbing.{stubs_from, says_unplanned}
use Rattle.commands.proofs.stubs.run_stubs.Goals as goal

pub returns-in-Err-clause-stubs : goal.returns-in-Err-clause-stubs
returns-in-Err-clause-stubs g c =
    let read = c.in-Err.ensures.read in
    rw c.end_with.ensures.same (stubs_from _ read.0 _ _ _ _ read.1 (says_unplanned _ read.0 _ _ _ _ read.2 c.end_with.ensures.line))
