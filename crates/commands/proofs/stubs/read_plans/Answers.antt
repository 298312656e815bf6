use Rattle.std.proofs.Common.{ap, Err}
use Rattle.std.proofs.lemmas.Result.{err_from_is_err_and}
use Rattle.commands.specs.Outside.{input}
use Rattle.commands.proofs.Stubbing.{unplanned}
use Rattle.commands.proofs.stubs.read_plans.Goals as goal

pub returns-in_err-bytes-clause-read : goal.returns-in_err-bytes-clause-read
returns-in_err-bytes-clause-read g c =
    let from = input (g.S.Source.left c.args.source.now) (g.S.Source.faults c.args.source.now) in
    let to = input (g.S.Source.left c.read_all.new.source) (g.S.Source.faults c.read_all.new.source) in
    let h = c.in_err-bytes.ensures in
    let p = err_from_is_err_and c.from_residual.result c.from_residual.ensures.1 in
    let why = unplanned c.in_err-bytes.field-0.0 from to h.read.0 h.read.1 (λ e. h.read.3.0 (ap Err e)) (λ e. h.failed (ap Err e)) in
    (why.0, why.1, rw (p.1, p.2) why.2)
