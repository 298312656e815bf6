use Rattle.std.proofs.Common.{subst, ◌∙◌, []}
use Rattle.commands.specs.Outside.{WroteUnlessFailed, output}
use Rattle.commands.proofs.Saying.{as_written}
use Rattle.commands.proofs.ending.end_with.Goals as goal

pub returns-clause-line : goal.returns-clause-line
returns-clause-line g c =
    let sink = output (g.K.Sink.written c.args.sink.now) (g.K.Sink.faults c.args.sink.now) in
    let after = output (g.K.Sink.written c.write_all.new.sink) (g.K.Sink.faults c.write_all.new.sink) in
    let e = c.write_all.ensures in
    subst (λ x. WroteUnlessFailed [] x sink after) (c.as_bytes.ensures.value ∙ c.as_str.ensures.value ∙ c.fault_line_of-line.ensures)
    (as_written c.write_all.result c.as_bytes.result.now sink after e.all e.part e.failed e.still)
