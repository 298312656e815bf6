use Rattle.script_text.specs.Reading.{script_of}
use Rattle.commands.specs.Outside.{output}
use Rattle.commands.proofs.Playing.{Playing}
use Rattle.commands.proofs.replay.play.Given as goal

abbrev pub invariant-loop-event : goal.invariant-loop-event
invariant-loop-event g l = record {
  playing : Playing (script_of l.script) l.event-index l.world l.out.items
      (output (g.K.Sink.written l.fn.sink) (g.K.Sink.faults l.fn.sink)) (output (g.K.Sink.written l.sink) (g.K.Sink.faults l.sink));
}
