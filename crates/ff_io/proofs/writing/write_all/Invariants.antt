use Rattle.std.proofs.Common.{length, ◌-◌, ◌≡◌, ◌≤◌, take}
use Rattle.ff_io.specs.Told.{Appended}
use Rattle.ff_io.proofs.writing.write_all.Given as goal

-- the bytes below `at` were written
abbrev pub invariant-loop-at : goal.invariant-loop-at
invariant-loop-at g l = record {
  within : l.at ≤ length l.bytes;
  written : Appended (take l.at l.bytes) (g.K.Sink.written l.initial.sink) (g.K.Sink.written l.sink);
  still : g.K.Sink.faults l.sink ≡ g.K.Sink.faults l.initial.sink;
}

abbrev pub decreases-loop-at : goal.decreases-loop-at
decreases-loop-at g l = length l.bytes - l.at
