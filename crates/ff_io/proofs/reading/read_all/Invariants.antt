use Rattle.std.proofs.Common.{◌-◌, ◌≡◌, vec_len, ◌≤◌}
use Rattle.ff_io.specs.Told.{Gave}
use Rattle.ff_io.proofs.reading.read_all.Given as goal

-- the bytes so far are those that the source gave
abbrev pub invariant-loop-bytes : goal.invariant-loop-bytes
invariant-loop-bytes g l = record {
  fits : vec_len l.bytes ≤ l.limit;
  given : Gave l.bytes.items (g.S.Source.left l.initial.source) (g.S.Source.left l.source);
  still : g.S.Source.faults l.source ≡ g.S.Source.faults l.initial.source;
}

abbrev pub decreases-loop-bytes : goal.decreases-loop-bytes
decreases-loop-bytes g l = l.limit - vec_len l.bytes
