use Rattle.std.proofs.Common.{◌≡◌, ◌++◌, take, vec_capacity}
use Rattle.ff_io.proofs.memory_sink.append_in_room.Given as goal

-- the bytes so far were appended
abbrev pub invariant-loop-byte : goal.invariant-loop-byte
invariant-loop-byte l = record {
  items : l.written.items ≡ l.initial.written.items ++ take l.byte-index l.bytes;
  capacity : vec_capacity l.written ≡ vec_capacity l.initial.written;
}
