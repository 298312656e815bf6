use Rattle.std.proofs.Common.{◌≡◌, vec_len, vec_capacity}
use Rattle.packet_board.specs.Words.{AreNew}
use Rattle.packet_board.proofs.making.opening_buffers.Given as goal

abbrev pub invariant-loop-number : goal.invariant-loop-number
invariant-loop-number l = record { new : AreNew l.layout l.number l.slots.items; len : vec_len l.slots ≡ l.number; room : vec_capacity l.slots ≡ l.count }
