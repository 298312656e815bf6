use Rattle.std.proofs.Common.{◌≡◌, ℕ, ◌<◌, ◌≤◌, true, false, Some, take, map, slice_index_or, vec_len, vec_capacity}
use Rattle.std.specs.Slots.{slots_items, slots_filled, slots_len}
use Rattle.packet_board.proofs.closing.buffers_left.Given as goal

abbrev pub invariant-loop-number : goal.invariant-loop-number
invariant-loop-number l = record {
  read : map Some l.buffers.items ≡ take l.number (slots_items l.fn.left.slots);
  items : slots_items l.left.slots ≡ slots_items l.fn.left.slots;
  places : slots_len l.left.slots ≡ slots_len l.fn.left.slots;
  full : (k : ℕ) → l.number ≤ k → k < slots_len l.left.slots → slice_index_or (slots_filled l.left.slots) k false ≡ true;
  taken : (k : ℕ) → k < l.number → slice_index_or (slots_filled l.left.slots) k false ≡ false;
  len : vec_len l.buffers ≡ l.number;
  room : vec_capacity l.buffers ≡ l.count;
}
