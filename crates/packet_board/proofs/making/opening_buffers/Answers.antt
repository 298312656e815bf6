use Rattle.std.proofs.Common.{arith, sym, subst, ◌∙◌, ◌+◌, ℕ}
use Rattle.packet_board.specs.Words.{AreNew}
use Rattle.packet_board.proofs.Openings.{more_new, new_buffer}
use Rattle.packet_board.proofs.making.opening_buffers.Goals as goal

pub loop-number-preserved : goal.loop-number-preserved
loop-number-preserved c = let k = c.args.layout.now in let n : ℕ = c.loop-number.number in let y = c.in_ok-blank.field-0 in let is = c.in_ok-blank.ensures in let inv = c.loop-number.invariant in let push = c.push_reserved.ensures in record {
  new = subst (AreNew k (n + 1)) (sym push.items) (more_new k n c.loop-number.slots.items y inv.new (new_buffer k n y (is.0 ∙ c.bytes_of.ensures) is.1 is.2));
  len = let l = inv.len in let p = push.len in omega (arith, l, p);
  room = push.capacity ∙ inv.room;
}
