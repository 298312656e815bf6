use Rattle.std.proofs.Common.{arith, ap, sym, subst, ◌∙◌, ⊎_elim, ℕ, ◌++◌, ◌∷◌, []}
use lib.ListN.{get_elem?}
use Rattle.atomic_table.proofs.Lists.{at_snoc}
use Rattle.std.specs.Slots.{slots_items}
use Rattle.packet_board.specs.Words.{Fits}
use Rattle.packet_board.proofs.Closings.{more_cells}
use Rattle.packet_board.proofs.closing.cells_left.Goals as goal

pub loop-cell-preserved : goal.loop-cell-preserved
loop-cell-preserved c = let ns = slots_items c.args.left.now.words in let i : ℕ = c.loop-cell.cell in let inv = c.loop-cell.invariant in let push = c.push_reserved.ensures in record {
  read = push.items ∙ ((λ j. inv.read j ++ c.unpack.ensures.value j ∷ []) ∙ more_cells ns i c.word.result c.word.ensures);
  fit = λ cell w e. ⊎_elim (λ p. inv.fit cell w p) (λ p. subst Fits p c.unpack.ensures.fits) (at_snoc c.loop-cell.words.items c.unpack.result w cell (ap (λ z. get_elem? z cell) (sym push.items) ∙ e));
  len = let l = inv.len in let p = push.len in omega (arith, l, p);
  room = push.capacity ∙ inv.room;
}
