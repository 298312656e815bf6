use Rattle.std.proofs.Common.{rules, arith, ap, ◌∙◌, subst, sym, ◌+◌}
use Rattle.packet_board.specs.Words.{empty, buffers_of}
use Rattle.packet_board.specs.Views.{exchanged, looked}
use Rattle.packet_board.specs.Seats.{view}
use Rattle.packet_pool.specs.Cells.{ready_word, item, HasPacket}
use Rattle.packet_pool.specs.Laws.{MayPost}
use Rattle.packet_pool.specs.Packets.{layout_in, OnlyLooked}
use Rattle.packet_pool.specs.Waiting.{AllFull}
use Rattle.packet_pool.proofs.Seen.{looked_more, all_more, by_look}
use Rattle.packet_pool.proofs.pool.Pool.post_stowed.Goals as goal

pub try_post-requires-clause-stowed : goal.try_post-requires-clause-stowed
try_post-requires-clause-stowed g c = let s = c.requires.stowed in ((s.0.0, ap (λ h. h c.args.number) c.loop-cell.invariant.held_still ∙ s.0.1), s.1)

pub try_post-requires-clause-may : goal.try_post-requires-clause-may
try_post-requires-clause-may g c = λ y is. let inv = c.loop-cell.invariant in
    subst (λ z. MayPost g.L.PoolLaw.right g.L.PoolLaw.posted g.L.PoolLaw.may_post g.L.PoolLaw.is_loose z c.args.number y c.args.order) (sym inv.looked.notes) (c.requires.may y (ap (λ h. h c.args.number) (sym inv.held_still) ∙ is))

pub returns-in-Ok-clause-posted : goal.returns-in-Ok-clause-posted
returns-in-Ok-clause-posted g c = λ _ y is. let inv = c.loop-cell.invariant in let last = view c.loop-cell.seat in let cell = c.loop-cell.cell in let n = c.args.number in let order = c.args.order in record {
  cell = cell;
  ready = search rules;
  last = last;
  looked_on = inv.looked;
  full = inv.full;
  once = inv.once;
  after = c.in-Ok.ensures.posted y (ap (λ h. h n) inv.held_still ∙ is) ∙ ap (λ z. exchanged last cell empty (ready_word order n) (g.L.PoolLaw.with_posted (item order cell y) z)) inv.looked.notes;
}

pub loop-cell-preserved : goal.loop-cell-preserved
loop-cell-preserved g c = let inv = c.loop-cell.invariant in let v = view c.args.seat.now in let last = view c.loop-cell.seat in let n = c.loop-cell.cell in let full = c.in-Err.ensures.full in let same = sym full.0 in let word = c.in-Err.field-0 in let k = layout_in c.args.self.now in record {
  same = (c.try_post.ensures.seat.0 ∙ inv.same.0, c.try_post.ensures.seat.1 ∙ inv.same.1, c.try_post.ensures.seat.2 ∙ inv.same.2);
  looked = subst (OnlyLooked v) same (looked_more v last n word inv.looked);
  held_still = full.1 ∙ inv.held_still;
  full = subst (λ z. AllFull k v.steps z (n + 1)) same (all_more (HasPacket k) v.steps last (looked last n word) (buffers_of k) n word (by_look last n word) inv.full inv.looked.steps full.2);
  once = let o = inv.once in let s = ap (λ z. z.steps) full.0 in omega (arith, o, s);
}
