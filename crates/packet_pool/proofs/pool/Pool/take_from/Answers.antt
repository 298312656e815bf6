use Rattle.std.proofs.Common.{arith, ap, ◌∙◌, subst, sym, None, ◌+◌}
use mathlib.Core.Option.{some}
use Rattle.packet_board.specs.Words.{empty, full}
use Rattle.packet_board.specs.Hands.{updated}
use Rattle.packet_board.specs.Views.{exchanged}
use Rattle.packet_board.specs.Seats.{view}
use Rattle.packet_pool.specs.Laws.{after_take}
use Rattle.packet_pool.specs.Packets.{OnlyLooked, AllEmpty}
use Rattle.packet_pool.proofs.Seen.{looked_more, empty_more}
use Rattle.packet_pool.proofs.pool.Pool.take_from.Goals as goal

pub returns-in-Some-clause-taken : goal.returns-in-Some-clause-taken
returns-in-Some-clause-taken g c = let inv = c.loop-number.invariant in let last = view c.loop-number.seat in let n = c.loop-number.number in (
  record {
    last = last;
    looked = inv.looked;
    missed = inv.empty;
    once = inv.once;
    after = c.in-Some.ensures.taken ∙ (λ i. exchanged last n (full n) empty (after_take g.L.PoolLaw.with_taken (inv.looked.layout i) n (inv.looked.notes i)));
  },
  c.in-Some.ensures.held ∙ ap (λ h. updated n (some None) h) inv.held_still,
)

pub loop-number-preserved : goal.loop-number-preserved
loop-number-preserved g c = let inv = c.loop-number.invariant in let v = view c.args.seat.now in let last = view c.loop-number.seat in let n = c.loop-number.number in let same = sym c.in-None.ensures.taken in record {
  same = (c.try_take.ensures.seat.0 ∙ inv.same.0, c.try_take.ensures.seat.1 ∙ inv.same.1, c.try_take.ensures.seat.2 ∙ inv.same.2);
  looked = subst (OnlyLooked v) same (looked_more v last n empty inv.looked);
  held_still = c.in-None.ensures.held ∙ inv.held_still;
  empty = subst (λ z. AllEmpty v.steps z c.args.first (n + 1)) same (empty_more v.steps last c.args.first n inv.empty inv.looked.steps);
  once = let o = inv.once in let s = ap (λ z. z.steps) c.in-None.ensures.taken in omega (arith, o, s);
}
