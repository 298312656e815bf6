use Rattle.std.proofs.Common.{arith, ap, ◌∙◌, subst, sym, ◌≤◌, ◌<◌, ◌+◌, ℕ, IfSome}
use Rattle.packet_board.specs.Words.{buffers_of}
use Rattle.packet_board.specs.Seats.{view}
use Rattle.packet_pool.specs.Cells.{IsReadyWord}
use Rattle.packet_pool.specs.Packets.{layout_in, OnlyLooked, IsSeen}
use Rattle.packet_pool.specs.Least.{IsAfter, IsWaiting}
use Rattle.packet_pool.proofs.Seen.{looked_more}
use Rattle.packet_pool.proofs.Least.{after_more, waits_more}
use Rattle.packet_pool.proofs.pool.Pool.least_ready.Goals as goal

pub loop-cell-preserved : goal.loop-cell-preserved
loop-cell-preserved g c = let inv = c.loop-cell.invariant in let k = layout_in c.args.self.now in let v = view c.args.seat.now in let w = view c.loop-cell.seat in let cell : ℕ = c.loop-cell.cell in let word = c.load-word.result in let same = sym c.load-word.ensures.view in
    let first = c.buffers-first.ensures in let past = c.loop-cell.auto.cell in let small = ap (λ l. l.small) c.args.self.now.same in let long = ap (λ l. l.long) c.args.self.now.same in let low : buffers_of k ≤ cell = omega (arith, first, past, small, long) in
    let is : IsReadyWord k word = subst (λ l. IsReadyWord l word) (inv.same.2 ∙ c.requires.seat.1) c.load-word.ensures.tells in let least = c.loop-cell.least in let result = c.lesser-least.result in record {
      same = (c.load-word.ensures.seat.0 ∙ inv.same.0, c.load-word.ensures.seat.1 ∙ inv.same.1, c.load-word.ensures.seat.2 ∙ inv.same.2);
      looked = subst (OnlyLooked v) same (looked_more v w cell word inv.looked);
      held_still = c.load-word.ensures.held ∙ inv.held_still;
      once = let o = inv.once in let s = ap (λ z. z.steps) c.load-word.ensures.view in omega (arith, o, s);
      seen = subst (λ z. (other : ℕ) → buffers_of k ≤ other → other < cell + 1 → IsSeen v.steps z other (IsAfter result other)) same
          (after_more k v.steps w cell word least result (buffers_of k) inv.looked.steps c.lesser-least.ensures.former c.lesser-least.ensures.further inv.seen);
      found = subst (λ z. IfSome result (IsWaiting k v.steps z (cell + 1))) same (waits_more k v.steps w cell word least result inv.looked.steps low is c.load-word.ensures.word.0 inv.found c.lesser-least.ensures.one_of);
    }
