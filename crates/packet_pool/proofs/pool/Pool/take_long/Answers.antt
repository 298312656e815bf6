use Rattle.std.proofs.Common.{subst, sym, ◌<◌, ◌≤◌, arith, ap}
use Rattle.packet_board.specs.Words.{buffers_of}
use Rattle.packet_board.specs.Hands.{IsUnstowed}
use Rattle.packet_board.specs.Seats.{view, held, number}
use Rattle.packet_pool.specs.Buffers.{IsEmptied}
use Rattle.packet_pool.specs.Packets.{layout_in, AreEmpty}
use Rattle.packet_pool.proofs.Hands.{out_one}
use Rattle.packet_pool.proofs.Seen.{none_left, none_before}
use Rattle.packet_pool.proofs.pool.Pool.take_long.Goals as goal

pub returns-in-Some-clause-packet : goal.returns-in-Some-clause-packet
returns-in-Some-clause-packet g c = let e = c.in-Some.ensures in let small = ap (λ l. l.small) c.args.self.now.same in let long = ap (λ l. l.long) c.args.self.now.same in let low = e.buffer.0 in let high = e.buffer.1 in let h = held c.take_from.new.seat in let k = layout_in c.args.self.now in (
  subst (λ z. IsUnstowed h z × (k.small ≤ z) × (z < buffers_of k)) (sym c.of.ensures.number) (out_one c.in-Some.number (held c.args.seat.now) h e.taken.1, (omega (arith, low, small)), omega (arith, high, small, long)),
  subst IsEmptied (sym c.of.ensures.content) e.buffer.3,
)

pub returns-in-Some-clause-least : goal.returns-in-Some-clause-least
returns-in-Some-clause-least g c = λ alone. let same = ap (λ l. l.small) c.args.self.now.same in let k = layout_in c.args.self.now in let first = c.args.self.now.layout.small in
    subst (λ z. AreEmpty g.L.BoardLaw.holds k (number c.take_from.new.seat) (view c.take_from.new.seat) k.small z) (sym c.of.ensures.number) (λ cell low high.
    none_before g.L.BoardLaw.holds g.met.L.PoolLaw.fresh k _ first c.in-Some.number g.L.PoolLaw.with_taken _ _ alone c.in-Some.ensures.taken.0 cell (omega (arith, low, same)) high)

pub returns-in-None-clause-least : goal.returns-in-None-clause-least
returns-in-None-clause-least g c = λ alone cell low high. let e = c.in-None.ensures.empty in let same = ap (λ l. l.small) c.args.self.now.same in let long = ap (λ l. l.long) c.args.self.now.same in none_left g.L.BoardLaw.holds g.met.L.PoolLaw.fresh _ _ _ _ _ _ alone e.0 e.2 cell (omega (arith, low, same)) (omega (arith, high, same, long))
