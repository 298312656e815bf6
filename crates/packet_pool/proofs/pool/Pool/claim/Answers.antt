use Rattle.std.proofs.Common.{ℕ, refl, sym, ap, ◌∙◌, subst, ◌≡◌, ◌<◌, None}
use mathlib.Core.Option.{some}
use Rattle.packet_board.specs.Words.{empty}
use Rattle.packet_board.specs.Hands.{updated, IsUnstowed}
use Rattle.packet_board.specs.Views.{exchanged}
use Rattle.packet_board.specs.Seats.{view, held, number}
use Rattle.packet_pool.specs.declared.packet.NoPacket.{NoPacket}
use Rattle.packet_pool.specs.Cells.{ready_word, item}
use Rattle.packet_pool.specs.Packets.{layout_in, content}
use Rattle.packet_pool.specs.Waiting.{Claims, NoneClaimed, AreBehind}
use Rattle.packet_pool.proofs.Results.{ok_as, err_as}
use Rattle.packet_pool.proofs.Hands.{out_one}
use Rattle.packet_pool.proofs.Seen.{is_now, by_exchange}
use Rattle.packet_pool.proofs.Least.{behind_now}
use Rattle.packet_pool.proofs.pool.Pool.claim.Goals as goal

pub returns-in-None-clause-none_waits : goal.returns-in-None-clause-none_waits
returns-in-None-clause-none_waits g c = λ alone. (refl, λ cell is. is_now g.L.BoardLaw.holds g.met.L.PoolLaw.fresh _ _ _ _ cell (λ word. word ≡ empty) (c.least_ready.ensures.looked.alone ∙ alone) (c.in-None.ensures.seen cell is))

pub returns-in-Some-clause-packet : goal.returns-in-Some-clause-packet
returns-in-Some-clause-packet g c = let h = held c.claim_seen.new.seat in let small = (layout_in c.args.self.now).small in ok_as c.claim_seen.result _ _ (λ packet is. subst (λ z. IsUnstowed h z × (z < small)) (sym is.0)
    (out_one c.in-Some.chosen.number (held c.least_ready.new.seat) h is.3, c.in-Some.ensures.found.small)) c.claim_seen.ensures.claimed

pub returns-in-Some-clause-claimed : goal.returns-in-Some-clause-claimed
returns-in-Some-clause-claimed g c = let x = c.in-Some.chosen in let last = view c.least_ready.new.seat in let found = c.in-Some.ensures.found in let o = c.least_ready.ensures.looked in let v = view c.args.seat.now in let w = view c.claim_seen.new.seat in let k = layout_in c.args.self.now in
    ok_as c.claim_seen.result _ _ (λ packet is. (
      subst (λ (z : ℕ). Claims g.L.PoolLaw.with_claimed g.L.PoolLaw.may_post k z (content packet) v w) (sym is.0) record {
        order = x.order;
        cell = x.cell;
        last = last;
        chosen = record { ready = (found.low, found.high); small = found.small; looked_on = o; seen = found.seen; once = c.least_ready.ensures.once; least = c.in-Some.ensures.seen };
        packet = is.1;
        after = is.2 ∙ ap (λ z. exchanged last x.cell (ready_word x.order x.number) empty (g.L.PoolLaw.with_claimed (item x.order x.cell (content packet)) z)) o.notes;
      },
      subst (λ (z : ℕ). held c.claim_seen.new.seat ≡ updated z (some None) (held c.args.seat.now)) (sym is.0) (is.3 ∙ ap (λ h. updated x.number (some None) h) c.least_ready.ensures.held),
    )) c.claim_seen.ensures.claimed

pub returns-in-Some-clause-least : goal.returns-in-Some-clause-least
returns-in-Some-clause-least g c = λ alone. let x = c.in-Some.chosen in let k = layout_in c.args.self.now in let last = view c.least_ready.new.seat in let o = c.least_ready.ensures.looked in
    ok_as c.claim_seen.result _ _ (λ packet is. let notes = g.L.PoolLaw.with_claimed (item x.order x.cell (content packet)) last.notes in (
      x.order,
      x.cell,
      ap (λ z. z.notes) is.2 ∙ ap (λ z. g.L.PoolLaw.with_claimed (item x.order x.cell (content packet)) z) o.notes,
      subst (λ z. AreBehind g.L.BoardLaw.holds k (number c.claim_seen.new.seat) z x.order) (sym is.2) (behind_now g.L.BoardLaw.holds g.met.L.PoolLaw.fresh k _ (view c.args.seat.now).steps last (exchanged last x.cell (ready_word x.order x.number) empty notes) x.cell x.order
          (by_exchange last x.cell (ready_word x.order x.number) empty notes) (o.alone ∙ alone) o.steps c.in-Some.ensures.seen),
    )) c.claim_seen.ensures.claimed

pub returns-in-Some-clause-none : goal.returns-in-Some-clause-none
returns-in-Some-clause-none g c = let x = c.in-Some.chosen in let last = view c.least_ready.new.seat in let found = c.in-Some.ensures.found in let k = layout_in c.args.self.now in let v = view c.args.seat.now in let w = view c.claim_seen.new.seat in
    err_as c.claim_seen.result _ _ (λ why lost. (
      subst (λ (z : NoPacket). NoneClaimed k v w z) (sym lost.1) record {
        order = x.order;
        number = x.number;
        cell = x.cell;
        last = last;
        chosen = record { ready = (found.low, found.high); small = found.small; looked_on = c.least_ready.ensures.looked; seen = found.seen; once = c.least_ready.ensures.once; least = c.in-Some.ensures.seen };
        other = lost.2;
        after = lost.3;
      },
      lost.4 ∙ c.least_ready.ensures.held,
    )) c.claim_seen.ensures.lost

pub returns-in-Some-clause-none_waits : goal.returns-in-Some-clause-none_waits
returns-in-Some-clause-none_waits g c = λ alone. err_as c.claim_seen.result _ _ (λ why others. absurd (others (is_now g.L.BoardLaw.holds g.met.L.PoolLaw.fresh _ _ _ _ _ _ (c.least_ready.ensures.looked.alone ∙ alone) c.in-Some.ensures.found.seen))) c.claim_seen.ensures.others
