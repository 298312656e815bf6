use Rattle.std.proofs.Common.{arith, refl, sym, ap, ◌∙◌, subst, ⊎_elim, Some, ◌<◌, ◌≡◌, Option}
use Rattle.packet_board.specs.declared.buffer.Buffer.{Buffer}
use Rattle.packet_board.specs.Words.{empty}
use Rattle.packet_board.specs.Hands.{flat}
use Rattle.packet_board.specs.Views.{exchanged}
use Rattle.packet_board.specs.Seats.{view, held}
use Rattle.packet_board.specs.Holding.{same_value}
use Rattle.packet_pool.specs.Cells.{IsReadyCell, ready_word, item, HasPacket}
use Rattle.packet_pool.proofs.Results.{ok_as, err_as}
use Rattle.packet_pool.proofs.pool.Pool.try_post.Goals as goal

pub exchange-requires-clause-words : goal.exchange-requires-clause-words
exchange-requires-clause-words g c = let s = c.requires.stowed.0 in let next = (c.requires.may s.0 s.1).next.0 in let small = c.requires.stowed.1 in let few = c.args.self.now.few.0 in let same = ap (λ l. l.small) c.args.self.now.same in
    (((omega arith), tt), ((omega (arith, next)), omega (arith, small, few, same)))

pub exchange-requires-clause-law : goal.exchange-requires-clause-law
exchange-requires-clause-law g c = λ ws out hs vs found meets. let n = c.args.number in let v = view c.args.seat.now in let s = c.requires.stowed.0 in let y = s.0 in let cell = c.args.cell in let order = c.args.order in
    let notes = g.L.PoolLaw.with_posted (item order cell y) v.notes in let given : flat (held c.args.seat.now n) ≡ Some y = ap flat s.1 in (
      notes,
      subst (λ (z : Option Buffer × Option Buffer). g.L.BoardLaw.allows v cell empty (ready_word order n) z.0 z.1 notes) (λ i. (sym given i, sym meets.sort i))
          (g.met.L.PoolLaw.posts v cell n y order (subst (λ l. IsReadyCell l cell) (sym c.requires.seat.1) c.requires.cell) (subst (λ l. n < l.small) (sym c.requires.seat.1) c.requires.stowed.1) (c.requires.may y s.1)),
      (y, given, refl),
    )

pub exchange-requires-clause-tells : goal.exchange-requires-clause-tells
exchange-requires-clause-tells g c = λ ws out hs vs word seen at ne. subst (λ l. HasPacket l word) (sym c.requires.seat.1) (⊎_elim (λ e. absurd (ne e)) (λ h. h) ((g.met.L.PoolLaw.cells _ ws _ vs seen.lawful).ready c.args.cell word c.requires.cell at))

pub returns-clause-posted : goal.returns-clause-posted
returns-clause-posted g c = let v = view c.args.seat.now in let cell = c.args.cell in let n = c.args.number in let order = c.args.order in
    ok_as c.exchange.result _ _ (λ _ d y is. let same = same_value d.chosen.0 y (sym d.chosen.1 ∙ ap flat is) in
    d.view_after ∙ ap (λ z. exchanged v cell empty (ready_word order n) z) (d.chosen.2 ∙ ap (λ z. g.L.PoolLaw.with_posted (item order cell z) v.notes) same)) c.exchange.ensures.done

pub returns-clause-full : goal.returns-clause-full
returns-clause-full g c = err_as c.exchange.result _ _ (λ word m. (m.3, m.4, subst (λ l. HasPacket l word) c.requires.seat.1 m.2)) c.exchange.ensures.met
