use Rattle.std.proofs.Common.{refl, sym, ap, ◌∙◌, subst, None, ◌<◌, Option}
use mathlib.Core.Option.{some, some-injective}
use Rattle.atomic_table.proofs.Lists.{at_map}
use Rattle.packet_board.specs.declared.buffer.Buffer.{Buffer}
use Rattle.packet_board.specs.Words.{empty}
use Rattle.packet_board.specs.Hands.{flat, updated}
use Rattle.packet_board.specs.Views.{exchanged}
use Rattle.packet_board.specs.Seats.{view, held}
use Rattle.packet_pool.specs.Cells.{IsReadyCell, ready_word, item}
use Rattle.packet_pool.proofs.Hands.{found_stowed, twice_updated, same_content}
use Rattle.packet_pool.proofs.pool.Pool.claim_word.Goals as goal

pub exchange-requires-clause-law : goal.exchange-requires-clause-law
exchange-requires-clause-law g c = λ ws out hs vs found meets. let v = view c.args.seat.now in let w = c.args.chosen in let y = meets.sort.0 in let notes = g.L.PoolLaw.with_claimed (item w.order w.cell y) v.notes in (
  notes,
  subst (λ (z : Option Buffer). g.L.BoardLaw.allows v w.cell (ready_word w.order w.number) empty None z notes) (sym meets.sort.1)
      (g.met.L.PoolLaw.claims v w.cell w.number y w.order (subst (λ l. IsReadyCell l w.cell) (sym c.requires.seat.1) c.requires.cell) (subst (λ l. w.number < l.small) (sym c.requires.seat.1) c.requires.packet.0)),
  (y, meets.sort.1, refl, (g.met.L.PoolLaw.cells _ ws _ vs meets.seen.lawful).postable w.cell w.number (ready_word w.order w.number) y c.requires.cell meets.at_cell refl (at_map flat hs w.number (some found) (meets.taken w.number refl) ∙ ap some meets.sort.1)),
)

pub exchange-requires-clause-tells : goal.exchange-requires-clause-tells
exchange-requires-clause-tells g c = λ ws out hs vs word seen at ne now. let is = now ws out hs vs seen in ne (some-injective word is.0 (sym at ∙ is.1) ∙ is.2)

pub unstow-requires-clause-stowed : goal.unstow-requires-clause-stowed
unstow-requires-clause-stowed g c = let d = c.in-Ok.ensures.done in found_stowed c.args.chosen.number (held c.args.seat.now) (held c.exchange.new.seat) d.found d.sort.0 d.held_after d.sort.1

pub returns-in-Ok-clause-buffer : goal.returns-in-Ok-clause-buffer
returns-in-Ok-clause-buffer g c = let d = c.in-Ok.ensures.done in let n = c.args.chosen.number in let h = held c.args.seat.now in let y = d.chosen.0 in
    let put = d.held_after ∙ ap (λ z. updated n (some z) h) d.chosen.1 in (c.unstow.ensures.bounds.1, subst g.L.PoolLaw.may_post (same_content n h (held c.exchange.new.seat) y c.unstow.result put c.unstow.ensures.buffer) d.chosen.3)

pub returns-in-Ok-clause-claimed : goal.returns-in-Ok-clause-claimed
returns-in-Ok-clause-claimed g c = let d = c.in-Ok.ensures.done in let w = c.args.chosen in let n = w.number in let v = view c.args.seat.now in let h = held c.args.seat.now in let y = d.chosen.0 in
    let put = d.held_after ∙ ap (λ z. updated n (some z) h) d.chosen.1 in let same = same_content n h (held c.exchange.new.seat) y c.unstow.result put c.unstow.ensures.buffer in (
      c.unstow.ensures.view ∙ (d.view_after ∙ ap (λ z. exchanged v w.cell (ready_word w.order n) empty z) (d.chosen.2 ∙ ap (λ z. g.L.PoolLaw.with_claimed (item w.order w.cell z) v.notes) same)),
      twice_updated n (some d.found) (some None) h (held c.exchange.new.seat) (held c.unstow.new.seat) d.held_after c.unstow.ensures.held,
    )

pub returns-in-Err-clause-others : goal.returns-in-Err-clause-others
returns-in-Err-clause-others g c = c.in-Err.ensures.met.2
