use Rattle.std.proofs.Common.{refl, sym, ap, ◌∙◌, subst, None, ◌<◌, Option}
use mathlib.Core.Option.{some}
use Rattle.packet_board.specs.declared.buffer.Buffer.{Buffer}
use Rattle.packet_board.specs.Words.{buffers_of, empty, full}
use Rattle.packet_board.specs.Views.{exchanged, looked}
use Rattle.packet_board.specs.Seats.{view, held}
use Rattle.packet_pool.specs.Laws.{after_take}
use Rattle.packet_pool.proofs.Hands.{found_stowed, twice_updated, met_empty}
use Rattle.packet_pool.proofs.pool.Pool.try_take.Goals as goal

pub exchange-requires-clause-law : goal.exchange-requires-clause-law
exchange-requires-clause-law g c = λ ws out hs vs found meets. let n = c.args.number in let v = view c.args.seat.now in let notes = after_take g.L.PoolLaw.with_taken v.layout n v.notes in
    (notes, subst (λ (z : Option Buffer). g.L.BoardLaw.allows v n (full n) empty None z notes) (sym meets.sort.1) (g.met.L.PoolLaw.takes v n meets.sort.0 (subst (λ l. n < buffers_of l) (sym c.requires.seat.1) c.requires.room)), refl)

pub exchange-requires-clause-tells : goal.exchange-requires-clause-tells
exchange-requires-clause-tells g c = met_empty g.L.BoardLaw.holds g.L.PoolLaw.may_post g.met.L.PoolLaw.cells _ _ _ c.args.number c.requires.room

pub unstow-buffer-requires-clause-stowed : goal.unstow-buffer-requires-clause-stowed
unstow-buffer-requires-clause-stowed g c = let d = c.in-Ok.ensures.done in found_stowed c.args.number (held c.args.seat.now) (held c.exchange.new.seat) d.found d.sort.0 d.held_after d.sort.1

pub returns-in-Ok-clause-taken : goal.returns-in-Ok-clause-taken
returns-in-Ok-clause-taken g c = let d = c.in-Ok.ensures.done in let n = c.args.number in c.unstow-buffer.ensures.view ∙ (d.view_after ∙ ap (λ z. exchanged (view c.args.seat.now) n (full n) empty z) d.chosen)

pub returns-in-Ok-clause-held : goal.returns-in-Ok-clause-held
returns-in-Ok-clause-held g c = let d = c.in-Ok.ensures.done in twice_updated c.args.number (some d.found) (some None) (held c.args.seat.now) (held c.exchange.new.seat) (held c.unstow-buffer.new.seat) d.held_after c.unstow-buffer.ensures.held

pub returns-in-Err-clause-taken : goal.returns-in-Err-clause-taken
returns-in-Err-clause-taken g c = let m = c.in-Err.ensures.met in m.3 ∙ ap (λ z. looked (view c.args.seat.now) c.args.number z) m.2
