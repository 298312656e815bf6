use Rattle.std.proofs.Common.{refl, sym, ap, ◌∙◌, subst, Some, ◌≡◌, ◌<◌, Option}
use mathlib.Core.Option.{some, none}
use Rattle.packet_board.specs.declared.buffer.Buffer.{Buffer}
use Rattle.packet_board.specs.Words.{buffers_of, empty, full}
use Rattle.packet_board.specs.Hands.{flat}
use Rattle.packet_board.specs.Views.{exchanged}
use Rattle.packet_board.specs.Seats.{view, held}
use Rattle.packet_pool.proofs.Hands.{stowed_in, twice_updated, in_hands_of, free_is_empty}
use Rattle.packet_pool.proofs.pool.Pool.give_back.Goals as goal

pub exchange-requires-clause-gives : goal.exchange-requires-clause-gives
exchange-requires-clause-gives g c = stowed_in c.args.number (held c.args.seat.now) (held c.stow.new.seat) c.args.buffer c.stow.ensures.held

pub exchange-requires-clause-law : goal.exchange-requires-clause-law
exchange-requires-clause-law g c = λ ws out hs vs found meets. let n = c.args.number in let v = view c.stow.new.seat in let h = held c.stow.new.seat in let s = stowed_in n (held c.args.seat.now) h c.args.buffer c.stow.ensures.held in (
  v.notes,
  let given : (flat (h n)) ≡ Some s.0 = ap flat s.1 in
      subst (λ (z : Option Buffer × Option Buffer). g.L.BoardLaw.allows v n empty (full n) z.0 z.1 v.notes) (λ i. (sym given i, sym meets.sort i))
      (g.met.L.PoolLaw.gives v n s.0 (subst (λ l. n < buffers_of l) (sym c.requires.seat.1 ∙ ap (λ z. z.layout) (sym c.stow.ensures.view)) c.requires.buffer.0)
      (subst (λ z. g.L.PoolLaw.is_loose z.notes n) (sym c.stow.ensures.view) c.requires.loose)),
  refl,
)

pub exchange-requires-clause-tells : goal.exchange-requires-clause-tells
exchange-requires-clause-tells g c = let n = c.args.number in let seat = c.stow.new.seat in let s = stowed_in n (held c.args.seat.now) (held seat) c.args.buffer c.stow.ensures.held in
    free_is_empty g.L.BoardLaw.holds g.L.PoolLaw.may_post g.met.L.PoolLaw.cells _ _ _ n c.requires.buffer.0 (in_hands_of (view seat) seat.token.me.1 n (Some s.0) seat.ready s.1)

pub unreachable-requires : goal.unreachable-requires
unreachable-requires g c = c.in-Err.ensures.met.2

pub returns-clause-given : goal.returns-clause-given
returns-clause-given g c = let d = c.in-Ok.ensures.done in let n = c.args.number in let same = c.stow.ensures.view in d.view_after ∙ (λ i. exchanged (same i) n empty (full n) ((d.chosen ∙ ap (λ z. z.notes) same) i))

pub returns-clause-held : goal.returns-clause-held
returns-clause-held g c = let d = c.in-Ok.ensures.done in twice_updated c.args.number (some (Some c.args.buffer)) none (held c.args.seat.now) (held c.stow.new.seat) (held c.exchange.new.seat) c.stow.ensures.held d.held_after
