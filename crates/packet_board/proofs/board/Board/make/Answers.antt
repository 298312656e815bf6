use Rattle.std.proofs.Common.{◌≡◌, ℕ, refl, ap, subst, ◌∙◌}
use mathlib.Core.Option.{some}
use lib.ListN.{get_elem?}
use Rattle.packet_board.specs.Views.{opening_view}
use Rattle.packet_board.proofs.Openings.{opens_board, opening_length}
use Rattle.packet_board.proofs.board.Board.make.Goals as goal

pub new-requires : goal.new-requires
new-requires g c = opens_board g.L.BoardLaw.holds g.L.BoardLaw.fits g.L.BoardLaw.first g.L.BoardLaw.opens c.args.layout c.as_slice.result.now c.in_ok-slots.slots.items c.requires.fits c.requires.buffers
    (c.as_slice.ensures.value ∙ c.in_ok-numbers.ensures) c.in_ok-slots.ensures

pub invariant_of-result-clause-sized : goal.invariant_of-result-clause-sized
invariant_of-result-clause-sized g c = let e = c.in-Ok.ensures.ok in (
  e.0 ∙ opening_length c.args.layout c.as_slice.result.now (c.as_slice.ensures.value ∙ c.in_ok-numbers.ensures),
  e.1 ∙ c.in_ok-slots.ensures.0,
)

pub returns-in-Ok-clause-new : goal.returns-in-Ok-clause-new
returns-in-Ok-clause-new g c = λ ws out hs vs seen. let e = c.in-Ok.ensures.ok in let v = opening_view c.args.layout (g.L.BoardLaw.first c.args.layout) in
    seen.sound.untouched v (subst (λ (z : ℕ). get_elem? vs z ≡ some v) e.3 (seen.seat ∙ ap (λ m. some m.0) e.4)) refl refl
