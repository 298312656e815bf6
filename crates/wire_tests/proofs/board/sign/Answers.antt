use Rattle.std.proofs.Common.{ap, ◌∙◌, None, Some, true}
use mathlib.Core.Option.{some}
use Rattle.packet_board.specs.Hands.{updated, nothing}
use Rattle.packet_board.specs.Holding.{updated_here, updated_twice}
use Rattle.packet_board.specs.Seats.{held}
use Rattle.wire_tests.proofs.board.sign.Goals as goal

pub unstow-buffer-requires-clause-stowed : goal.unstow-buffer-requires-clause-stowed
unstow-buffer-requires-clause-stowed c = let one = c.requires.one in (one.0, ap (λ h. h c.args.number) one.1 ∙ updated_here c.args.number (some (Some one.0)) nothing)

pub stow-requires-clause-unstowed : goal.stow-requires-clause-unstowed
stow-requires-clause-unstowed c = ap (λ h. h c.args.number) c.unstow-buffer.ensures.held ∙ updated_here c.args.number (some None) (held c.args.seat.now)

pub returns-clause-one : goal.returns-clause-one
returns-clause-one c = let n = c.args.number in let one = c.requires.one in let was = some (Some one.0) in let out = some None in let now = some (Some (record c.unstow-buffer.result { from = c.args.from; signal = true })) in let twice = updated_twice in (
  record c.unstow-buffer.result { from = c.args.from; signal = true },
  c.stow.ensures.held ∙ (ap (λ h. updated n now h) (c.unstow-buffer.ensures.held ∙ ap (λ h. updated n out h) one.1) ∙ (ap (λ h. updated n now h) (twice n out was nothing) ∙ twice n now out nothing)),
)
