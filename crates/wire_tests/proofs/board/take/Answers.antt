use Rattle.std.proofs.Common.{refl, ◌∙◌}
use mathlib.Core.Option.{some}
use Rattle.packet_board.specs.Hands.{updated}
use Rattle.packet_board.specs.Seats.{view}
use Rattle.wire_tests.proofs.board.take.Goals as goal

pub exchange-requires-clause-law : goal.exchange-requires-clause-law
exchange-requires-clause-law c = λ ws out hs vs found meets. ((view c.args.seat.now).notes, refl, tt)

pub returns-in-Ok-clause-done : goal.returns-in-Ok-clause-done
returns-in-Ok-clause-done c = let d = c.in-Ok.ensures.done in (d.sort.0, d.held_after ∙ (λ i. updated c.args.number (some (d.sort.1 i)) (c.requires.empty i)))
