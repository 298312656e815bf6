use Rattle.std.proofs.Common.{refl, ap, ◌∙◌, Some}
use mathlib.Core.Option.{some, none}
use Rattle.packet_board.specs.Hands.{updated, nothing}
use Rattle.packet_board.specs.Holding.{updated_here, updated_back}
use Rattle.packet_board.specs.Seats.{view}
use Rattle.wire_tests.proofs.board.put.Goals as goal

pub exchange-requires-clause-law : goal.exchange-requires-clause-law
exchange-requires-clause-law c = λ ws out hs vs found meets. ((view c.args.seat.now).notes, refl, tt)

pub exchange-requires-clause-gives : goal.exchange-requires-clause-gives
exchange-requires-clause-gives c = let one = c.requires.one in (one.0, ap (λ h. h c.args.number) one.1 ∙ updated_here c.args.number (some (Some one.0)) nothing)

pub returns-in-Ok-clause-done : goal.returns-in-Ok-clause-done
returns-in-Ok-clause-done c = let one = c.requires.one in let n = c.args.number in c.in-Ok.ensures.done.held_after ∙ (ap (λ h. updated n none h) one.1 ∙ updated_back n (some (Some one.0)) nothing refl)

pub returns-in-Err-clause-met : goal.returns-in-Err-clause-met
returns-in-Err-clause-met c = (c.requires.one.0, c.in-Err.ensures.met.4 ∙ c.requires.one.1)
