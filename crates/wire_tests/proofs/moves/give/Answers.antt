use Rattle.std.proofs.Common.{refl, ap, ◌∙◌, None}
use mathlib.Core.Option.{some, none}
use Rattle.packet_board.specs.Hands.{updated, nothing}
use Rattle.packet_board.specs.Holding.{updated_here, updated_back}
use Rattle.packet_pool.specs.Packets.{number_of}
use Rattle.wire_tests.proofs.moves.give.Goals as goal

pub give-requires-clause-packet : goal.give-requires-clause-packet
give-requires-clause-packet c = let p = c.requires.packet in let n = number_of c.args.packet in (ap (λ h. h n) p.0 ∙ updated_here n (some None) nothing, p.1)

pub returns-clause-empty : goal.returns-clause-empty
returns-clause-empty c = let n = number_of c.args.packet in c.give.ensures.held ∙ (ap (λ h. updated n none h) c.requires.packet.0 ∙ updated_back n (some None) nothing refl)
