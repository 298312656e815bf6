use Rattle.std.proofs.Common.{refl, ap, ◌∙◌}
use lib.ListN.{get_elem?}
use Rattle.packet_board.specs.Words.{cell_count, first_word}
use Rattle.packet_board.specs.Opening.{first_at}
use Rattle.packet_pool.proofs.pool.Pool.make.Goals as goal

pub returns-clause-free : goal.returns-clause-free
returns-clause-free g c = λ cell room ws out hs vs seen. let k = c.args.layout in (first_word k cell, ap (λ z. get_elem? z cell) (c.in_ok-board.ensures.new ws out hs vs seen).first ∙ first_at k (cell_count k) cell room, refl)
