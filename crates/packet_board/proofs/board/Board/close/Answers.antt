use Rattle.std.proofs.Common.{◌∙◌}
use Rattle.packet_board.proofs.board.Board.close.Goals as goal

pub emptied-requires-clause-empty : goal.emptied-requires-clause-empty
emptied-requires-clause-empty g c = c.alone.ensures.held ∙ c.requires.empty
