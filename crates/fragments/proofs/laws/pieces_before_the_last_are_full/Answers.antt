use Rattle.std.proofs.Common.{length, arith}
use Rattle.fragments.specs.Pieces.{last_piece}
use Rattle.fragments.proofs.Fronts.{piece-behind, piece-bytes, piece-empty, piece-fits, piece-full}
use Rattle.fragments.proofs.laws.pieces_before_the_last_are_full.Goals as goal

pub returns-clause-full : goal.returns-clause-full
returns-clause-full c = piece-full

pub returns-clause-fits : goal.returns-clause-fits
returns-clause-fits c = piece-fits

pub returns-clause-empty : goal.returns-clause-empty
returns-clause-empty c = λ text. piece-empty text (last_piece (length text)) (omega arith)

pub returns-clause-behind : goal.returns-clause-behind
returns-clause-behind c = piece-behind

pub returns-clause-bytes : goal.returns-clause-bytes
returns-clause-bytes c = piece-bytes
