use Rattle.std.proofs.Common.{length, arith}
use Rattle.fragments.specs.Pieces.{last_piece}
use Rattle.fragments.proofs.Cuts.{join_take}
use Rattle.fragments.proofs.Fronts.{front-all, front-more, front-zero, length-front}
use Rattle.fragments.proofs.laws.fronts_grow_by_a_piece.Goals as goal

pub returns-clause-none : goal.returns-clause-none
returns-clause-none c = front-zero

pub returns-clause-more : goal.returns-clause-more
returns-clause-more c = front-more

pub returns-clause-all : goal.returns-clause-all
returns-clause-all c = λ text. front-all text (last_piece (length text)) (omega arith)

pub returns-clause-joined : goal.returns-clause-joined
returns-clause-joined c = join_take

pub returns-clause-bytes : goal.returns-clause-bytes
returns-clause-bytes c = length-front
