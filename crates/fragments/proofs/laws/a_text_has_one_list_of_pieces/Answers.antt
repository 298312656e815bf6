use Rattle.fragments.proofs.Cuts.{count_cut, cut_pieces, each_piece, joined_is_cut, same_pieces}
use Rattle.fragments.proofs.laws.a_text_has_one_list_of_pieces.Goals as goal

pub returns-clause-pieces : goal.returns-clause-pieces
returns-clause-pieces c = cut_pieces

pub returns-clause-one_list : goal.returns-clause-one_list
returns-clause-one_list c = joined_is_cut

pub returns-clause-one_text : goal.returns-clause-one_text
returns-clause-one_text c = same_pieces

pub returns-clause-count : goal.returns-clause-count
returns-clause-count c = count_cut

pub returns-clause-each : goal.returns-clause-each
returns-clause-each c = each_piece
