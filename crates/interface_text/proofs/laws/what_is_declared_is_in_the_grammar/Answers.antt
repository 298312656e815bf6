use Rattle.interface_text.proofs.Taking.{declared_derives}
use Rattle.interface_text.proofs.laws.what_is_declared_is_in_the_grammar.Goals as goal

pub returns : goal.returns
returns c = declared_derives
