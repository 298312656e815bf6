use Rattle.interface_text.proofs.Ending.{whole_is_read}
use Rattle.interface_text.proofs.laws.only_what_the_grammar_lacks_ends_early.Goals as goal

pub returns : goal.returns
returns c = whole_is_read
