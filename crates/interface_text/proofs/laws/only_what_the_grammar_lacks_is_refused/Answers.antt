use Rattle.interface_text.proofs.Ahead.{refused_next}
use Rattle.interface_text.proofs.laws.only_what_the_grammar_lacks_is_refused.Goals as goal

pub returns : goal.returns
returns c = refused_next
