use Rattle.std.proofs.Common.{◌∙◌}
use Rattle.interface_tokens.proofs.Spelling.{among_those_from_its_first, not_empty}
use Rattle.interface_tokens.proofs.token.word_of.Goals as goal

pub returns-in-empty : goal.returns-in-empty
returns-in-empty c = not_empty c.args.bytes.now c.in-empty.len_below

pub returns-in-len1-up : goal.returns-in-len1-up
returns-in-len1-up c = c.word_from.ensures ∙ among_those_from_its_first c.args.bytes.now
