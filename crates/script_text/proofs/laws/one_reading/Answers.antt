-- The events of a text are those of its lines, which have one each.
use Rattle.script_text.proofs.TextLaw.{one_script}
use Rattle.script_text.proofs.laws.one_reading.Goals as goal

pub returns : goal.returns
returns c = one_script
