use Rattle.interface_text.proofs.Limited.{read_shallow}
use Rattle.interface_text.proofs.parsing.parse.Goals as goal

pub returns-in-Ok-clause-shallow : goal.returns-in-Ok-clause-shallow
returns-in-Ok-clause-shallow c = read_shallow c.args.text.now c.in-Ok.interface c.in-Ok.ensures
