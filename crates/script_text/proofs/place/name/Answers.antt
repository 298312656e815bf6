use Rattle.script_text.proofs.Names.{named, unnamed}
use Rattle.script_text.proofs.place.name.Goals as goal

pub returns-in-Some-clause-reads : goal.returns-in-Some-clause-reads
returns-in-Some-clause-reads c = named c.args.word.now c.in-Some.name c.in-Some.ensures

pub returns-in-None-clause-reads : goal.returns-in-None-clause-reads
returns-in-None-clause-reads c = unnamed c.args.word.now c.in-None.ensures
