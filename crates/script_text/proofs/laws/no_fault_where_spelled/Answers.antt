-- Lines without a fault spell events, and lines that spell events have no fault.
use Rattle.script_text.proofs.TextLaw.{script_in, spelled_text, no_fault_of_script}
use Rattle.script_text.proofs.laws.no_fault_where_spelled.Goals as goal

pub returns-clause-spelled : goal.returns-clause-spelled
returns-clause-spelled c = λ text e. (script_in text, spelled_text text e)

pub returns-clause-no_fault : goal.returns-clause-no_fault
returns-clause-no_fault c = no_fault_of_script
