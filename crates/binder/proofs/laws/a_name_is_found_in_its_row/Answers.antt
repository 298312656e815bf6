use Rattle.binder.proofs.LookingUp.{found_in_row, not_in_rows}
use Rattle.binder.proofs.laws.a_name_is_found_in_its_row.Goals as goal

pub returns-clause-found : goal.returns-clause-found
returns-clause-found c = found_in_row

pub returns-clause-none : goal.returns-clause-none
returns-clause-none c = not_in_rows
