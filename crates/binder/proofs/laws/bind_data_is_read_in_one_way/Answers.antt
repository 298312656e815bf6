use Rattle.std.proofs.Common.{arith}
use Rattle.std.proofs.lemmas.List.{length-append}
use Rattle.std.proofs.lemmas.Bool.{and_parts}
use Rattle.binder.specs.Interfaces.{bind_data, counted}
use Rattle.binder.specs.Names.{is_name}
use Rattle.binder.proofs.Data.{data_of_name, name_in_data}
use Rattle.binder.proofs.Padding.{name_fits}
use Rattle.binder.proofs.laws.bind_data_is_read_in_one_way.Goals as goal

pub returns-clause-read_back : goal.returns-clause-read_back
returns-clause-read_back c = name_in_data

pub returns-clause-one_form : goal.returns-clause-one_form
returns-clause-one_form c = data_of_name

pub returns-clause-size : goal.returns-clause-size
unfolding bind_data
returns-clause-size c = λ name h.
    let parts = and_parts (is_name name.kind) (is_name name.instance) h in
    omega (arith, name_fits name.kind parts.0, name_fits name.instance parts.1, length-append name.kind (counted name.instance))
