use Rattle.std.proofs.Common.{ap, sym, ◌∙◌}
use Rattle.binder.specs.declared.interface.InterfaceName.{InterfaceName}
use Rattle.binder.specs.Interfaces.{is_same_name}
use Rattle.binder.proofs.Places.{own_name, same_name}
use Rattle.binder.proofs.laws.same_names_are_equal.Goals as goal

pub returns : goal.returns
returns c = λ a b. (same_name a b, λ e. ap (λ (n : InterfaceName). is_same_name a n) (sym e) ∙ own_name a)
