use Rattle.binder.specs.Exports.{booted}
use Rattle.binder.proofs.Changes.{rise}
use Rattle.binder.proofs.laws.identifiers_rise.Goals as goal

pub returns : goal.returns
returns c = λ boot changes. rise changes (booted boot)
