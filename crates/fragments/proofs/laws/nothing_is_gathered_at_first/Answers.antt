use Rattle.std.proofs.Common.{sym}
use Rattle.fragments.proofs.Fronts.{front-zero}
use Rattle.fragments.proofs.laws.nothing_is_gathered_at_first.Goals as goal

pub returns : goal.returns
returns c = λ text buffer. record { bytes = sym (front-zero text) }
