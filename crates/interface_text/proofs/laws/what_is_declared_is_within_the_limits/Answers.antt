use Rattle.interface_text.proofs.Limited.{declared_within}
use Rattle.interface_text.proofs.laws.what_is_declared_is_within_the_limits.Goals as goal

pub returns : goal.returns
returns c = declared_within
