use Rattle.std.proofs.Common.{length}
use Rattle.interface_text.specs.Views.{forms_of}
use Rattle.interface_text.proofs.types.Types.+settle.Given as goal

abbrev pub decreases-settle : goal.decreases-settle
decreases-settle l = length (forms_of l.self.now.frames)
