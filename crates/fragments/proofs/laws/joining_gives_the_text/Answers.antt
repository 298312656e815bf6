use Rattle.fragments.proofs.Cuts.{join_cut}
use Rattle.fragments.proofs.laws.joining_gives_the_text.Goals as goal

pub returns : goal.returns
returns c = join_cut
