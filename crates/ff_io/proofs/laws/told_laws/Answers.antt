use Rattle.ff_io.proofs.ToldLemmas.{Gave-none, Gave-append, Appended-none, Appended-append}
use Rattle.ff_io.proofs.laws.told_laws.Goals as goal

pub returns : goal.returns
returns c = record {
  nothing_given = Gave-none;
  given_in_turn = Gave-append;
  nothing_appended = Appended-none;
  appended_in_turn = Appended-append;
}
