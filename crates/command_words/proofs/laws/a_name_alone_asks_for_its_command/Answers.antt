use Rattle.command_words.proofs.Spelled.{replay_alone, stubs_alone}
use Rattle.command_words.proofs.laws.a_name_alone_asks_for_its_command.Goals as goal

pub returns-clause-replay : goal.returns-clause-replay
returns-clause-replay c = replay_alone

pub returns-clause-stubs : goal.returns-clause-stubs
returns-clause-stubs c = stubs_alone
