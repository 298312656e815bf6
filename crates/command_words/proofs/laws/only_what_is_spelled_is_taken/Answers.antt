use Rattle.command_words.proofs.Asked.{in_range, replay_spelled, storm_spelled, stubs_spelled, taken_ask}
use Rattle.command_words.proofs.laws.only_what_is_spelled_is_taken.Goals as goal

pub returns-clause-asks : goal.returns-clause-asks
returns-clause-asks c = taken_ask

pub returns-clause-replay : goal.returns-clause-replay
returns-clause-replay c = replay_spelled

pub returns-clause-stubs : goal.returns-clause-stubs
returns-clause-stubs c = stubs_spelled

pub returns-clause-storm : goal.returns-clause-storm
returns-clause-storm c = storm_spelled

pub returns-clause-range : goal.returns-clause-range
returns-clause-range c = in_range
