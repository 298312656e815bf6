use Rattle.command_words.proofs.Spelled.{storm_read}
use Rattle.command_words.proofs.laws.each_spelling_of_a_storm_is_read.Goals as goal

pub returns : goal.returns
returns c = storm_read
