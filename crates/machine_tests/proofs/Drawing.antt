-- What a round computes with: to unfold `drawing` is to unfold each definition that its line names.
use Rattle.rpc_header.specs.Spelling.{spelling}
use Rattle.fragments.specs.Pieces.{piece}
use Rattle.replay_model.specs.Arrival.{frame_of}
use Rattle.replay_model.specs.Process.{started}
use Rattle.replay_model.specs.Step.{call_by, call_event, does, step}
use Rattle.replay_model.specs.Draws.{draw}
use Rattle.replay_model.specs.Rounds.{asks, starts_round, deliver_round, work_round, tick_round, damage_round, restart_round, round_of, round}

unfoldable pub drawing : Unit {0}
unfolding spelling piece frame_of started call_by call_event does step draw asks starts_round deliver_round work_round tick_round damage_round restart_round round_of round
drawing = tt
