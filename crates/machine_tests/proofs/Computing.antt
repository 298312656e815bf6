-- What a row computes with: to unfold `computing` is to unfold each definition that its line names.
use Rattle.std.specs.Fmt.{digits}
use Rattle.lane_checksum.specs.PlainSum.{reduced, finish_of}
use Rattle.rpc_header.specs.Spelling.{spelling}
use Rattle.rpc_header.specs.Reading.{number_at, applies, read_of}
use Rattle.fragments.specs.Pieces.{piece, front}
use Rattle.binder.specs.Exports.{accepts, look_up, exported, export_fault, withdrawn}
use Rattle.binder.specs.Interfaces.{name_in, bind_data}
use Rattle.call_rules.specs.Worker.{on_idle, on_claimed, on_took, on_admitted, on_ran, on_fetched}
use Rattle.replay_model.specs.Arrival.{frame_of, arrives}
use Rattle.replay_model.specs.Lines.{bytes_text}
use Rattle.replay_model.specs.Step.{steps}
use Rattle.replay_model.specs.Process.{started, binds, heard, ticked}
use Rattle.replay_model.specs.Service.{text_of}
use Rattle.replay_model.specs.Transcript.{lines}

unfoldable pub computing : Unit {0}
unfolding digits reduced finish_of spelling number_at applies read_of frame_of arrives bytes_text started heard ticked on_idle on_claimed on_took on_admitted on_ran on_fetched piece front accepts look_up exported name_in bind_data export_fault withdrawn text_of binds lines steps
computing = tt
