use Rattle.udp_frames.proofs.Damaged as damaged
use Rattle.udp_frames.proofs.laws.written_is_read.Goals as goal

pub returns : goal.returns
returns c = λ from to bytes is_from is_to short. damaged.written_is_read from to bytes is_from is_to
