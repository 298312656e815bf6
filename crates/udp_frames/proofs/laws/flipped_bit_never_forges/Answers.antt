use Rattle.udp_frames.proofs.Damaged as damaged
use Rattle.udp_frames.proofs.laws.flipped_bit_never_forges.Goals as goal

pub returns : goal.returns
returns c = λ from to bytes bit is_from is_to is_payload. damaged.flipped_bit_never_forges from to bytes bit is_from is_to is_payload
