use Rattle.udp_frames.proofs.WithPart.{copied_part}
use Rattle.udp_frames.proofs.write.write_part.Goals as goal

pub returns : goal.returns
returns c = copied_part c.args.place c.args.part.now c.args.frame.now c.copy_from_slice.new.self c.copy_from_slice.ensures.after
