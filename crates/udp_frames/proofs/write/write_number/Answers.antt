use Rattle.std.proofs.Common.{arith}
use Rattle.udp_frames.proofs.WithPart.{number_part}
use Rattle.udp_frames.proofs.write.write_number.Goals as goal

pub returns : goal.returns
returns c =
    number_part c.args.place c.args.number c.args.frame.now c.write_u16.new.buf (omega arith) c.requires c.write_u16.ensures
