-- The headers stand one behind the other, and each checksum is that of what it covers.
use Rattle.std.proofs.Common.{refl}
use Rattle.udp_frames.proofs.Assembled.{assembled}
use Rattle.udp_frames.proofs.write.write_frame.Goals as goal

pub returns : goal.returns
returns c =
    assembled c.args.from.machine c.args.to.machine c.args.frame.now _ _ _ _ _ c.sum-internet_checksum.result _ c.udp_sum.result _ c.requires.room
    c.write_ethernet.ensures c.write_internet.ensures c.write_udp.ensures c.sum-internet_checksum.ensures refl c.write_number.ensures
    c.udp_sum.ensures c.finish-udp_checksum.ensures.value c.write_number-2.ensures
