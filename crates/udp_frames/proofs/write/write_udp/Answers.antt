-- The parts of the header are written one behind the other.
use Rattle.std.proofs.Common.{refl, arith}
use Rattle.udp_frames.proofs.WithPart.{then_part}
use Rattle.udp_frames.proofs.write.write_udp.Goals as goal

pub returns : goal.returns
returns c =
    let old = c.args.frame.now in
    let source = c.write_number.ensures in
    let destination = then_part 34 36 _ _ _ old _ _ refl source c.write_number-2.ensures refl (omega arith) in
    let len = then_part 34 38 _ _ _ old _ _ refl destination c.write_number-3.ensures refl (omega arith) in
    then_part 34 40 _ _ _ old _ _ refl len c.write_number-4.ensures refl (omega arith)
