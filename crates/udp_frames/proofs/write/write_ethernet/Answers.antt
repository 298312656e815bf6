-- The parts of the header are written one behind the other.
use Rattle.std.proofs.Common.{refl, arith}
use Rattle.udp_frames.specs.Frame.{ethernet_address}
use Rattle.udp_frames.proofs.WithPart.{first_part, then_part}
use Rattle.udp_frames.proofs.write.write_ethernet.Goals as goal

pub returns : goal.returns
returns c =
    let old = c.args.frame.now in
    let destination = first_part 0 _ (ethernet_address c.args.to.machine) old _ c.ethernet_address.ensures c.write_part.ensures in
    let source = then_part 0 6 _ _ (ethernet_address c.args.from.machine) old _ _ c.ethernet_address-2.ensures destination c.write_part-2.ensures refl (omega arith) in
    then_part 0 12 _ _ _ old _ _ refl source c.write_number.ensures refl (omega arith)
