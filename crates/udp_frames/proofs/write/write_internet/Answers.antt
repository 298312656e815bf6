-- The parts of the header are written one behind the other.
use Rattle.std.proofs.Common.{refl, arith}
use Rattle.udp_frames.specs.Frame.{internet_address}
use Rattle.udp_frames.proofs.WithPart.{byte_part, then_byte, then_part}
use Rattle.udp_frames.proofs.write.write_internet.Goals as goal

pub returns : goal.returns
returns c =
    let old = c.args.frame.now in
    let version = byte_part 14 0x45 old (omega arith) in
    let service = then_byte 14 15 0 _ old _ version refl (omega arith) in
    let total = then_part 14 16 _ _ _ old _ _ refl service c.write_number.ensures refl (omega arith) in
    let identification = then_part 14 18 _ _ _ old _ _ refl total c.write_number-2.ensures refl (omega arith) in
    let flags = then_part 14 20 _ _ _ old _ _ refl identification c.write_number-3.ensures refl (omega arith) in
    let live = then_byte 14 22 64 _ old _ flags refl (omega arith) in
    let protocol = then_byte 14 23 17 _ old _ live refl (omega arith) in
    let checksum = then_part 14 24 _ _ _ old _ _ refl protocol c.write_number-4.ensures refl (omega arith) in
    let source = then_part 14 26 _ _ (internet_address c.args.from.machine) old _ _ c.internet_address.ensures checksum c.write_part.ensures refl (omega arith) in
    then_part 14 30 _ _ (internet_address c.args.to.machine) old _ _ c.internet_address-2.ensures source c.write_part-2.ensures refl (omega arith)
