use Rattle.std.proofs.Common.{◌≡◌, ◌++◌, ◌∷◌, [], length, get_or, drop, refl, sym, arith, length-append}
use Rattle.std.proofs.lemmas.List.{take_rest}
use Rattle.udp_frames.specs.Reading.{part}
use Rattle.udp_frames.proofs.Parts.{pseudo_header-parts, length-addresses}
use Rattle.udp_frames.proofs.read.udp_sum.Goals as goal

pub returns : goal.returns
returns c =
    let frame = c.args.frame.now in
    let len = length-addresses frame c.requires in
    let front = part 26 8 frame in
    let middle = 0 ∷ 17 ∷ get_or frame 38 0 ∷ get_or frame 39 0 ∷ [] in
    let first = c.add.ensures.joins front middle (rw len refl) (sym c.sum-addresses.ensures) (sym c.sum-protocol_and_length.ensures) in
    let front_len : length (front ++ middle) ≡ 12 = omega (arith, length-append front middle, len) in
    rw (pseudo_header-parts frame c.requires)
    (c.add-2.ensures.joins (front ++ middle) (drop 34 frame) (rw front_len refl) (sym first) (sym (rw (take_rest frame 34) at c.sum-datagram.ensures)))
