use Rattle.std.proofs.Common.{◌-◌, ◌%◌, arith}
use Rattle.lane_checksum.specs.PlainSum.{word_total}
use Rattle.udp_frames.specs.Damage.{weight_of, flipped}
use Rattle.udp_frames.proofs.Flipping.{total_moves, power_divides_not, apart_remainders}
use Rattle.udp_frames.proofs.laws.flipped_bit_changes_the_sum.Goals as goal

pub returns : goal.returns
returns c = λ bytes bit within.
    let moves = total_moves bytes bit within in
    let weight = power_divides_not (15 - bit % 16) (omega arith) in
    record {
      moves = moves;
      weight = weight;
      sum = λ same. apart_remainders (weight_of bit) (word_total bytes) (word_total (flipped bytes bit)) moves weight
          (c.sum_laws.ensures.same (flipped bytes bit) bytes same);
    }
