-- The laws, each by its lemma.
use Rattle.lane_checksum.specs.PlainSum.{word_total}
use Rattle.lane_checksum.proofs.Reduced.{reduced_bound, reduced-mod}
use Rattle.lane_checksum.proofs.Sums.{csum-append, csum-zeros, zeros_from_csum, word_total-same}
use Rattle.lane_checksum.proofs.laws.sum_laws.Goals as goal

pub returns : goal.returns
returns c = record {
  bound = λ text. reduced_bound (word_total text);
  zeros = csum-zeros;
  zero = zeros_from_csum;
  joins = csum-append;
  remainder = λ text. reduced-mod (word_total text);
  same = word_total-same;
}
