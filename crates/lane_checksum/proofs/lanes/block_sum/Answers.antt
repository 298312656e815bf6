-- The lanes hold the chunks that were read, and the plain loop reads what is left.
use Rattle.std.proofs.Common.{◌≡◌, length, ◌+◌, ◌*◌, ◌<◌, ◌/◌, [], get_or, take, take_all, w64, zero-add, refl, ap, sym, ◌∙◌, arith}
use Rattle.std.proofs.lemmas.Simd.{adds_fit, sum_fits, fold-sum}
use Rattle.std.specs.Simd.Lanes.{sum_l, number_l}
use Rattle.lane_checksum.specs.PlainSum.{reduced, word_total}
use Rattle.lane_checksum.proofs.Chunks.{chunk_total, chunk_total-take, chunks_total, chunks_at_fit, length-chunks_at}
use Rattle.lane_checksum.proofs.LaneSums.{lanes_of, digits_bound, reduced_step, sum-lanes_of, reduced-swapped}
use Rattle.lane_checksum.proofs.Reduced.{reduced-add_both, reduced-mul_256}
use Rattle.lane_checksum.proofs.lanes.block_sum.Goals as goal

pub overflow_add-lanes : goal.overflow_add-lanes
overflow_add-lanes c =
    let chunk = get_or c.as_chunks.result.0.now c.loop-step.step-index [] in
    adds_fit w64 c.loop-step.lanes (lanes_of chunk) (omega (arith, digits_bound 8 (number_l 256 chunk), c.as_chunks.ensures.front_len))

pub loop-step-preserved : goal.loop-step-preserved
loop-step-preserved c =
    let cut = c.as_chunks.ensures in
    let bytes = c.args.bytes.now in
    let steps = c.as_chunks.result.0.now in
    let i = c.loop-step.step-index in
    let lanes = c.loop-step.lanes in
    let chunk = get_or steps i [] in
    let within : i < length bytes / 32 = omega arith in
    let long = length-chunks_at 32 bytes steps cut.front i within in
    let fits = chunks_at_fit 32 bytes steps cut.front i within c.type_inv.bytes in
    record {
      so_far =
          reduced_step lanes chunk (chunk_total (take i steps)) c.loop-step.invariant.eight long fits c.loop-step.invariant.so_far
          ∙ ap reduced (sym (chunk_total-take steps i c.loop-step-test.true));
      eight = omega arith;
      small = omega (arith, sum-lanes_of lanes chunk c.loop-step.invariant.eight, digits_bound 8 (number_l 256 chunk));
    }

pub overflow_add-lanes-2 : goal.overflow_add-lanes-2
overflow_add-lanes-2 c = sum_fits w64 0 c.loop-step.lanes (omega (arith, c.as_chunks.ensures.front_len))

pub returns : goal.returns
returns c =
    let cut = c.as_chunks.ensures in
    let steps = c.as_chunks.result.0.now in
    let rest = c.as_chunks.result.1.now in
    let lanes = c.loop-step.lanes in
    let whole = chunks_total 32 c.args.bytes.now steps cut.front rest refl cut.back in
    let front : c.swap_bytes-front.result ≡ reduced (chunk_total steps) =
    c.swap_bytes-front.ensures
    ∙ sym (reduced-swapped c.fold.result c.fold.type_inv)
    ∙ ap (λ s. reduced (256 * s)) (c.fold.ensures ∙ ap reduced (fold-sum 0 lanes ∙ zero-add (sum_l lanes)))
    ∙ reduced-mul_256 (sum_l lanes)
    ∙ c.loop-step.invariant.so_far
    ∙ ap (λ cs. reduced (chunk_total cs)) (take_all c.loop-step.step-index steps c.loop-step-test.false) in
    c.add.ensures.total
    ∙ ap (λ s. reduced (s + c.plain_sum.result)) front
    ∙ ap (λ s. reduced (reduced (chunk_total steps) + s)) c.plain_sum.ensures
    ∙ reduced-add_both (chunk_total steps) (word_total rest)
    ∙ ap reduced (sym whole)
