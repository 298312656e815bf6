-- Each block adds its sum to that of the blocks before it.
use Rattle.std.proofs.Common.{◌+◌, ◌<◌, ◌/◌, length, [], get_or, take, take_all, refl, ap, sym, ◌∙◌, arith}
use Rattle.lane_checksum.specs.PlainSum.{reduced, word_total}
use Rattle.lane_checksum.proofs.Chunks.{chunk_total, chunk_total-take, chunks_total, length-chunks_at}
use Rattle.lane_checksum.proofs.Reduced.{reduced-zero, reduced-add_both}
use Rattle.lane_checksum.proofs.sum.Goals as goal

pub loop-block-init : goal.loop-block-init
loop-block-init c = sym reduced-zero

pub block_sum-requires : goal.block_sum-requires
block_sum-requires c =
    let cut = c.as_chunks.ensures in
    let within : c.loop-block.block-index < length c.args.bytes.now / 131072 = omega (arith, cut.front_len) in
    omega (arith, length-chunks_at 131072 c.args.bytes.now c.as_chunks.result.0.now cut.front c.loop-block.block-index within)

pub loop-block-preserved : goal.loop-block-preserved
loop-block-preserved c =
    let blocks = c.as_chunks.result.0.now in
    let i = c.loop-block.block-index in
    let so_far = chunk_total (take i blocks) in
    c.add-sum.ensures.total
    ∙ ap (λ s. reduced (s + c.block_sum.result)) c.loop-block.invariant
    ∙ ap (λ s. reduced (reduced so_far + s)) c.block_sum.ensures
    ∙ reduced-add_both so_far (word_total (get_or blocks i []))
    ∙ ap reduced (sym (chunk_total-take blocks i c.loop-block-test.true))

pub returns : goal.returns
returns c =
    let cut = c.as_chunks.ensures in
    let blocks = c.as_chunks.result.0.now in
    let rest = c.as_chunks.result.1.now in
    let all_read = c.loop-block.invariant ∙ ap (λ cs. reduced (chunk_total cs)) (take_all c.loop-block.block-index blocks c.loop-block-test.false) in
    c.add.ensures.total
    ∙ ap (λ s. reduced (s + c.block_sum-2.result)) all_read
    ∙ ap (λ s. reduced (reduced (chunk_total blocks) + s)) c.block_sum-2.ensures
    ∙ reduced-add_both (chunk_total blocks) (word_total rest)
    ∙ ap reduced (sym (chunks_total 131072 c.args.bytes.now blocks cut.front rest refl cut.back))
