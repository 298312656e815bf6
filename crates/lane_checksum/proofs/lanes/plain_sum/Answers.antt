-- Each word adds its share to the sum of those before it.
use Rattle.std.proofs.Common.{◌≡◌, ◌+◌, [], get_or, take, take_all, refl, ap, sym, ◌∙◌, arith}
use Rattle.lane_checksum.specs.PlainSum.{reduced, word_total}
use Rattle.lane_checksum.proofs.Chunks.{chunk_total, chunk_total-take, chunks_total, length-chunks_at, word_total-pair, word_total-some, word_total-none}
use Rattle.lane_checksum.proofs.Reduced.{reduced-zero, reduced-add_left}
use Rattle.lane_checksum.proofs.lanes.plain_sum.Goals as goal

pub loop-word-init : goal.loop-word-init
loop-word-init c = sym reduced-zero

pub loop-word-preserved : goal.loop-word-preserved
loop-word-preserved c =
    let cut = c.as_chunks.ensures in
    let words = c.as_chunks.result.0.now in
    let i = c.loop-word.word-index in
    let two = length-chunks_at 2 c.args.bytes.now words cut.front i (omega arith) in
    let so_far = chunk_total (take i words) in
    c.add-sum.ensures.total
    ∙ ap (λ s. reduced (s + c.from_be_bytes.result)) c.loop-word.invariant
    ∙ reduced-add_left so_far c.from_be_bytes.result
    ∙ ap (λ w. reduced (so_far + w)) (c.from_be_bytes.ensures ∙ sym (word_total-pair (get_or words i []) two))
    ∙ ap reduced (sym (chunk_total-take words i c.loop-word-test.true))

pub returns-in-Some : goal.returns-in-Some
returns-in-Some c =
    let cut = c.as_chunks.ensures in
    let words = c.as_chunks.result.0.now in
    let odd = c.as_chunks.result.1.now in
    let last = c.from_be_bytes-in-Some.result in
    let all_read = c.loop-word.invariant ∙ ap (λ ws. reduced (chunk_total ws)) (take_all c.loop-word.word-index words c.loop-word-test.false) in
    let high = word_total-some odd c.in-Some.high.now (omega (arith, cut.back_len)) c.in-Some.ensures.value in
    let added : last ≡ word_total odd = omega arith in
    c.add.ensures.total
    ∙ ap (λ s. reduced (s + last)) all_read
    ∙ reduced-add_left (chunk_total words) last
    ∙ ap (λ w. reduced (chunk_total words + w)) added
    ∙ ap reduced (sym (chunks_total 2 c.args.bytes.now words cut.front odd refl cut.back))

pub returns-in-None : goal.returns-in-None
returns-in-None c =
    let cut = c.as_chunks.ensures in
    let words = c.as_chunks.result.0.now in
    let odd = c.as_chunks.result.1.now in
    let all_read = c.loop-word.invariant ∙ ap (λ ws. reduced (chunk_total ws)) (take_all c.loop-word.word-index words c.loop-word-test.false) in
    let none = word_total-none odd (sym c.in-None.ensures.value) in
    let whole : chunk_total words ≡ word_total c.args.bytes.now = omega (arith, chunks_total 2 c.args.bytes.now words cut.front odd refl cut.back) in
    all_read ∙ ap reduced whole
