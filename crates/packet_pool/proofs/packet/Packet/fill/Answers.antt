use Rattle.std.proofs.Common.{arith, ap, ◌∙◌, ◌+◌, ◌++◌, ℕ, List, length, take, drop}
use Rattle.packet_pool.specs.Contents.{payload_of}
use Rattle.packet_pool.proofs.Bytes.{whole_items, part_read}
use Rattle.packet_pool.proofs.packet.Packet.fill.Goals as goal

pub returns-clause-content : goal.returns-clause-content
returns-clause-content c = let p = c.args.self.now in let old : List ℕ = c.as_mut_slice.result.now in let w : List ℕ = c.write_part.new.bytes in let v = c.as_mut_slice.ensures.value in let f = c.front-front.ensures.front in
    let long = c.as_mut_slice.ensures.len in let kept = c.write_part.auto.bytes in
    let whole = whole_items p.bytes.len w p.bytes.items (omega (arith, long, kept)) ∙ (c.write_part.ensures ∙ (λ i. take 74 (v i) ++ f i ++ drop (74 + length (f i)) (v i))) in
    λ i. record { bytes = whole i; header = p.header; from = p.from; len = (ap length f) i; gathered = p.gathered; signal = p.signal }

pub returns-clause-data : goal.returns-clause-data
returns-clause-data c = let p = c.args.self.now in let front : List ℕ = take 1440 c.args.piece.now in let within = p.within.0 in let ok = p.bytes.ok.0 in
    ap payload_of (returns-clause-content c) ∙ part_read 74 p.bytes.items front (drop (74 + length front) p.bytes.items) (omega (arith, within, ok))
