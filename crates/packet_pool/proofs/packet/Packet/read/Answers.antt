use Rattle.std.proofs.Common.{arith, sym, ap, ◌∙◌, ◌≡◌, ℕ, List, length, take, drop, Ok}
use Rattle.packet_pool.specs.Contents.{reads_packet}
use Rattle.packet_pool.proofs.Bytes.{data_in}
use Rattle.packet_pool.proofs.packet.Packet.read.Goals as goal

pub returns-clause-read : goal.returns-clause-read
returns-clause-read c = let p = c.args.self.now in let B : List ℕ = p.bytes.items in let n : ℕ = c.args.n in let came = c.in_ok-came.came in let len : ℕ = came.len in let me : ℕ = c.args.me.machine in
    let f = c.front.ensures.front ∙ ap (λ (z : List ℕ). take n z) c.as_slice.ensures.value in let l = c.in_ok-came.ensures.len in let a : length c.front.result.now ≡ length (take n B) = ap length f in let within = p.within.0 in let ok = p.bytes.ok.0 in let few = c.requires in
    ap (λ (z : List ℕ). reads_packet z me) (sym f) ∙ (c.in_ok-came.ensures.read ∙ ap (λ (z : List ℕ). Ok (record { sender = came.from.machine; header = came.header; payload = z })) (ap (λ (z : List ℕ). drop 74 z) f ∙ sym (data_in n len B (omega (arith, l, a)) (omega (arith, within, ok, few)))))
