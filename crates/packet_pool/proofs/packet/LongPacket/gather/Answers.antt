use Rattle.std.proofs.Common.{arith, sym, ap, ◌∙◌, ◌≡◌, ℕ, List, take, subst}
use Rattle.fragments.specs.Gathering.{Gathers}
use Rattle.packet_pool.proofs.Bytes.{whole_items}
use Rattle.packet_pool.proofs.packet.LongPacket.gather.Goals as goal

pub returns-in-More-clause-text : goal.returns-in-More-clause-text
returns-in-More-clause-text c = λ t len gathers piece last is. let p = c.args.self.now in let w : List ℕ = c.push-pushed.new.into in let v = c.as_mut_slice.ensures.value in let long = c.as_mut_slice.ensures.len in let kept = c.push-pushed.auto.into in
    let whole = whole_items p.bytes.len w p.bytes.items (omega (arith, long, kept)) in let facts = (c.push-pushed.ensures.whole len).0 is in let counted : c.push-pushed.new.self.len ≡ len = ap (λ z. z.len) (c.push-pushed.ensures.counted facts.0) ∙ sym facts.2 in
    (λ i. take (counted i) (whole i)) ∙ c.push-pushed.ensures.text t len (subst (λ (z : List ℕ). Gathers t p.gathered z) (sym v) gathers) piece last is
