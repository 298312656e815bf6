use Rattle.std.proofs.Common.{arith, ap, sym, ◌≡◌, ◌∙◌, ◌+◌, ◌-◌, ◌≤◌, Some, length, take, drop}
use Rattle.ff_io.proofs.ToldLemmas.{drop-copied}
use Rattle.ff_io.proofs.memory_source.MemorySourceSource.read.Goals as goal

pub returns-clause-given : goal.returns-clause-given
returns-clause-given c =
    let bytes = c.self.inside.bytes.items in
    let at = c.self.inside.at in
    let n = c.min-n.result in
    let front = c.copy_from_slice.new.self in
    let fits : at + n ≤ length bytes = omega (arith, c.min-n.ensures, c.len.ensures, c.self.invariant) in
    let amount : (at + n) - at ≡ n = omega arith in
    let copied : front ≡ take n (drop at bytes) =
    c.copy_from_slice.ensures.after ∙ ap (λ k. take k (drop at c.deref.result.now)) amount ∙ ap (λ all. take n (drop at all)) c.deref.ensures.value in
    ap Some (sym (ap (λ source. source.left) c.self.view_is) ∙ drop-copied bytes front _ at n fits copied)
