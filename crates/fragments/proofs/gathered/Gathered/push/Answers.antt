use Rattle.std.proofs.Common.{◌≡◌, sym, ◌∙◌, arith}
use Rattle.fragments.proofs.Gathering.{gathers_more, gathers_whole, is_due}
use Rattle.fragments.proofs.gathered.Gathered.push.Goals as goal

pub returns-then-last-clause-gathers : goal.returns-then-last-clause-gathers
returns-then-last-clause-gathers c = λ t h same.
    let due : c.args.i ≡ c.args.self.now.next = is_due _ _ _ c.cmp.ensures c.in-Equal.is in
    gathers_more t c.args.self.now c.args.into.now _ c.args.piece.now _ c.args.i
    due c.copy_from_slice.ensures.after (omega arith) h same

pub returns-then-last-clause-text : goal.returns-then-last-clause-text
returns-then-last-clause-text c = λ t len h same last whole.
    let due : c.args.i ≡ c.args.self.now.next = is_due _ _ _ c.cmp.ensures c.in-Equal.is in
    gathers_whole t c.args.self.now c.args.into.now _ c.args.piece.now _ c.args.i len
    due c.copy_from_slice.ensures.after (omega arith) h same (sym c.if-last.true ∙ last) (cc)

pub returns-else-last-clause-gathers : goal.returns-else-last-clause-gathers
returns-else-last-clause-gathers c = λ t h same.
    let due : c.args.i ≡ c.args.self.now.next = is_due _ _ _ c.cmp.ensures c.in-Equal.is in
    gathers_more t c.args.self.now c.args.into.now _ c.args.piece.now _ c.args.i
    due c.copy_from_slice.ensures.after (omega arith) h same
