use Rattle.std.proofs.Common.{◌≡◌, ◌+◌, length, ap, ◌∙◌, refl, arith}
use Rattle.std.proofs.lemmas.List.{with_items_is}
use Rattle.fragments.specs.declared.gathered.Gathered.{Gathered}
use Rattle.replay_server.proofs.Adding.{head_added}
use Rattle.replay_server.proofs.texts.Gathering.begin.Goals as goal

pub invariant_of-result : goal.invariant_of-result
invariant_of-result c =
    let same = with_items_is c.in_ok-text.text c.push.new.into (omega (arith, c.push.auto.into, c.as_mut_slice.ensures.len)) in
    record {
      room = ap length same ∙ omega (arith, c.push.auto.into, c.as_mut_slice.ensures.len, c.in_ok-text.ensures.len);
      full = c.push.ensures.whole_pieces refl;
    }

pub returns : goal.returns
returns c =
    let same = with_items_is c.in_ok-text.text c.push.new.into (omega (arith, c.push.auto.into, c.as_mut_slice.ensures.len)) in
    let counted = c.push.ensures.counted refl in
    let count : c.push.new.self.len ≡ 0 + length c.args.piece.now = ap (λ (g : Gathered). g.len) counted in
    (head_added 0 c.push.new.self.len c.as_mut_slice.result.now _ c.args.piece.now (same ∙ c.push.ensures.added refl) count (omega arith), ap (λ (g : Gathered). g.next) counted)
