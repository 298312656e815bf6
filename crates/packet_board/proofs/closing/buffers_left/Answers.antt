use Rattle.std.proofs.Common.{arith, sym, ap, subst, ◌∙◌, ◌<◌, ◌≡◌, ℕ, false, Some, map, set, get_or, List, Bool}
use mathlib.Core.Option.{some}
use mathlib.Core.Logic.{dite}
use native.Mathlib.Decide.{ℕ_discrete}
use lib.ListN.{get_elem?}
use Rattle.std.specs.Slots.{slots_items, slots_filled}
use Rattle.packet_board.proofs.Closings.{more_buffers, filled_other, filled_here}
use Rattle.packet_board.proofs.closing.buffers_left.Goals as goal

pub loop-number-preserved : goal.loop-number-preserved
loop-number-preserved c = let xs = slots_items c.args.left.now.slots in let i : ℕ = c.loop-number.number in let inv = c.loop-number.invariant in let push = c.push_reserved.ensures in let took = c.take.ensures.others in let fs : List Bool = slots_filled c.loop-number.left.slots in
    let at : get_elem? xs i ≡ some (Some c.unwrap.result) = sym (ap (λ z. get_elem? z i) inv.items) ∙ (c.take.ensures.value ∙ ap some c.unwrap.ensures) in record {
      read = ap (λ z. map Some z) push.items ∙ more_buffers c.loop-number.buffers.items xs i c.unwrap.result inv.read at;
      items = took.0 ∙ inv.items;
      places = took.2 ∙ inv.places;
      full = λ k low high. ap (λ (z : List Bool). get_or z k false) took.1 ∙ (filled_other fs i k (λ e. omega arith) ∙ inv.full k (omega (arith, low)) (subst (λ (z : ℕ). k < z) took.2 high));
      taken = λ k low. ap (λ (z : List Bool). get_or z k false) took.1 ∙ dite (ℕ_discrete k i) (λ e. ap (λ (z : ℕ). get_or (set fs i false) z false) e ∙ filled_here fs i) (λ ne. filled_other fs i k ne ∙ inv.taken k (omega (arith, low, ne)));
      len = let l = inv.len in let p = push.len in omega (arith, l, p);
      room = push.capacity ∙ inv.room;
    }
