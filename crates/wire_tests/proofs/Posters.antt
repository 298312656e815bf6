-- What the calls of a pool leave of a poster under the plain law.
use Rattle.std.proofs.Common.{◌≡◌, ℕ, ◌+◌, nat_lt, List, [], ◌∷◌, refl, sym, ap, ◌∙◌, subst, arith}
use Rattle.packet_board.specs.declared.word.Word.{Word}
use Rattle.packet_board.specs.declared.layout.Layout.{Layout}
use Rattle.packet_board.specs.declared.buffer.Buffer.{Buffer}
use Rattle.packet_board.specs.Words.{empty, full}
use Rattle.packet_board.specs.Views.{exchanged}
use Rattle.packet_pool.specs.declared.item.Item.{Item}
use Rattle.packet_pool.specs.declared.plain.PlainNotes.{PlainNotes}
use Rattle.packet_pool.specs.Cells.{AllBefore}
use Rattle.packet_pool.specs.Packets.{OnlyLooked, Takes}
use Rattle.packet_pool.specs.Waiting.{Posts, Claims, Loses}
use Rattle.packet_pool.specs.Plain.{PlainView, plain_with_taken, plain_with_posted, plain_with_claimed, every_packet}
use Rattle.packet_pool.specs.PlainExchanges.{kept_take}
use Rattle.wire_tests.specs.Moves.{SamePoster, PostsBelow}

pub looked_poster : (v w : PlainView) → OnlyLooked v w → SamePoster v w
looked_poster v w o = (ap (λ (z : PlainNotes). z.right) o.notes, ap (λ (z : PlainNotes). z.posted) o.notes, o.begun, o.ended)

-- a view whose notes have the right and the posted items of another, and its splits and joins
as_notes : (v w : PlainView) (notes : PlainNotes) → w.notes ≡ notes → notes.right ≡ v.notes.right → notes.posted ≡ v.notes.posted → w.begun ≡ v.begun → w.ended ≡ v.ended → SamePoster v w
as_notes v w notes e right posted begun ended = (ap (λ (z : PlainNotes). z.right) e ∙ right, ap (λ (z : PlainNotes). z.posted) e ∙ posted, begun, ended)

pub took_poster : (first n : ℕ) (v w : PlainView) → Takes plain_with_taken first n v w → SamePoster v w
took_poster first n v w t = let kept = kept_take (nat_lt n v.layout.small) n v.notes in
    as_notes v w _ (ap (λ (z : PlainView). z.notes) t.after) kept.0 kept.1 (ap (λ (z : PlainView). z.begun) t.after ∙ t.looked.begun) (ap (λ (z : PlainView). z.ended) t.after ∙ t.looked.ended)

pub gave_poster : (n : ℕ) (v w : PlainView) → w ≡ exchanged v n empty (full n) v.notes → SamePoster v w
gave_poster n v w e = (ap (λ (z : PlainView). z.notes.right) e, ap (λ (z : PlainView). z.notes.posted) e, ap (λ (z : PlainView). z.begun) e, ap (λ (z : PlainView). z.ended) e)

pub claimed_poster : (k : Layout) (n : ℕ) (y : Buffer) (v w : PlainView) → Claims plain_with_claimed every_packet k n y v w → SamePoster v w
claimed_poster k n y v w t = as_notes v w _ (ap (λ (z : PlainView). z.notes) t.after) refl refl (ap (λ (z : PlainView). z.begun) t.after ∙ t.chosen.looked_on.begun) (ap (λ (z : PlainView). z.ended) t.after ∙ t.chosen.looked_on.ended)

pub lost_poster : (k : Layout) (met : Word) (v w : PlainView) → Loses k met v w → SamePoster v w
lost_poster k met v w t = let o = t.chosen.looked_on in as_notes v w _ (ap (λ (z : PlainView). z.notes) t.after ∙ o.notes) refl refl (ap (λ (z : PlainView). z.begun) t.after ∙ o.begun) (ap (λ (z : PlainView). z.ended) t.after ∙ o.ended)

before_more : (order : ℕ) (xs : List Item) → AllBefore order xs → AllBefore (order + 1) xs
before_more order [] is = tt
before_more order (x ∷ xs) is = let h = is.0 in ((omega (arith, h)), before_more order xs is.1)

-- any order may follow where nothing was posted
pub none_before : (order : ℕ) (xs : List Item) → xs ≡ [] → AllBefore order xs
none_before order xs e = subst (λ (z : List Item). AllBefore order z) (sym e) tt

pub still_below : (order : ℕ) (v w : PlainView) → SamePoster v w → PostsBelow order v → PostsBelow order w
still_below order v w same below = (same.0 ∙ below.0, subst (λ (z : List Item). AllBefore order z) (sym same.1) below.1)

pub below_more : (order : ℕ) (v : PlainView) → PostsBelow order v → PostsBelow (order + 1) v
below_more order v below = (below.0, before_more order v.notes.posted below.1)

pub posted_below : (k : Layout) (n : ℕ) (y : Buffer) (order : ℕ) (v w : PlainView) → Posts plain_with_posted k n y order v w → PostsBelow order v → PostsBelow (order + 1) w
posted_below k n y order v w t below = let e = ap (λ (z : PlainView). z.notes) t.after in
    (ap (λ (z : PlainNotes). z.right) e ∙ below.0, subst (λ (z : List Item). AllBefore (order + 1) z) (sym (ap (λ (z : PlainNotes). z.posted) e)) ((omega arith), before_more order v.notes.posted below.1))
