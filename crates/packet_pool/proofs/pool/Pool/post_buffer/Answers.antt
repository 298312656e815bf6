use Rattle.std.proofs.Common.{arith, ap, ◌∙◌, subst, sym, ◌+◌, Some, None}
use mathlib.Core.Option.{some, none}
use Rattle.packet_board.specs.Words.{buffers_of}
use Rattle.packet_board.specs.Seats.{view, held, number}
use Rattle.packet_pool.specs.Cells.{ready_count, HasPacket}
use Rattle.packet_pool.specs.Laws.{MayPost}
use Rattle.packet_pool.specs.Packets.{layout_in, OnlyLooked, HasNow}
use Rattle.packet_pool.specs.Waiting.{Posts, AllFull}
use Rattle.packet_board.specs.Holding.{updated_same}
use Rattle.packet_pool.proofs.Hands.{stowed_in, holds_content, twice_updated, same_content}
use Rattle.packet_pool.proofs.Seen.{is_now}
use Rattle.packet_pool.proofs.pool.Pool.post_buffer.Goals as goal

pub post_stowed-requires-clause-stowed : goal.post_stowed-requires-clause-stowed
post_stowed-requires-clause-stowed g c = (stowed_in c.args.number (held c.args.seat.now) (held c.stow.new.seat) c.args.buffer c.stow.ensures.held, c.requires.buffer.1)

pub post_stowed-requires-clause-may : goal.post_stowed-requires-clause-may
post_stowed-requires-clause-may g c = λ y is. let n = c.args.number in let same = same_content n (held c.args.seat.now) (held c.stow.new.seat) c.args.buffer y c.stow.ensures.held is in
    subst (λ z. MayPost g.L.PoolLaw.right g.L.PoolLaw.posted g.L.PoolLaw.may_post g.L.PoolLaw.is_loose z n y c.args.order) (ap (λ z. z.notes) (sym c.stow.ensures.view)) (subst (λ z. MayPost g.L.PoolLaw.right g.L.PoolLaw.posted g.L.PoolLaw.may_post g.L.PoolLaw.is_loose (view c.args.seat.now).notes n z c.args.order) same c.requires.may)

pub returns-then-post_stowed-clause-posted : goal.returns-then-post_stowed-clause-posted
returns-then-post_stowed-clause-posted g c = let n = c.args.number in let y = c.args.buffer in let yes = c.if-post_stowed.true in let s = holds_content n (held c.args.seat.now) (held c.stow.new.seat) y c.stow.ensures.held in (
  subst (λ z. Posts g.L.PoolLaw.with_posted (layout_in c.args.self.now) n y c.args.order z (view c.post_stowed.new.seat)) c.stow.ensures.view (c.post_stowed.ensures.posted yes y s),
  twice_updated n (some (Some y)) none (held c.args.seat.now) (held c.stow.new.seat) (held c.post_stowed.new.seat) c.stow.ensures.held (c.post_stowed.ensures.gone yes),
)

pub unstow-requires-clause-stowed : goal.unstow-requires-clause-stowed
unstow-requires-clause-stowed g c = let n = c.args.number in let y = c.args.buffer in let still = (c.post_stowed.ensures.full c.if-post_stowed.false).1 in
    stowed_in n (held c.args.seat.now) (held c.post_stowed.new.seat) y (still ∙ c.stow.ensures.held)

pub returns-clause-back : goal.returns-clause-back
returns-clause-back g c = let n = c.args.number in let y = c.args.buffer in let h = held c.args.seat.now in let i = held c.post_stowed.new.seat in let still = (c.post_stowed.ensures.full c.if-post_stowed.false).1 ∙ c.stow.ensures.held in (
  sym (same_content n h i y c.unstow.result still c.unstow.ensures.buffer),
  twice_updated n (some (Some y)) (some None) h i (held c.unstow.new.seat) still c.unstow.ensures.held ∙ updated_same n (some None) h c.requires.buffer.0,
)

pub returns-clause-full : goal.returns-clause-full
returns-clause-full g c = let k = layout_in c.args.self.now in let f = c.post_stowed.ensures.full c.if-post_stowed.false in let all = f.2 in let end = buffers_of k + ready_count k in (
  subst (λ z. OnlyLooked z (view c.unstow.new.seat)) c.stow.ensures.view (subst (λ z. OnlyLooked (view c.stow.new.seat) z) (sym c.unstow.ensures.view) f.0),
  subst (λ z. AllFull k z.steps (view c.unstow.new.seat) end) c.stow.ensures.view (subst (λ z. AllFull k (view c.stow.new.seat).steps z end) (sym c.unstow.ensures.view) all),
  (let a = ap (λ z. z.steps) c.stow.ensures.view in let b = ap (λ z. z.steps) c.unstow.ensures.view in let s = f.3 in omega (arith, a, b, s)),
)

pub returns-clause-full_now : goal.returns-clause-full_now
returns-clause-full_now g c = λ alone cell is. let k = layout_in c.args.self.now in let f = c.post_stowed.ensures.full c.if-post_stowed.false in let v = view c.stow.new.seat in let u = view c.post_stowed.new.seat in
    subst (λ z. HasNow g.L.BoardLaw.holds k (number c.unstow.new.seat) z cell (HasPacket k)) (sym c.unstow.ensures.view)
    (is_now g.L.BoardLaw.holds g.met.L.PoolLaw.fresh k _ v.steps u cell (HasPacket k) (f.0.alone ∙ (ap (λ z. z.alone) c.stow.ensures.view ∙ alone)) (f.2 cell is.0 is.1))
