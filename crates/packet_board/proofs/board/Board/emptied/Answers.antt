use Rattle.std.proofs.Common.{◌≡◌, ℕ, sym, ap, subst, ◌∙◌, List}
use mathlib.Core.Option.{some}
use lib.ListN.{get_elem?}
use Rattle.packet_board.specs.declared.word.Word.{Word}
use Rattle.packet_board.specs.declared.layout.Layout.{Layout}
use Rattle.packet_board.specs.declared.buffer.Buffer.{Buffer}
use Rattle.std.specs.Slots.{slots_items}
use Rattle.packet_board.specs.Words.{Fits}
use Rattle.packet_board.specs.Seats.{Ended}
use Rattle.packet_board.proofs.Slots.{no_slots, no_hands}
use Rattle.packet_board.proofs.Closings.{lasts}
use Rattle.packet_board.proofs.board.Board.emptied.Goals as goal

pub buffers_left-buffers-requires-clause-buffers : goal.buffers_left-buffers-requires-clause-buffers
buffers_left-buffers-requires-clause-buffers g c = let seat = c.args.seat in let closed = c.close_with-left in
    (lasts g.L.BoardLaw.holds c.args.self.table.shared.key seat.token.id seat.token.me.0 (slots_items closed.result.words) (slots_items closed.result.slots) seat.ready.live c.requires.alone
    (λ b. seat.ready.tied b ∙ no_hands seat.token.me.1 (no_slots seat.token.me.1 (λ n. ap (λ h. h n) c.requires.empty)) b) closed.ensures.values.2).there

pub returns : goal.returns
returns g c = let seat = c.args.seat in let closed = c.close_with-left in let v = seat.token.me.0 in
    let last = lasts g.L.BoardLaw.holds c.args.self.table.shared.key seat.token.id v (slots_items closed.result.words) (slots_items closed.result.slots) seat.ready.live c.requires.alone
    (λ b. seat.ready.tied b ∙ no_hands seat.token.me.1 (no_slots seat.token.me.1 (λ n. ap (λ h. h n) c.requires.empty)) b) closed.ensures.values.2 in
    let bs = c.buffers_left-buffers.result.items in let ended = last.ended bs c.buffers_left-buffers.ensures.buffers
    (subst (λ (z : List Word). (cell : ℕ) (w : Word) → get_elem? z cell ≡ some w → Fits w) c.cells_left-words.ensures.words c.cells_left-words.ensures.fit) in
    let words = sym (c.new.ensures ∙ c.cells_left-words.ensures.words) in let buffers = sym c.new-2.ensures in
    subst (λ (z : Layout × List Word × List Buffer). Ended g.L.BoardLaw.holds z.0 seat.token.id v z.1 z.2) (λ i. (c.args.self.keyed i, words i, buffers i)) ended
