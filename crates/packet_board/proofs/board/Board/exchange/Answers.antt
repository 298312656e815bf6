use Rattle.std.proofs.Common.{arith, sym, ap, subst, ◌∙◌, ◌≡◌, ◌+◌, ◌-◌, ◌<◌, ℕ}
use Rattle.packet_board.specs.declared.word.Word.{Word}
use Rattle.packet_board.specs.declared.layout.Layout.{Layout}
use Rattle.packet_board.specs.Words.{cell_count, unpacked}
use Rattle.packet_board.specs.Hands.{gives_of, CanGive, given_by, lookup}
use Rattle.packet_board.specs.Laws.{Learns, Picks}
use Rattle.packet_board.specs.Rule.{Swapped}
use Rattle.packet_board.proofs.Packs.{unpacked_packed}
use Rattle.packet_board.proofs.Swaps.{swaps, ready_swapped, told_done}
use Rattle.packet_board.proofs.board.Board.exchange.Goals as goal

pub compare_exchange-found-requires : goal.compare_exchange-found-requires
compare_exchange-found-requires g c = let seat = c.args.seat.now in let board = c.args.self.now in let m = seat.token.me in let sized = board.sized.0 in let room = c.requires.cell in let cell : ℕ = c.args.cell in
    let a : ℕ = c.pack-expected.result in let b : ℕ = c.pack.result in
    let old : c.args.old ≡ unpacked a = sym (ap unpacked c.pack-expected.ensures ∙ unpacked_packed c.args.old c.requires.words.0) in
    let new : c.args.new ≡ unpacked b = sym (ap unpacked c.pack.ensures ∙ unpacked_packed c.args.new c.requires.words.1) in
    let same : cell ≡ (cell + 1) - 1 = omega arith in let keyed = sym board.keyed in (
      c.requires.seat.0,
      (omega (arith, sized, room)),
      swaps g.L.BoardLaw.holds g.L.BoardLaw.allows g.L.BoardLaw.exchanges g.L.BoardLaw.looks board.table.shared.key _ seat.token.id (cell + 1) a b m g.M.Choice.chooses g.M.Choice.tells (omega arith)
          (subst (λ (z : Layout). (cell + 1) - 1 < cell_count z) keyed (omega (arith, room))) seat.ready
          (subst (λ (z : Word × Word). CanGive (gives_of z.0.buffer z.1.buffer) (lookup m.1)) (λ i. (old i, new i)) c.requires.gives)
          (subst (λ (z : Layout × ℕ × Word × Word). Picks g.L.BoardLaw.holds g.L.BoardLaw.allows g.M.Choice.chooses z.0 seat.token.id m.0 z.1 z.2 z.3 (given_by (gives_of z.2.buffer z.3.buffer) (lookup m.1))) (λ i. (keyed i, same i, old i, new i)) c.requires.law)
          (subst (λ (z : Layout × ℕ × Word). Learns g.L.BoardLaw.holds z.0 seat.token.id m.0 z.1 z.2 g.M.Choice.tells) (λ i. (keyed i, same i, old i)) c.requires.tells),
    )

pub invariant_of-seat : goal.invariant_of-seat
invariant_of-seat g c = let seat = c.args.seat.now in let m = seat.token.me in let a : ℕ = c.pack-expected.result in let b : ℕ = c.pack.result in
    let old : c.args.old ≡ unpacked a = sym (ap unpacked c.pack-expected.ensures ∙ unpacked_packed c.args.old c.requires.words.0) in
    let new : c.args.new ≡ unpacked b = sym (ap unpacked c.pack.ensures ∙ unpacked_packed c.args.new c.requires.words.1) in
    record {
      ready = ready_swapped g.M.Choice.chooses g.M.Choice.tells c.args.self.now.table.shared.table_id.slots (c.args.cell + 1) a b c.compare_exchange-found.result m c.compare_exchange-found.new.seat.me seat.ready
          (subst (λ (z : Word × Word). CanGive (gives_of z.0.buffer z.1.buffer) (lookup m.1)) (λ i. (old i, new i)) c.requires.gives) c.compare_exchange-found.ensures.2.0;
    }

pub returns-then-found-expected-clause-done : goal.returns-then-found-expected-clause-done
returns-then-found-expected-clause-done g c = let seat = c.args.seat.now in let m = seat.token.me in let a : ℕ = c.pack-expected.result in let b : ℕ = c.pack.result in let cell : ℕ = c.args.cell in
    let old : unpacked a ≡ c.args.old = ap unpacked c.pack-expected.ensures ∙ unpacked_packed c.args.old c.requires.words.0 in
    let new : unpacked b ≡ c.args.new = ap unpacked c.pack.ensures ∙ unpacked_packed c.args.new c.requires.words.1 in
    let same : (cell + 1) - 1 ≡ cell = omega arith in let after = c.compare_exchange-found.new.seat.me in
    told_done g.M.Choice.chooses c.args.self.now.layout cell c.args.old c.args.new m after c.requires.seat.1 seat.ready c.requires.gives
    (subst (λ (z : ℕ × Word × Word). Swapped (λ v x o n found notes. g.M.Choice.chooses v found notes) z.0 z.1 z.2 m after) (λ i. (same i, old i, new i)) (c.compare_exchange-found.ensures.2.0.0 c.if-found-expected.true))
