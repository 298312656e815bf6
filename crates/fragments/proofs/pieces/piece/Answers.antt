use Rattle.std.proofs.Common.{◌≡◌, ◌-◌, ◌*◌, ℕ, List, length, take, drop, min, ap, ◌∙◌, arith}
use Rattle.std.proofs.lemmas.List.{take_min, take_rest}
use Rattle.fragments.specs.Pieces.{piece, piece_size}
use Rattle.fragments.proofs.pieces.piece.Goals as goal

-- the front of what is left, where it has the lesser of two lengths
taken : (m k i : ℕ) (xs : List ℕ) → k ≡ i → m ≡ min (length (take (length xs - piece_size * k) (drop (piece_size * k) xs))) piece_size
    → take m (take (length xs - piece_size * k) (drop (piece_size * k) xs)) ≡ piece xs i
unfolding piece
taken m k i xs same least =
    let rest = take (length xs - piece_size * k) (drop (piece_size * k) xs) in
    let size : m ≡ min piece_size (length rest) = omega arith in
    ap (λ (n : ℕ). take n rest) size ∙ take_min piece_size rest
    ∙ ap (take piece_size) (take_rest xs (piece_size * k))
    ∙ ap (λ (n : ℕ). take piece_size (drop (piece_size * n) xs)) same

pub returns-clause-piece : goal.returns-clause-piece
returns-clause-piece c = taken c.min.result c.from.result c.args.i c.args.bytes.now c.from.ensures c.min.ensures
