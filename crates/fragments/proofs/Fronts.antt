-- The fronts of a text, and the lengths of its pieces.
use Rattle.std.proofs.Common.{◌≡◌, ◌<◌, ◌≤◌, ◌+◌, ◌*◌, ℕ, List, [], ◌++◌, length, take, drop, refl, ap, ◌∙◌, arith}
use Rattle.std.specs.List.{All}
use Rattle.std.proofs.lemmas.List.{drop-take, drop_all, length-drop, length-take, nil_from_length, take-append-drop, take-take, take_all}
use Rattle.std.proofs.lemmas.List.Elements.{All-drop, All-take}
use Rattle.fragments.specs.Pieces.{front, last_piece, piece, piece_size}

-- a front is a shorter one and what follows it
take-add : (n m : ℕ) (xs : List ℕ) → take (n + m) xs ≡ take n xs ++ take m (drop n xs)
take-add n m xs =
    let whole = take-append-drop n (take (n + m) xs) in
    let left : take n (take (n + m) xs) ≡ take n xs = take-take n (n + m) xs (omega arith) in
    let right : drop n (take (n + m) xs) ≡ take m (drop n xs) = drop-take n m xs in
    cc

pub front-zero : (text : List ℕ) → front text 0 ≡ []
unfolding front
front-zero text = refl

pub front-more : (text : List ℕ) (k : ℕ) → front text (k + 1) ≡ front text k ++ piece text k
unfolding front piece
front-more text k =
    let size : piece_size * (k + 1) ≡ piece_size * k + piece_size = omega arith in
    ap (λ n. take n text) size ∙ take-add (piece_size * k) piece_size text

pub front-all : (text : List ℕ) (k : ℕ) → last_piece (length text) ≤ k → front text (k + 1) ≡ text
unfolding front
front-all text k h = take_all (piece_size * (k + 1)) text (omega arith)

pub length-front : (text : List ℕ) (k : ℕ) → k ≤ last_piece (length text) → length (front text k) ≡ piece_size * k
unfolding front
length-front text k h = omega (arith, length-take (piece_size * k) text)

pub piece-full : (text : List ℕ) (i : ℕ) → i < last_piece (length text) → length (piece text i) ≡ piece_size
unfolding piece
piece-full text i h =
    omega (arith, length-take piece_size (drop (piece_size * i) text), length-drop (piece_size * i) text)

pub piece-fits : (text : List ℕ) (i : ℕ) → length (piece text i) ≤ piece_size
unfolding piece
piece-fits text i = omega (arith, length-take piece_size (drop (piece_size * i) text))

pub piece-behind : (text : List ℕ) (i : ℕ) → last_piece (length text) < i → piece text i ≡ []
unfolding piece
piece-behind text i h = ap (take piece_size) (drop_all (piece_size * i) text (omega arith))

-- a text whose last piece is empty is empty
pub piece-empty : (text : List ℕ) (i : ℕ) → i ≤ last_piece (length text) → piece text i ≡ [] → text ≡ []
unfolding piece
piece-empty text i h e =
    let none : length (take piece_size (drop (piece_size * i) text)) ≡ 0 = ap length e in
    nil_from_length text
    (omega (arith, length-take piece_size (drop (piece_size * i) text), length-drop (piece_size * i) text))

pub piece-bytes : (text : List ℕ) (i : ℕ) → All (λ (byte : ℕ). byte < 256) text → All (λ (byte : ℕ). byte < 256) (piece text i)
unfolding piece
piece-bytes text i h =
    let P : ℕ → Type 0 = λ byte. byte < 256 in
    All-take P piece_size (drop (piece_size * i) text) (All-drop P (piece_size * i) text h)
