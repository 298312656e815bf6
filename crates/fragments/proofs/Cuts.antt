-- What was cut is joined again, and what was joined is cut again.
use Rattle.std.proofs.Common.{◌≡◌, ◌<◌, ◌≤◌, ◌+◌, ◌*◌, ℕ, zero, suc, List, [], ◌∷◌, ◌++◌, length, take, drop, map, get_or, slice_get, Some, refl, ap, sym, ◌∙◌, subst, arith}
use Rattle.std.specs.List.{All, concat, range_with_len}
use Rattle.std.proofs.lemmas.List.{append-nil, append_assoc, drop-drop, drop_at, length-append, take_all, take_at}
use Rattle.std.proofs.lemmas.List.Folds.{concat-append}
use Rattle.std.proofs.lemmas.List.FromFn.{fill_by_all, get_or-map-range_with_len, map-range_with_len_more, take-map-range_with_len, length-map-range_with_len}
use Rattle.std.proofs.lemmas.Option.{slice_get-get_or}
use Rattle.fragments.specs.Pieces.{ArePieces, cut, front, join, last_piece, piece, piece_count, piece_size}
use Rattle.fragments.proofs.Fronts.{front-all, front-more, front-zero, piece-empty, piece-fits, piece-full}

-- the first k pieces of a text, in their order
abbrev pieces_to : List ℕ → ℕ → List (List ℕ)
pieces_to text k = map (piece text) (range_with_len 0 k)

pieces_more : (text : List ℕ) (k : ℕ) → pieces_to text (k + 1) ≡ pieces_to text k ++ piece text k ∷ []
pieces_more text k = map-range_with_len_more (piece text) 0 k k (omega arith)

join_push : (before : List (List ℕ)) (last : List ℕ) → join (before ++ last ∷ []) ≡ join before ++ last
join_push before last = concat-append before (last ∷ []) ∙ ap (λ xs. concat before ++ xs) (append-nil last)

join_pieces : (text : List ℕ) (k : ℕ) → join (pieces_to text k) ≡ front text k
join_pieces text zero = sym (front-zero text)
join_pieces text (suc k) =
    let P : ℕ → Type 0 = λ n. join (pieces_to text n) ≡ front text n in
    let more : join (pieces_to text (k + 1)) ≡ join (pieces_to text k) ++ piece text k =
    ap join (pieces_more text k) ∙ join_push (pieces_to text k) (piece text k) in
    subst P (omega arith)
    (more ∙ ap (λ xs. xs ++ piece text k) (join_pieces text k) ∙ sym (front-more text k))

pub join_cut : (text : List ℕ) → join (cut text) ≡ text
unfolding cut
join_cut text = join_pieces text (piece_count (length text)) ∙ front-all text (last_piece (length text)) (omega arith)

pub join_take : (text : List ℕ) (k : ℕ) → k ≤ piece_count (length text) → front text k ≡ join (take k (cut text))
unfolding cut
join_take text k h =
    sym (join_pieces text k)
    ∙ ap join (sym (take-map-range_with_len (piece text) 0 (piece_count (length text)) k h))

-- the pieces that a text is cut into
pub cut_pieces : (text : List ℕ) → ArePieces (cut text)
unfolding cut
cut_pieces text =
    let k = last_piece (length text) in
    record {
      before = pieces_to text k;
      last = piece text k;
      whole = pieces_more text k;
      full = λ i d h.
          let inside : i < k = omega (arith, length-map-range_with_len (piece text) 0 k) in
          let same : get_or (pieces_to text k) i d ≡ piece text i =
          get_or-map-range_with_len (piece text) 0 k i i d inside (omega arith) in
          ap length same ∙ piece-full text i inside;
      fits = piece-fits text k;
      needed = λ empty.
          let none : text ≡ [] = piece-empty text k (omega arith) empty in
          ap (λ (xs : List ℕ). pieces_to text (last_piece (length xs))) none;
    }

full-tail : (p : List ℕ) (before : List (List ℕ)) → All (λ (p : List ℕ). length p ≡ piece_size) (p ∷ before)
    → All (λ (p : List ℕ). length p ≡ piece_size) before
full-tail p before h = λ k d inside. h (suc k) d (omega arith)

-- full pieces with something behind them begin with the first
drop_first : (p : List ℕ) (before : List (List ℕ)) (last : List ℕ) → length p ≡ piece_size
    → drop piece_size (join (p ∷ before) ++ last) ≡ join before ++ last
drop_first p before last h = ap (drop piece_size) (append_assoc p (join before) last) ∙ drop_at p (join before ++ last) piece_size h

length-join : (before : List (List ℕ)) → All (λ (p : List ℕ). length p ≡ piece_size) before
    → length (join before) ≡ piece_size * length before
length-join [] h = refl
length-join (p ∷ before) h =
    let first : length p ≡ piece_size = h 0 [] (omega arith) in
    omega (arith, length-append p (concat before), length-join before (full-tail p before h))

-- a full piece is the piece of the text that is joined
piece-join : (before : List (List ℕ)) (last : List ℕ) (i : ℕ) (d : List ℕ)
    → All (λ (p : List ℕ). length p ≡ piece_size) before → i < length before
    → piece (join before ++ last) i ≡ get_or before i d
unfolding piece
piece-join [] last i d h inside = absurd (omega arith)
piece-join (p ∷ before) last zero d h inside =
    let first : length p ≡ piece_size = h 0 [] (omega arith) in
    ap (take piece_size) (append_assoc p (join before) last) ∙ take_at p (join before ++ last) piece_size first
piece-join (p ∷ before) last (suc i) d h inside =
    let first : length p ≡ piece_size = h 0 [] (omega arith) in
    let size : piece_size * suc i ≡ piece_size + piece_size * i = omega arith in
    let steps : drop (piece_size * suc i) (join (p ∷ before) ++ last) ≡ drop (piece_size * i) (join before ++ last) =
    ap (λ n. drop n (join (p ∷ before) ++ last)) size
    ∙ sym (drop-drop (piece_size * i) piece_size (join (p ∷ before) ++ last))
    ∙ ap (drop (piece_size * i)) (drop_first p before last first) in
    ap (take piece_size) steps ∙ piece-join before last i d (full-tail p before h) (omega arith)

-- the last piece is what is behind the full ones
piece-last : (before : List (List ℕ)) (last : List ℕ) → All (λ (p : List ℕ). length p ≡ piece_size) before
    → length last ≤ piece_size → piece (join before ++ last) (length before) ≡ last
unfolding piece
piece-last before last h fits =
    ap (take piece_size) (drop_at (join before) last (piece_size * length before) (length-join before h))
    ∙ take_all piece_size last fits

length-nil : (before : List (List ℕ)) → before ≡ [] → length before ≡ 0
length-nil before e = ap (λ (xs : List (List ℕ)). length xs) e

-- a list has no items, or some
some_or_none : (last : List ℕ) (before : List (List ℕ)) → (last ≡ [] → before ≡ []) → 0 < length before → 0 < length last
some_or_none [] before needed some = absurd (omega (arith, length-nil before (needed refl)))
some_or_none (x ∷ last) before needed some = omega arith

count-join : (before : List (List ℕ)) (last : List ℕ) → All (λ (p : List ℕ). length p ≡ piece_size) before
    → length last ≤ piece_size → (last ≡ [] → before ≡ []) → last_piece (length (join before ++ last)) ≡ length before
count-join [] last h fits needed = omega arith
count-join (p ∷ before) last h fits needed =
    let some : 0 < length last = some_or_none last (p ∷ before) needed (omega arith) in
    omega (arith, length-join (p ∷ before) h, length-append (join (p ∷ before)) last)

cut-join : (before : List (List ℕ)) (last : List ℕ) → All (λ (p : List ℕ). length p ≡ piece_size) before
    → length last ≤ piece_size → (last ≡ [] → before ≡ []) → cut (join before ++ last) ≡ before ++ last ∷ []
unfolding cut
cut-join before last h fits needed =
    let text = join before ++ last in
    let n = length before in
    let same : before ≡ pieces_to text n =
    fill_by_all (piece text) before n [] refl (λ k inside. sym (piece-join before last k [] h inside)) in
    ap (λ k. pieces_to text (k + 1)) (count-join before last h fits needed)
    ∙ pieces_more text n
    ∙ ap (λ (xs : List (List ℕ)). xs ++ piece text n ∷ []) (sym same)
    ∙ ap (λ (p : List ℕ). before ++ p ∷ []) (piece-last before last h fits)

-- pieces that were joined are cut again
pub joined_is_cut : (pieces : List (List ℕ)) → ArePieces pieces → cut (join pieces) ≡ pieces
joined_is_cut pieces h =
    ap (λ (xs : List (List ℕ)). cut (join xs)) h.whole ∙ ap cut (join_push h.before h.last)
    ∙ cut-join h.before h.last h.full h.fits h.needed ∙ sym h.whole

-- texts with the same pieces are the same
pub same_pieces : (s t : List ℕ) → cut s ≡ cut t → s ≡ t
same_pieces s t e = sym (join_cut s) ∙ ap join e ∙ join_cut t

pub count_cut : (text : List ℕ) → length (cut text) ≡ piece_count (length text)
unfolding cut
count_cut text = length-map-range_with_len (piece text) 0 (piece_count (length text))

pub each_piece : (text : List ℕ) (i : ℕ) → i < piece_count (length text) → slice_get (cut text) i ≡ Some (piece text i)
unfolding cut
each_piece text i inside =
    slice_get-get_or (cut text) i [] (omega (arith, count_cut text))
    ∙ ap Some (get_or-map-range_with_len (piece text) 0 (piece_count (length text)) i i [] inside (omega arith))
