-- A piece written behind the front that is gathered makes the next front.
use Rattle.std.proofs.Common.{◌≡◌, ◌≤◌, ◌+◌, ◌==◌, ℕ, true, Equal, Ordering, List, ◌++◌, length, take, ap, sym, ◌∙◌, arith}
use Rattle.std.proofs.lemmas.Bool.Decides.{nat_tests}
use Rattle.std.proofs.lemmas.Slice.{take-put_mid}
use Rattle.std.specs.Ordering.{nat_cmp}
use borrow.Rule.Slice.PartMut.{put_mid}
use Rattle.fragments.specs.Gathering.{Gathers}
use Rattle.fragments.specs.Pieces.{front, last_piece, piece}
use Rattle.fragments.specs.declared.gathered.Gathered.{Gathered}
use Rattle.fragments.proofs.Fronts.{front-all, front-more}

-- two numbers that compare as equal are equal
pub is_due : (i n : ℕ) (r : Ordering) → r ≡ nat_cmp i n → r ≡ Equal → i ≡ n
is_due i n r by_call equal =
    let e : nat_cmp i n ≡ Equal = sym by_call ∙ equal in
    grind (arith, nat_tests)

-- the buffer after a write of n bytes behind its first `len`
front-written : (text : List ℕ) (g : Gathered) (buffer bytes p : List ℕ) (n i : ℕ)
    → Gathers text g buffer → p ≡ piece text i → i ≡ g.next → bytes ≡ p → g.len ≤ length buffer
    → take (g.len + length p) (put_mid g.len n buffer bytes) ≡ front text (i + 1)
front-written text g buffer bytes p n i h same due written room =
    let count : g.len + length p ≡ g.len + length bytes = ap (λ (xs : List ℕ). g.len + length xs) (sym written) in
    let old : take g.len buffer ≡ front text g.next = h.bytes in
    take-put_mid g.len n buffer bytes (g.len + length p) count room
    ∙ ap (λ (xs : List ℕ). take g.len buffer ++ xs) (written ∙ same)
    ∙ ap (λ (xs : List ℕ). xs ++ piece text i) (old ∙ ap (front text) (sym due))
    ∙ sym (front-more text i)

pub gathers_more : (text : List ℕ) (g : Gathered) (buffer bytes p : List ℕ) (n i : ℕ)
    → i ≡ g.next → bytes ≡ p → g.len ≤ length buffer
    → Gathers text g buffer → p ≡ piece text i
    → Gathers text (record { len = g.len + length p; next = i + 1 }) (put_mid g.len n buffer bytes)
gathers_more text g buffer bytes p n i due written room h same =
    record { bytes = front-written text g buffer bytes p n i h same due written room }

pub gathers_whole : (text : List ℕ) (g : Gathered) (buffer bytes p : List ℕ) (n i len : ℕ)
    → i ≡ g.next → bytes ≡ p → g.len ≤ length buffer
    → Gathers text g buffer → p ≡ piece text i → true ≡ (i == last_piece (length text))
    → g.len + length p ≡ len → take len (put_mid g.len n buffer bytes) ≡ text
gathers_whole text g buffer bytes p n i len due written room h same last whole =
    let at_last : i ≡ last_piece (length text) = grind (arith, nat_tests) in
    ap (λ (k : ℕ). take k (put_mid g.len n buffer bytes)) (sym whole)
    ∙ front-written text g buffer bytes p n i h same due written room
    ∙ front-all text i (omega arith)
