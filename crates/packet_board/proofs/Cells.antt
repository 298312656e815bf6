-- The words of a table as the number of seats out and the cells.
use Rattle.std.proofs.Common.{◌≡◌, ℕ, zero, suc, ◌-◌, ◌<◌, List, [], ◌∷◌, length, map, set, get_or, refl, sym, ap, ◌∙◌, arith}
use Rattle.std.proofs.lemmas.List.{map-set}
use mathlib.Core.Option.{some}
use lib.ListN.{get_elem?}
use Rattle.packet_board.specs.Words.{unpacked}
use Rattle.packet_board.specs.Rule.{cells_of, out_of}

at_mapped : (ns : List ℕ) (cell : ℕ) → cell < length (map unpacked ns) → get_elem? (map unpacked ns) cell ≡ some (unpacked (get_or ns cell 0))
at_mapped [] cell h = absurd (omega arith)
at_mapped (n ∷ ns) zero h = refl
at_mapped (n ∷ ns) (suc cell) h = at_mapped ns cell (omega arith)

there : (ns : List ℕ) (cell : ℕ) → cell < length (cells_of ns) → get_elem? (cells_of ns) cell ≡ some (unpacked (get_or ns (suc cell) 0))
there [] cell h = absurd (omega arith)
there (n ∷ ns) cell h = at_mapped ns cell h

pub cell_there : (ns : List ℕ) (i : ℕ) → 0 < i → i - 1 < length (cells_of ns) → get_elem? (cells_of ns) (i - 1) ≡ some (unpacked (get_or ns i 0))
cell_there ns i pos h = let e : suc (i - 1) ≡ i = omega arith in there ns (i - 1) h ∙ ap (λ (z : ℕ). some (unpacked (get_or ns z 0))) e

set_cell : (ns : List ℕ) (cell x : ℕ) → cells_of (set ns (suc cell) x) ≡ set (cells_of ns) cell (unpacked x)
set_cell [] cell x = refl
set_cell (n ∷ ns) cell x = map-set unpacked ns cell x

set_behind : (ns : List ℕ) (cell x : ℕ) → out_of (set ns (suc cell) x) ≡ out_of ns
set_behind [] cell x = refl
set_behind (n ∷ ns) cell x = refl

pub cells_set : (ns : List ℕ) (i x : ℕ) → 0 < i → cells_of (set ns i x) ≡ set (cells_of ns) (i - 1) (unpacked x)
cells_set ns i x pos = let e : suc (i - 1) ≡ i = omega arith in ap (λ (z : ℕ). cells_of (set ns z x)) (sym e) ∙ set_cell ns (i - 1) x

pub out_kept : (ns : List ℕ) (i x : ℕ) → 0 < i → out_of (set ns i x) ≡ out_of ns
out_kept ns i x pos = let e : suc (i - 1) ≡ i = omega arith in ap (λ (z : ℕ). out_of (set ns z x)) (sym e) ∙ set_behind ns (i - 1) x

pub cells_kept : (ns : List ℕ) (x : ℕ) → cells_of (set ns 0 x) ≡ cells_of ns
cells_kept [] x = refl
cells_kept (n ∷ ns) x = refl

pub out_set : (ns : List ℕ) (x : ℕ) → 0 < length ns → out_of (set ns 0 x) ≡ x
out_set [] x h = absurd (omega arith)
out_set (n ∷ ns) x h = refl

pub out_is : (ns : List ℕ) → 0 < length ns → get_or ns 0 0 ≡ out_of ns
out_is [] h = absurd (omega arith)
out_is (n ∷ ns) h = refl
