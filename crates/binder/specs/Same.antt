-- Names whose bytes are the same have the same hash.
use Rattle.std.specs.Prelude.{ℕ, ◌≡◌, IsTrue, List, nat_eq, true}
use Rattle.std.proofs.Common.{ap, refl}
use Rattle.std.specs.Cmp.Lexicographic.{pointwise}
use Rattle.std.proofs.lemmas.Slice.Eq.{slice_eq-Decides}
use Rattle.std.proofs.lemmas.Bool.Decides.{Decides-eqb}
use Rattle.std.specs.Hash as fed

-- lists that compare as equal are equal
pub same_bytes : (xs ys : List ℕ) → pointwise nat_eq xs ys ≡ true → xs ≡ ys
same_bytes xs ys h = (slice_eq-Decides Decides-eqb xs ys (pointwise nat_eq xs ys) refl).0 h

pub same_writes : (xs ys : List ℕ) → IsTrue (pointwise nat_eq xs ys) → fed.slice fed.u8 xs ≡ fed.slice fed.u8 ys
same_writes xs ys h = ap (fed.slice fed.u8) (same_bytes xs ys h)
