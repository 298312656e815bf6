-- What an event keeps, and by how much the counts rise: s is the player's world as it is seen before the event.
use Rattle.std.proofs.Common.{◌≡◌, ℕ, ◌+◌, ◌≤◌, Result, subst, refl, arith}
use Rattle.std.specs.Prelude.{OnOk}
use Rattle.replay_world.specs.Stored.{Stored, RoseByAtMost, Keeps}
use Rattle.replay_world.proofs.Standing.{on_ok_always}

none : (a n : ℕ) → a ≤ a + n
none a n = omega arith

-- nothing is sent, counted, forgotten or lost
pub keeps_all : {T E : Type 0} (r : Result T E) (s old : Stored) → s ≡ old → OnOk r (Keeps old s)
keeps_all {T} {E} r s old is = subst (λ (x : Stored). OnOk r (Keeps x s)) is (on_ok_always r (refl, refl))

pub still : (n : ℕ) (s old : Stored) → s ≡ old → RoseByAtMost n old s
still n s old is =
    subst (λ (x : Stored). RoseByAtMost n x s) is
    (none _ n, (none _ n, none _ n, none _ n, none _ n, none _ n), none _ n, none _ n)

pub rose_none : {T E : Type 0} (r : Result T E) (n : ℕ) (s old : Stored) → s ≡ old → OnOk r (RoseByAtMost n old s)
rose_none {T} {E} r n s old is = on_ok_always r (still n s old is)

-- what is kept, and has risen, since then
pub keeps_since : {T E : Type 0} (r : Result T E) (s old new : Stored) → s ≡ old → OnOk r (Keeps s new) → OnOk r (Keeps old new)
keeps_since {T} {E} r s old new is h = subst (λ (x : Stored). OnOk r (Keeps x new)) is h

pub rose_since : {T E : Type 0} (r : Result T E) (n : ℕ) (s old new : Stored) → s ≡ old → OnOk r (RoseByAtMost n s new) → OnOk r (RoseByAtMost n old new)
rose_since {T} {E} r n s old new is h = subst (λ (x : Stored). OnOk r (RoseByAtMost n x new)) is h
