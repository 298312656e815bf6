use Rattle.std.proofs.Common.{arith, refl, ◌≡◌, ◌≤◌, ◌+◌, length, length-append, ◌++◌, take}
use Rattle.std.proofs.lemmas.List.{length-take, length-take-le}
use Rattle.ff_io.proofs.ToldLemmas.{Gave-append}
use Rattle.ff_io.proofs.reading.read_all.Goals as goal

pub returns-then-n-room-clause-read : goal.returns-then-n-room-clause-read
returns-then-n-room-clause-read g c =
    let all = c.loop-bytes.bytes.items ++ take c.in_ok-n.n c.read.new.into in
    let many : length all ≡ c.args.limit + 1 = simp length-append (omega (
      arith,
      length-take-le c.in_ok-n.n c.read.new.into c.in_ok-n.ensures.within,
      length-take c.min-most.result c.loop-bytes.chunk,
      c.read.auto.into,
      c.in_ok-n.ensures.within,
    )) in
    (all, Gave-append _ _ _ _ _ c.loop-bytes.invariant.given c.in_ok-n.ensures.given, omega arith, (λ _. many, λ _. refl))

pub returns-in_err-extend_from_slice-clause-read :
    goal.returns-in_err-extend_from_slice-clause-read
returns-in_err-extend_from_slice-clause-read g c =
    let all = c.loop-bytes.bytes.items ++ take c.in_ok-n.n c.read.new.into in
    let few : length all ≤ c.args.limit = simp length-append (omega (arith, length-take-le c.in_ok-n.n c.read.new.into c.in_ok-n.ensures.within)) in
    let h = c.from_residual-in_err-extend_from_slice.ensures in
    (all, Gave-append _ _ _ _ _ c.loop-bytes.invariant.given c.in_ok-n.ensures.given, omega arith, (λ too_long. absurd (cc (rw too_long at h.1)), λ many. absurd (omega arith)))
