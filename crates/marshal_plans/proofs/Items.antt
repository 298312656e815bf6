-- Items that are whole and items that aren't.
use Rattle.std.proofs.Common.{Bool, cond, ◌≡◌, ◌<◌, ◌≤◌, ◌-◌, ℕ, List, length, drop, Option, Err, ap}
use Rattle.std.proofs.lemmas.Bool.{le-ltb}
use borrow.Author.Tests.{lt-ltb}
use Rattle.byteorder.specs.Endian.{big_number}
use Rattle.marshal_plans.specs.declared.fault.GetFault.TheVariants.{Short}
use Rattle.marshal_plans.specs.Reading.{Read, in_range, item}

-- an item that is whole is its number, if that stands for something
pub item_whole : {A : Type 0} (total bytes : ℕ) (meaning : ℕ → Option A) (rest : List ℕ) → bytes ≤ length rest
    → item total bytes meaning rest ≡ in_range (total - length rest) (meaning (big_number bytes rest)) (drop bytes rest)
item_whole {A = A} total bytes meaning rest room =
    let whole : Read A = in_range (total - length rest) (meaning (big_number bytes rest)) (drop bytes rest) in
    let short : Read A = Err (Short (total - length rest)) in
    ap (λ (t : Bool). cond t short whole) (le-ltb (length rest) bytes room)

pub item_short : {A : Type 0} (total bytes : ℕ) (meaning : ℕ → Option A) (rest : List ℕ) → length rest < bytes
    → item total bytes meaning rest ≡ Err (Short (total - length rest))
item_short {A = A} total bytes meaning rest room =
    let whole : Read A = in_range (total - length rest) (meaning (big_number bytes rest)) (drop bytes rest) in
    let short : Read A = Err (Short (total - length rest)) in
    ap (λ (t : Bool). cond t short whole) (lt-ltb (length rest) bytes room)
