-- How many values there are.
use Rattle.std.proofs.Common.{◌≡◌, ◌+◌, ℕ, List, [], ◌∷◌, length, arith}
use Rattle.marshal_plans.specs.declared.value.Value.{Value}
use Rattle.marshal_plans.specs.Data.{Data, count, data_of, behind_bytes}

count_row : (vs : List Value) → count (data_of vs) ≡ length vs
count_row [] = omega arith
count_row (v ∷ vs) = omega (arith, count_row vs)

count_behind : (bs : List ℕ) (others : Data) → count (behind_bytes bs others) ≡ length bs + count others
count_behind [] others = omega arith
count_behind (b ∷ bs) others = omega (arith, count_behind bs others)

pub counted : (bs : List ℕ) (vs : List Value) → count (behind_bytes bs (data_of vs)) ≡ length bs + length vs
counted bs vs = omega (arith, count_behind bs (data_of vs), count_row vs)
