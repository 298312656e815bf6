use Rattle.std.proofs.Common.{◌≡◌, ◌<◌, ◌^◌, ℕ, subst, sym, arith}
use Rattle.byteorder.specs.Endian.{big_number}
use Rattle.byteorder.specs.Numbers.{big_from-lt}
use Rattle.marshal_plans.proofs.reading.code_at.Goals as goal

pub returns-clause-fits : goal.returns-clause-fits
returns-clause-fits c =
    let small : big_number c.args.len c.args.bytes.now < 256 ^ c.args.len =
    big_from-lt 0 c.args.len c.args.bytes.now (λ i. omega (arith, c.type_inv.bytes i)) in
    let same : c.read_uint.result ≡ big_number c.args.len c.args.bytes.now = c.read_uint.ensures in
    let P : ℕ → Type 0 = λ n. n < 256 ^ c.args.len in
    subst P (sym same) small
