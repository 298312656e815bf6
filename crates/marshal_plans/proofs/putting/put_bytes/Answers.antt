use Rattle.std.proofs.Common.{arith}
use Rattle.marshal_plans.specs.Data.{data_of, behind_bytes}
use Rattle.marshal_plans.proofs.BytesPut.{begun, one_more}
use Rattle.marshal_plans.proofs.putting.put_bytes.Goals as goal

pub loop-value-init : goal.loop-value-init
loop-value-init c = begun c.args.bytes.now c.args.others.now c.args.into.now c.put_text-place.new.into c.args.at c.put_text-place.result
    (λ i. omega (arith, c.type_inv.bytes i)) c.put_text-place.ensures

pub loop-value-preserved : goal.loop-value-preserved
loop-value-preserved c =
    let values = c.args.others.now in
    one_more (behind_bytes c.args.bytes.now (data_of values)) values c.loop-value.value-index c.args.into.now c.loop-value.into c.args.at c.loop-value.place
    c.loop-value.invariant c.value-item.result c.loop-value-test.true c.value-item.is c.put_byte.new.into c.in_ok-place.place c.in_ok-place.ensures
