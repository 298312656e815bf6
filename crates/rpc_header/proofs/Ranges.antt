-- The numbers of the first fields fit a byte.
use Rattle.std.proofs.Common.{◌<◌, ◌≤◌, ℕ, Bool, true, false, IsTrue, arith, lit<}
use Rattle.std.proofs.lemmas.Bool.Decides.{nat_tests}
use Rattle.rpc_header.specs.declared.Kind.{Kind}
use Rattle.rpc_header.specs.declared.Kind.TheVariants as kind
use Rattle.rpc_header.specs.Fields.{flags_number, is_reason, kind_number}

pub reason_small : (kind : Kind) (reason : ℕ) → IsTrue (is_reason kind reason) → reason < 256
reason_small kind.Reject reason h = grind (arith, nat_tests)
reason_small kind.Bound reason h = grind (arith, nat_tests)
reason_small kind.Call reason h = grind (arith, nat_tests)
reason_small kind.Result reason h = grind (arith, nat_tests)
reason_small kind.Ack reason h = grind (arith, nat_tests)
reason_small kind.Probe reason h = grind (arith, nat_tests)
reason_small kind.Signal reason h = grind (arith, nat_tests)
reason_small kind.Bind reason h = grind (arith, nat_tests)

pub kind_small : (kind : Kind) → kind_number kind < 256
kind_small kind.Call = lit< tt
kind_small kind.Result = lit< tt
kind_small kind.Ack = lit< tt
kind_small kind.Probe = lit< tt
kind_small kind.Reject = lit< tt
kind_small kind.Signal = lit< tt
kind_small kind.Bind = lit< tt
kind_small kind.Bound = lit< tt

pub flags_small : (a b : Bool) → flags_number a b ≤ 3
flags_small false false = omega arith
flags_small true false = omega arith
flags_small false true = omega arith
flags_small true true = omega arith
