use Rattle.std.proofs.Common.{refl, sym}
use Rattle.rpc_header.proofs.CallNumbers.{same_number}
use Rattle.rpc_header.proofs.laws.a_call_number_is_its_value.Goals as goal

pub returns : goal.returns
returns c number = sym (same_number number number.value refl)
