use Rattle.std.proofs.Common.{ℕ, ap}
use Rattle.std.proofs.Math.Nat.{mod-eq_of_lt}
use Rattle.rpc_header.specs.declared.CallNumber.{CallNumber}
use Rattle.replay_model.proofs.laws.fields_are_a_header.Goals as goal

pub returns-clause-of_header : goal.returns-clause-of_header
returns-clause-of_header c h =
    ap (λ (n : CallNumber). record h { call = record { activity = h.call.activity; number = n } }) (c.a_call_number_is_its_value.ensures h.call.number)

pub returns-clause-of_fields : goal.returns-clause-of_fields
returns-clause-of_fields c f small =
    ap (λ (n : ℕ). record f { call = record { activity = f.call.activity; number = n } }) (mod-eq_of_lt small)
