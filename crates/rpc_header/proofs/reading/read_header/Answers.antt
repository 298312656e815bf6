-- The parts of the reader look for the faults in their order: a fault that a part found is the first of all.
use Rattle.std.proofs.Common.{◌<◌, sym, arith}
use Rattle.std.proofs.lemmas.List.Elements.{All-from_get_or}
use Rattle.std.proofs.lemmas.Result.{err_from_is_err_and}
use Rattle.rpc_header.proofs.Faults.{accepted_read, none_found, refused_front, refused_back, refused_piece}
use Rattle.rpc_header.proofs.Spelled.{spelled}
use Rattle.rpc_header.proofs.reading.read_header.Goals as goal

pub returns-in_err-fragments-clause-read : goal.returns-in_err-fragments-clause-read
returns-in_err-fragments-clause-read c =
    let p = err_from_is_err_and c.from_residual.result c.from_residual.ensures.1 in
    rw (p.1, p.2) (refused_front _ _ (omega arith) c.in_err-fragments.ensures.faults)

pub returns-in_err-data_len-clause-read : goal.returns-in_err-data_len-clause-read
returns-in_err-data_len-clause-read c =
    let p = err_from_is_err_and c.from_residual-in_err-data_len.result c.from_residual-in_err-data_len.ensures.1 in
    rw (p.1, p.2) (refused_back _ _ (omega arith) c.in_ok-fragments.ensures.faults c.in_err-data_len.ensures.faults)

pub returns-in_err-check_fragment-clause-read : goal.returns-in_err-check_fragment-clause-read
returns-in_err-check_fragment-clause-read c =
    let r = c.from_residual-in_err-check_fragment in
    let p = err_from_is_err_and r.result r.ensures.1 in
    rw (p.1, p.2) (refused_piece _ _ (omega arith) c.in_ok-fragments.ensures.faults c.in_ok-data_len.ensures.faults
    c.in_err-check_fragment.ensures)

pub returns-clause-read : goal.returns-clause-read
returns-clause-read c =
    let none = none_found c.args.bytes.now (omega arith) c.in_ok-fragments.ensures.faults c.in_ok-data_len.ensures.faults c.in_ok-check_fragment.ensures in
    accepted_read c.args.bytes.now c.header_of.result none (sym c.header_of.ensures)

pub returns-clause-has_spelling : goal.returns-clause-has_spelling
returns-clause-has_spelling c =
    (spelled c.args.bytes.now _ _ (All-from_get_or (λ byte. byte < 256) c.args.bytes.now 0 (λ k within. omega (arith, c.type_inv.bytes k))) (returns-clause-read c)).0

pub returns-clause-spelled : goal.returns-clause-spelled
returns-clause-spelled c =
    (spelled c.args.bytes.now _ _ (All-from_get_or (λ byte. byte < 256) c.args.bytes.now 0 (λ k within. omega (arith, c.type_inv.bytes k))) (returns-clause-read c)).1
