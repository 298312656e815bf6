use Rattle.std.proofs.Common.{◌≤◌, length, refl, arith}
use Rattle.std.proofs.lemmas.List.{take_rest}
use Rattle.std.proofs.lemmas.Result.{err_from_is_err_and}
use Rattle.udp_frames.proofs.Faults.{ethernet_fault, internet_fault, udp_fault, no_fault}
use Rattle.udp_frames.proofs.read.read_frame.Goals as goal

pub returns-in_err-check_ethernet-clause-fault : goal.returns-in_err-check_ethernet-clause-fault
returns-in_err-check_ethernet-clause-fault c =
    let long : 42 ≤ length c.args.buffer.now = omega arith in
    let p = err_from_is_err_and c.from_residual.result c.from_residual.ensures.1 in
    rw (p.1, p.2) (ethernet_fault c.args.buffer.now c.args.me.machine c.in_err-check_ethernet.field-0.0 long c.in_err-check_ethernet.ensures)

pub returns-in_err-from-clause-fault : goal.returns-in_err-from-clause-fault
returns-in_err-from-clause-fault c =
    let long : 42 ≤ length c.args.buffer.now = omega arith in
    let p = err_from_is_err_and c.from_residual-in_err-from.result c.from_residual-in_err-from.ensures.1 in
    rw (p.1, p.2) (internet_fault c.args.buffer.now c.args.me.machine c.in_err-from.field-0.0 long c.in_ok-check_ethernet.ensures c.in_err-from.ensures.fault)

pub returns-in_err-check_udp-clause-fault : goal.returns-in_err-check_udp-clause-fault
returns-in_err-check_udp-clause-fault c =
    let long : 42 ≤ length c.args.buffer.now = omega arith in
    let p = err_from_is_err_and c.from_residual-in_err-check_udp.result c.from_residual-in_err-check_udp.ensures.1 in
    let internet = c.in_ok-from.ensures in
    rw (p.1, p.2) (udp_fault c.args.buffer.now c.args.me.machine c.in_err-check_udp.field-0.0 long c.in_ok-check_ethernet.ensures internet.fault c.in_err-check_udp.ensures)

pub returns-clause-seen : goal.returns-clause-seen
returns-clause-seen c =
    let long : 42 ≤ length c.args.buffer.now = omega arith in
    let internet = c.in_ok-from.ensures in
    rw (take_rest c.args.buffer.now 42, internet.from)
    (no_fault c.args.buffer.now c.args.me.machine long c.in_ok-check_ethernet.ensures internet.fault c.in_ok-check_udp.ensures)
