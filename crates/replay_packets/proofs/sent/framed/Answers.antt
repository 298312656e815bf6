use Rattle.std.proofs.Common.{ℕ, List, length, arith}
use Rattle.rpc_header.specs.Spelling.{spelling}
use Rattle.replay_packets.proofs.Frames.{unframed_length, framed_back}
use Rattle.replay_packets.proofs.sent.framed.Goals as goal

pub write_headers-requires-clause-room : goal.write_headers-requires-clause-room
write_headers-requires-clause-room c =
    let spelled : List ℕ = spelling c.args.header.now (length c.args.payload.now) in
    let count = unframed_length spelled c.args.payload.now c.in_ok-frame.frame.items (c.a_spelling_is_32_bytes.ensures.count c.args.header.now _) c.in_ok-frame.ensures in
    omega (arith, count, c.deref_mut.ensures.len, c.in_ok-frame.frame.ok.0)

pub returns : goal.returns
returns c =
    let spelled : List ℕ = spelling c.args.header.now (length c.args.payload.now) in
    framed_back c.args.from.machine c.args.to.machine c.in_ok-frame.frame.len spelled c.args.payload.now c.in_ok-frame.frame.items c.deref_mut.result.now
    c.write_headers.new.buffer _ (c.a_spelling_is_32_bytes.ensures.count c.args.header.now _) c.in_ok-frame.ensures c.deref_mut.ensures.value
    (omega (arith, c.in_ok-frame.frame.ok.0)) c.write_headers.ensures.frame
