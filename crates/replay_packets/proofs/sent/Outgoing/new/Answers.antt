use Rattle.replay_packets.proofs.Frames.{own_frame, packet_framed}
use Rattle.replay_packets.proofs.sent.Outgoing.new.Goals as goal

pub invariant_of-result : goal.invariant_of-result
invariant_of-result c =
    own_frame c.args.from.machine c.args.to.machine c.args.header c.args.payload.now c.in_ok-frame.frame.items
    (c.fields_are_a_header.ensures.of_header c.args.header) (c.a_spelling_is_32_bytes.ensures.count c.args.header _) c.in_ok-frame.ensures

pub returns : goal.returns
returns c =
    packet_framed c.args.from.machine c.args.to.machine c.args.header c.args.payload.now c.in_ok-frame.frame.items
    (c.a_spelling_is_32_bytes.ensures.count c.args.header _) c.in_ok-frame.ensures
